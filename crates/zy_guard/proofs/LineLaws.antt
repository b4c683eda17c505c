-- Parts of lines: a tuple or a template that is read as a part of an operation of the tuple space.
use Rattle.std.proofs.Common.{◌≡◌, ◌≢◌, ℕ, ◌+◌, ◌-◌, ◌<◌, ◌≤◌, Bool, true, false, cond, eqb, List, [], ◌∷◌, ◌++◌, length, take, drop, Option, Some, None, Result, Ok, Err, inl, inr, refl, sym, ap, subst, ◌∙◌, append_assoc, arith}
use Rattle.std.specs.Prelude.{codes, map, slice_index}
use Rattle.std.proofs.Math.Seq.{get_or-append_seam}
use Rattle.std.proofs.lemmas.Option.{same_Some}
use Rattle.std.proofs.lemmas.Bool.{eqb-true}
use Rattle.std.proofs.lemmas.Bool.Decides.{eqb_tells}
use Rattle.std.proofs.lemmas.List.{append-nil, take_at, drop_at, take_rest, take-append-drop, length-append}
use Rattle.zy_tuple.specs.declared.values.Field.{Field}
use Rattle.zy_tuple.specs.declared.values.Slot.{Slot}
use Rattle.zy_tuple.specs.declared.values.Op.{Op}
use Rattle.zy_tuple.specs.declared.values.Op.TheVariants.{Out, Rdp}
use Rattle.zy_tuple.specs.Values.{IsSlot, IsTemplate}
use Rattle.zy_tuple.specs.Texts.{slot_text, template_text, spaced}
use Rattle.zy_tuple.specs.declared.fault.LineFault.{LineFault}
use Rattle.zy_tuple.specs.declared.fault.LineFault.TheVariants as faults
use Rattle.zy_tuple.specs.Reading.{◌>>=◌, Fails, field_at, slot_at, list_at, space_at, tuple_part, template_part, finished, op_read}
use Rattle.zy_tuple.proofs.Results.{ok_chosen, bind_ok, ok_is}
use Rattle.zy_tuple.proofs.FieldLaws.{slots_read, list_takes, list_again}
use Rattle.zy_guard.specs.Lines.{last_tuple, last_template, read_or_none, whole_template, template_up_to}

pub space_takes : (line rest : List ℕ) → space_at line ≡ Ok rest → line ≡ 32 ∷ rest
space_takes [] rest e = absurd cc
space_takes (c ∷ line) rest e =
    let s = ok_chosen (eqb c 32) 2 (Ok line) rest e in
    ap (λ (d : ℕ). d ∷ line) (eqb-true c 32 s.0) ∙ ap (λ (l : List ℕ). 32 ∷ l) (ok_is line rest s.1)

-- ---- an operation of one part

module _ {A : Type 0} (make : A → Op) where
  finish : (x : A) (rest : List ℕ) → finished (make x) rest ≡ (finished x rest >>= λ y. Ok (make y))
  finish x [] = refl
  finish x (c ∷ rest) = refl

  pub finish_part : (read : Result (A × List ℕ) ℕ) → (read >>= λ part. finished (make part.0) part.1) ≡ ((read >>= λ part. finished part.0 part.1) >>= λ x. Ok (make x))
  finish_part (Ok part) = finish part.0 part.1
  finish_part (Err rule) = refl

  pub made_takes : (read : Result A ℕ) (op : Op) → (read >>= λ x. Ok (make x)) ≡ Ok op → (x : A) × (read ≡ Ok x) × (make x ≡ op)
  made_takes read op e = let a = bind_ok read (λ x. Ok (make x)) op e in (a.0, a.1, ok_is (make a.0) op a.2)

  pub made_fails : (read : Result A ℕ) (rule : ℕ) → (read >>= λ x. Ok (make x)) ≡ Err rule → read ≡ Err rule
  made_fails (Ok x) rule e = absurd cc
  made_fails (Err other) rule e = cc

-- what stands behind `out` is the tuple that ends the line
pub out_read : (rest : List ℕ) → op_read (codes "out" ++ 32 ∷ rest) ≡ (last_tuple (32 ∷ rest) >>= λ tuple. Ok (Out tuple))
unfolding op_read last_tuple
out_read rest = finish_part Out (tuple_part (32 ∷ rest))

pub rdp_read : (rest : List ℕ) → op_read (codes "rdp" ++ 32 ∷ rest) ≡ (last_template (32 ∷ rest) >>= λ template. Ok (Rdp template))
unfolding op_read last_template
rdp_read rest = finish_part Rdp (template_part (32 ∷ rest))

-- what is told of the operation is told of the tuple
module _ (line rest : List ℕ) (space : space_at line ≡ Ok rest) where
  out_is : op_read (codes "out" ++ line) ≡ (last_tuple line >>= λ tuple. Ok (Out tuple))
  out_is = let front = space_takes line rest space in ap (λ (l : List ℕ). op_read (codes "out" ++ l)) front ∙ out_read rest ∙ ap (λ (l : List ℕ). last_tuple l >>= λ tuple. Ok (Out tuple)) (sym front)

  tuple_given : (op : Op) → op_read (codes "out" ++ line) ≡ Ok op → (tuple : List Field) × (last_tuple line ≡ Ok tuple) × (Out tuple ≡ op)
  tuple_given op read = made_takes Out (last_tuple line) op (sym out_is ∙ read)

  pub tuple_only : (op : Op) → op_read (codes "out" ++ line) ≡ Ok op → (tuple : List Field) × (op ≡ Out tuple)
  tuple_only op read = let a = tuple_given op read in (a.0, sym a.2)

  pub tuple_is : (op : Op) (tuple : List Field) → op_read (codes "out" ++ line) ≡ Ok op → op ≡ Out tuple → last_tuple line ≡ Ok tuple
  tuple_is op tuple read is = let a = tuple_given op read in a.1 ∙ ap Ok (same_out a.0 tuple (a.2 ∙ is))
    where
      same_out : (a b : List Field) → Out a ≡ Out b → a ≡ b
      same_out a b is = cc

  pub tuple_fault : (fault : LineFault) → Fails fault (op_read (codes "out" ++ line)) → Fails fault (last_tuple line)
  tuple_fault faults.Want fails = tt
  tuple_fault (faults.Rule rule) fails = made_fails Out (last_tuple line) rule (sym out_is ∙ fails)

  rdp_is : op_read (codes "rdp" ++ line) ≡ (last_template line >>= λ template. Ok (Rdp template))
  rdp_is = let front = space_takes line rest space in ap (λ (l : List ℕ). op_read (codes "rdp" ++ l)) front ∙ rdp_read rest ∙ ap (λ (l : List ℕ). last_template l >>= λ template. Ok (Rdp template)) (sym front)

  template_given : (op : Op) → op_read (codes "rdp" ++ line) ≡ Ok op → (template : List Slot) × (last_template line ≡ Ok template) × (Rdp template ≡ op)
  template_given op read = made_takes Rdp (last_template line) op (sym rdp_is ∙ read)

  pub template_only : (op : Op) → op_read (codes "rdp" ++ line) ≡ Ok op → (template : List Slot) × (op ≡ Rdp template)
  template_only op read = let a = template_given op read in (a.0, sym a.2)

  pub template_is : (op : Op) (template : List Slot) → op_read (codes "rdp" ++ line) ≡ Ok op → op ≡ Rdp template → last_template line ≡ Ok template
  template_is op template read is = let a = template_given op read in a.1 ∙ ap Ok (same_rdp a.0 template (a.2 ∙ is))
    where
      same_rdp : (a b : List Slot) → Rdp a ≡ Rdp b → a ≡ b
      same_rdp a b is = cc

  pub template_fault : (fault : LineFault) → Fails fault (op_read (codes "rdp" ++ line)) → Fails fault (last_template line)
  template_fault faults.Want fails = tt
  template_fault (faults.Rule rule) fails = made_fails Rdp (last_template line) rule (sym rdp_is ∙ fails)

-- no part stands where no space does
pub no_tuple : (line : List ℕ) (fault : LineFault) → Fails fault (space_at line) → Fails fault (last_tuple line)
unfolding last_tuple tuple_part
no_tuple line faults.Want fails = tt
no_tuple line (faults.Rule rule) fails = ap (λ (r : Result (List ℕ) ℕ). (r >>= λ rest. list_at field_at rest) >>= λ tuple. finished tuple.0 tuple.1) fails

pub no_template : (line : List ℕ) (fault : LineFault) → Fails fault (space_at line) → Fails fault (last_template line)
unfolding last_template template_part
no_template line faults.Want fails = tt
no_template line (faults.Rule rule) fails = ap (λ (r : Result (List ℕ) ℕ). (r >>= λ rest. list_at slot_at rest) >>= λ template. finished template.0 template.1) fails

-- ---- the template in front of a line

template_takes : (line : List ℕ) (slots : List Slot) (rest : List ℕ) → template_part line ≡ Ok (slots, rest) → (line ≡ 32 ∷ template_text slots ++ rest) × IsTemplate slots
unfolding template_part
template_takes line slots rest e =
    let a = bind_ok (space_at line) (λ l. list_at slot_at l) (slots, rest) e in
    let t = list_takes slot_text IsSlot slot_at slots_read a.0 slots rest a.2 in
    (space_takes line a.0 a.1 ∙ ap (λ (l : List ℕ). 32 ∷ l) t.0, t.1)

template_again : (slots : List Slot) (rest : List ℕ) → IsTemplate slots → template_part (32 ∷ template_text slots ++ rest) ≡ Ok (slots, rest)
unfolding template_part
template_again slots rest fits = list_again slot_text IsSlot slot_at slots_read slots rest fits

finished_takes : {A : Type 0} (x y : A) (rest : List ℕ) → finished x rest ≡ Ok y → (rest ≡ []) × (x ≡ y)
finished_takes x y [] e = (refl, ok_is x y e)
finished_takes x y (c ∷ rest) e = absurd cc

-- a template that all of a text is
last_takes : (text : List ℕ) (template : List Slot) → last_template text ≡ Ok template → (text ≡ 32 ∷ template_text template) × IsTemplate template
unfolding last_template
last_takes text template e =
    let a = bind_ok (template_part text) (λ t. finished t.0 t.1) template e in
    let f = finished_takes a.0.0 template a.0.1 a.2 in
    let t = template_takes text a.0.0 a.0.1 a.1 in
    let all : text ≡ 32 ∷ template_text a.0.0 = t.0 ∙ ap (λ (rest : List ℕ). 32 ∷ template_text a.0.0 ++ rest) f.0 ∙ ap (λ (l : List ℕ). 32 ∷ l) (append-nil (template_text a.0.0)) in
    subst (λ (x : List Slot). (text ≡ 32 ∷ template_text x) × IsTemplate x) f.1 (all, t.1)

last_again : (template : List Slot) → IsTemplate template → last_template (32 ∷ template_text template) ≡ Ok template
unfolding last_template
last_again template fits =
    let read : template_part (32 ∷ template_text template) ≡ Ok (template, []) =
    subst (λ (l : List ℕ). template_part (32 ∷ l) ≡ Ok (template, [])) (append-nil (template_text template)) (template_again template [] fits) in
    ap (λ (r : Result (List Slot × List ℕ) ℕ). r >>= λ t. finished t.0 t.1) read

-- a template up to some place stands in front of the whole
pub front_is : (line text rest : List ℕ) (template : List Slot) → line ≡ text ++ rest → last_template text ≡ Ok template → template_part line ≡ Ok (template, rest)
front_is line text rest template parts e =
    let t = last_takes text template e in
    ap template_part (parts ∙ ap (λ (l : List ℕ). l ++ rest) t.0) ∙ template_again template rest t.1

read_is : (read : Result (List Slot) ℕ) (template : List Slot) → read_or_none read ≡ Some template → read ≡ Ok template
read_is (Ok other) template is = ap Ok (same_Some other template is)
read_is (Err rule) template is = absurd (cc)

bracket_or_not : (b : Bool) (found : Option (List Slot)) (template : List Slot) → cond b found None ≡ Some template → found ≡ Some template
bracket_or_not true found template is = is
bracket_or_not false found template is = absurd (cc)

-- a template that ends somewhere stands in front of the whole
pub front_given : (line : List ℕ) (place : ℕ) (template : List Slot) → template_up_to line place ≡ Some template
    → template_part line ≡ Ok (template, take (length line - (place + 1)) (drop (place + 1) line))
front_given line place template is =
    front_is line (take (place + 1) line) (drop (place + 1) line) template (sym (take-append-drop (place + 1) line))
    (read_is (last_template (take (place + 1) line)) template (bracket_or_not (eqb (slice_index line place) 41) (whole_template (take (place + 1) line)) template is))
    ∙ ap (λ (rest : List ℕ). Ok (template, rest)) (sym (take_rest line (place + 1)))

-- none ends before this place
pub NoneEnds : List ℕ → ℕ → Type 0
NoneEnds line place = (k : ℕ) → k < place → template_up_to line k ≡ None

pub none_before : (line : List ℕ) → NoneEnds line 0
unfolding NoneEnds
none_before line k below = absurd (omega (arith, below))

pub none_yet : (line : List ℕ) (place : ℕ) → NoneEnds line place → template_up_to line place ≡ None → NoneEnds line (place + 1)
unfolding NoneEnds
none_yet line place none here k below =
    elim (eqb_tells k place) [
      | inl same ↦ subst (λ (p : ℕ). template_up_to line p ≡ None) (sym same.1) here
      | inr other ↦ none k (omega (arith, below, other.1))
    ]

bracket_front : List Slot → List ℕ
bracket_front template = 32 ∷ 40 ∷ spaced (map slot_text template)

-- a template's text ends by a bracket
text_ends : (template : List Slot) → 32 ∷ template_text template ≡ bracket_front template ++ 41 ∷ []
unfolding bracket_front
text_ends template = refl

ends_somewhere : (line : List ℕ) (template : List Slot) (rest : List ℕ) → NoneEnds line (length line) → template_part line ≡ Ok (template, rest) → ⊥
unfolding NoneEnds
ends_somewhere line template rest none e =
    let t = template_takes line template rest e in
    let front = bracket_front template in
    let split : line ≡ front ++ 41 ∷ rest = t.0 ∙ ap (λ (l : List ℕ). l ++ rest) (text_ends template) ∙ append_assoc front (41 ∷ []) rest in
    let here : slice_index line (length front) ≡ 41 = ap (λ (l : List ℕ). slice_index l (length front)) split ∙ get_or-append_seam front 41 rest 0 in
    let whole : take (length front + 1) line ≡ 32 ∷ template_text template =
    ap (take (length front + 1)) (t.0 ∙ ap (λ (l : List ℕ). l ++ rest) (text_ends template)) ∙ take_at (front ++ 41 ∷ []) rest (length front + 1) (length-append front (41 ∷ [])) ∙ sym (text_ends template) in
    let found : template_up_to line (length front) ≡ Some template = rw (here, ap last_template whole ∙ last_again template t.1) refl in
    let both : Some template ≡ None = sym found ∙ none (length front) (omega (arith, ap length split, length-append front (41 ∷ rest))) in
    absurd (cc)

front_fails_so : (line : List ℕ) (read : Result (List Slot × List ℕ) ℕ) → NoneEnds line (length line) → template_part line ≡ read → (read >>= λ t. finished t.0 t.1) ≡ Err 6 → template_part line ≡ Err 6
front_fails_so line (Ok part) none is six = absurd (ends_somewhere line part.0 part.1 none is)
front_fails_so line (Err rule) none is six = let same : rule ≡ 6 = cc in is ∙ ap (λ (r : ℕ). Err r) same

pub front_fails : (line : List ℕ) (place : ℕ) → length line ≤ place → place ≤ length line → NoneEnds line place → last_template line ≡ Err 6 → template_part line ≡ Err 6
unfolding last_template
front_fails line place all within none six =
    let same : place ≡ length line = omega (arith, all, within) in
    front_fails_so line (template_part line) (subst (NoneEnds line) same none) refl six

-- ---- a template that ends the line stands in front of nothing

last_is_front : (line : List ℕ) (template : List Slot) → last_template line ≡ Ok template → template_part line ≡ Ok (template, [])
last_is_front line template e = front_is line line [] template (sym (append-nil line)) e

nothing_behind : (line : List ℕ) → drop (length line) line ≡ []
nothing_behind line = ap (drop (length line)) (sym (append-nil line)) ∙ drop_at line [] (length line) refl

pub last_is_whole : (line : List ℕ) (template : List Slot) → last_template line ≡ Ok template → template_part line ≡ Ok (template, take (length line - length line) (drop (length line) line))
last_is_whole line template e = last_is_front line template e ∙ ap (λ (rest : List ℕ). Ok (template, rest)) (sym (take_rest line (length line) ∙ nothing_behind line))

not_six : (line : List ℕ) (read : Result (List Slot × List ℕ) ℕ) (rule : ℕ) → (read >>= λ t. finished t.0 t.1) ≡ Err rule → rule ≢ 6 → read ≡ Err rule
not_six line (Ok part) rule e other = absurd (ended part.0 part.1 e)
  where
    ended : (template : List Slot) (rest : List ℕ) → finished template rest ≡ Err rule → ⊥
    ended template [] e = absurd cc
    ended template (c ∷ rest) e = other (sym six)
      where
        six : 6 ≡ rule
        six = cc
not_six line (Err same) rule e other = cc

pub other_fault : (line : List ℕ) (rule : ℕ) → last_template line ≡ Err rule → rule ≢ 6 → template_part line ≡ Err rule
unfolding last_template
other_fault line rule e other = not_six line (template_part line) rule e other

pub not_whole : (line : List ℕ) (rule : ℕ) (fault : LineFault) → fault ≡ faults.Rule rule → Fails fault (last_template line) → last_template line ≡ Err rule
not_whole line rule faults.Want is fails = absurd (cc)
not_whole line rule (faults.Rule other) is fails = let same : other ≡ rule = cc in fails ∙ ap (λ (r : ℕ). Err r) same
