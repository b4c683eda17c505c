-- Operations and replies: what is read was spelled so, and what is spelled so is read.
use Rattle.std.proofs.Common.{◌≡◌, ℕ, true, cond, eqb, List, [], ◌∷◌, ◌++◌, length, take, drop, Result, Ok, Err, refl, sym, ap, subst, ◌∙◌, inl, inr}
use Rattle.std.specs.Prelude.{codes, take_while}
use Rattle.std.proofs.lemmas.List.{append-nil, take-append-drop, nil_from_length}
use Rattle.std.specs.Str.{bytes_eq}
use Rattle.std.proofs.lemmas.Bool.{eqb-true}
use Rattle.std.proofs.lemmas.Slice.Eq.{bytes_eq-Decides}
use Rattle.zy_tuple.specs.declared.values.Field.{Field}
use Rattle.zy_tuple.specs.declared.values.Slot.{Slot}
use Rattle.zy_tuple.specs.declared.values.Op.{Op}
use Rattle.zy_tuple.specs.declared.values.Op.TheVariants.{Out, Rdp, Inp, Cas}
use Rattle.zy_tuple.specs.declared.values.Reply.{Reply}
use Rattle.zy_tuple.specs.declared.values.Reply.TheVariants.{Done, Got, Nothing, True, False, Full, Bad}
use Rattle.zy_tuple.specs.Values.{IsField, IsSlot, IsTuple, IsTemplate, IsOp, IsReply}
use Rattle.zy_tuple.specs.Texts.{field_text, slot_text, tuple_text, template_text, op_text, reply_text}
use Rattle.zy_tuple.specs.Reading.{◌>>=◌, in_word, field_at, slot_at, list_at, space_at, tuple_part, template_part, finished, op_read, whole_tuple, got_read, reply_read}
use Rattle.zy_tuple.proofs.Results.{chosen, ok_chosen, bind_ok, ok_is}
use Rattle.zy_tuple.proofs.NumberLaws.{take_while_parts}
use Rattle.zy_tuple.proofs.FieldLaws.{fields_read, slots_read, list_takes, list_again}

-- ---- parts

space_takes : (line rest : List ℕ) → space_at line ≡ Ok rest → line ≡ 32 ∷ rest
space_takes [] rest e = absurd cc
space_takes (c ∷ line) rest e =
    let s = ok_chosen (eqb c 32) 2 (Ok line) rest e in
    ap (λ (d : ℕ). d ∷ line) (eqb-true c 32 s.0) ∙ ap (λ (l : List ℕ). 32 ∷ l) (ok_is line rest s.1)

tuple_takes : (line : List ℕ) (fields : List Field) (rest : List ℕ) → tuple_part line ≡ Ok (fields, rest) → (line ≡ 32 ∷ tuple_text fields ++ rest) × IsTuple fields
unfolding tuple_part
tuple_takes line fields rest e =
    let a = bind_ok (space_at line) (λ l. list_at field_at l) (fields, rest) e in
    let t = list_takes field_text IsField field_at fields_read a.0 fields rest a.2 in
    (space_takes line a.0 a.1 ∙ ap (λ (l : List ℕ). 32 ∷ l) t.0, t.1)

template_takes : (line : List ℕ) (slots : List Slot) (rest : List ℕ) → template_part line ≡ Ok (slots, rest) → (line ≡ 32 ∷ template_text slots ++ rest) × IsTemplate slots
unfolding template_part
template_takes line slots rest e =
    let a = bind_ok (space_at line) (λ l. list_at slot_at l) (slots, rest) e in
    let t = list_takes slot_text IsSlot slot_at slots_read a.0 slots rest a.2 in
    (space_takes line a.0 a.1 ∙ ap (λ (l : List ℕ). 32 ∷ l) t.0, t.1)

tuple_again : (fields : List Field) (rest : List ℕ) → IsTuple fields → tuple_part (32 ∷ tuple_text fields ++ rest) ≡ Ok (fields, rest)
unfolding tuple_part
tuple_again fields rest fits = list_again field_text IsField field_at fields_read fields rest fits

template_again : (slots : List Slot) (rest : List ℕ) → IsTemplate slots → template_part (32 ∷ template_text slots ++ rest) ≡ Ok (slots, rest)
unfolding template_part
template_again slots rest fits = list_again slot_text IsSlot slot_at slots_read slots rest fits

finished_takes : {A : Type 0} (x y : A) (rest : List ℕ) → finished x rest ≡ Ok y → (rest ≡ []) × (x ≡ y)
finished_takes x y [] e = (refl, ok_is x y e)
finished_takes x y (c ∷ rest) e = absurd cc

-- a part that ends the line
tuple_last : (make : List Field → Op) (line : List ℕ) (op : Op) → (tuple_part line >>= λ tuple. finished (make tuple.0) tuple.1) ≡ Ok op → (fields : List Field) × (line ≡ 32 ∷ tuple_text fields) × IsTuple fields × (make fields ≡ op)
tuple_last make line op e =
    let a = bind_ok (tuple_part line) (λ tuple. finished (make tuple.0) tuple.1) op e in
    let t = tuple_takes line a.0.0 a.0.1 a.1 in
    let f = finished_takes (make a.0.0) op a.0.1 a.2 in
    (a.0.0, t.0 ∙ ap (λ (r : List ℕ). 32 ∷ tuple_text a.0.0 ++ r) f.0 ∙ ap (λ (r : List ℕ). 32 ∷ r) (append-nil (tuple_text a.0.0)), t.1, f.1)

template_last : (make : List Slot → Op) (line : List ℕ) (op : Op) → (template_part line >>= λ template. finished (make template.0) template.1) ≡ Ok op → (slots : List Slot) × (line ≡ 32 ∷ template_text slots) × IsTemplate slots × (make slots ≡ op)
template_last make line op e =
    let a = bind_ok (template_part line) (λ template. finished (make template.0) template.1) op e in
    let t = template_takes line a.0.0 a.0.1 a.1 in
    let f = finished_takes (make a.0.0) op a.0.1 a.2 in
    (a.0.0, t.0 ∙ ap (λ (r : List ℕ). 32 ∷ template_text a.0.0 ++ r) f.0 ∙ ap (λ (r : List ℕ). 32 ∷ r) (append-nil (template_text a.0.0)), t.1, f.1)

-- ---- operations

-- a line after its first word
pub record IsSpelled (front line : List ℕ) (op : Op) : Type 0 where
  pub text : front ++ line ≡ op_text op
  pub fits : IsOp op

out_takes : (line : List ℕ) (op : Op) → (tuple_part line >>= λ tuple. finished (Out tuple.0) tuple.1) ≡ Ok op → IsSpelled (codes "out") line op
out_takes line op e =
    let t = tuple_last (λ fields. Out fields) line op e in
    subst (λ (o : Op). IsSpelled (codes "out") line o) t.3 (record { text = ap (λ (l : List ℕ). codes "out" ++ l) t.1; fits = t.2 })

rdp_takes : (line : List ℕ) (op : Op) → (template_part line >>= λ template. finished (Rdp template.0) template.1) ≡ Ok op → IsSpelled (codes "rdp") line op
rdp_takes line op e =
    let t = template_last (λ slots. Rdp slots) line op e in
    subst (λ (o : Op). IsSpelled (codes "rdp") line o) t.3 (record { text = ap (λ (l : List ℕ). codes "rdp" ++ l) t.1; fits = t.2 })

inp_takes : (line : List ℕ) (op : Op) → (template_part line >>= λ template. finished (Inp template.0) template.1) ≡ Ok op → IsSpelled (codes "inp") line op
inp_takes line op e =
    let t = template_last (λ slots. Inp slots) line op e in
    subst (λ (o : Op). IsSpelled (codes "inp") line o) t.3 (record { text = ap (λ (l : List ℕ). codes "inp" ++ l) t.1; fits = t.2 })

cas_takes : (line : List ℕ) (op : Op) → (template_part line >>= λ template. tuple_part template.1 >>= λ tuple. finished (Cas template.0 tuple.0) tuple.1) ≡ Ok op → IsSpelled (codes "cas") line op
cas_takes line op e =
    let a = bind_ok (template_part line) (λ template. tuple_part template.1 >>= λ tuple. finished (Cas template.0 tuple.0) tuple.1) op e in
    let t = template_takes line a.0.0 a.0.1 a.1 in
    let u = tuple_last (λ fields. Cas a.0.0 fields) a.0.1 op a.2 in
    subst (λ (o : Op). IsSpelled (codes "cas") line o) u.3 (record { text = ap (λ (l : List ℕ). codes "cas" ++ l) (t.0 ∙ ap (λ (r : List ℕ). 32 ∷ template_text a.0.0 ++ r) u.1); fits = (t.1, u.2) })

word_is : (a b : List ℕ) → bytes_eq a b ≡ true → a ≡ b
word_is a b e = (bytes_eq-Decides a b).0 e

-- the first word, and then the rest
spelled_whole : (line front : List ℕ) (op : Op) → bytes_eq (take_while in_word line) front ≡ true → IsSpelled front (drop (length (take_while in_word line)) line) op → (line ≡ op_text op) × IsOp op
spelled_whole line front op word s =
    (take_while_parts in_word line ∙ ap (λ (f : List ℕ). f ++ drop (length (take_while in_word line)) line) (word_is (take_while in_word line) front word) ∙ s.text, s.fits)

pub op_takes : (line : List ℕ) (op : Op) → op_read line ≡ Ok op → (line ≡ op_text op) × IsOp op
unfolding op_read
op_takes line op e =
    let word = take_while in_word line in
    let rest = drop (length word) line in
    let out = tuple_part rest >>= λ tuple. finished (Out tuple.0) tuple.1 in
    let rdp = template_part rest >>= λ template. finished (Rdp template.0) template.1 in
    let inp = template_part rest >>= λ template. finished (Inp template.0) template.1 in
    let cas = template_part rest >>= λ template. tuple_part template.1 >>= λ tuple. finished (Cas template.0 tuple.0) tuple.1 in
    let last = cond (bytes_eq word (codes "cas")) cas (Err 1) in
    let third = cond (bytes_eq word (codes "inp")) inp last in
    let second = cond (bytes_eq word (codes "rdp")) rdp third in
    elim (chosen (bytes_eq word (codes "out")) out second (Ok op) e) [
      | inl s ↦ spelled_whole line (codes "out") op s.0 (out_takes rest op s.1)
      | inr s ↦
          elim (chosen (bytes_eq word (codes "rdp")) rdp third (Ok op) s.1) [
            | inl t ↦ spelled_whole line (codes "rdp") op t.0 (rdp_takes rest op t.1)
            | inr t ↦
                elim (chosen (bytes_eq word (codes "inp")) inp last (Ok op) t.1) [
                  | inl u ↦ spelled_whole line (codes "inp") op u.0 (inp_takes rest op u.1)
                  | inr u ↦ let v = ok_chosen (bytes_eq word (codes "cas")) 1 cas op u.1 in spelled_whole line (codes "cas") op v.0 (cas_takes rest op v.1)
                ]
          ]
    ]

-- a text ends where it ends
tuple_ends : (fields : List Field) → IsTuple fields → tuple_part (32 ∷ tuple_text fields) ≡ Ok (fields, [])
tuple_ends fields fits = ap (λ (t : List ℕ). tuple_part (32 ∷ t)) (sym (append-nil (tuple_text fields))) ∙ tuple_again fields [] fits

template_ends : (slots : List Slot) → IsTemplate slots → template_part (32 ∷ template_text slots) ≡ Ok (slots, [])
template_ends slots fits = ap (λ (t : List ℕ). template_part (32 ∷ t)) (sym (append-nil (template_text slots))) ∙ template_again slots [] fits

pub op_again : (op : Op) → IsOp op → op_read (op_text op) ≡ Ok op
unfolding op_read
op_again (Out tuple) fits = rw (tuple_ends tuple fits) refl
op_again (Rdp template) fits = rw (template_ends template fits) refl
op_again (Inp template) fits = rw (template_ends template fits) refl
op_again (Cas template tuple) fits = rw (template_again template (32 ∷ tuple_text tuple) fits.0, tuple_ends tuple fits.1) refl

-- ---- replies

whole_takes : (read : Result (List Field × List ℕ) ℕ) (reply : Reply) → whole_tuple read ≡ Ok reply → (fields : List Field) × (read ≡ Ok (fields, [])) × (Got fields ≡ reply)
whole_takes (Err rule) reply e = absurd cc
whole_takes (Ok tuple) reply e =
    let s = ok_chosen (eqb (length tuple.1) 0) 10 (Ok (Got tuple.0)) reply e in
    (tuple.0, ap (λ (r : List ℕ). Ok (tuple.0, r)) (nil_from_length tuple.1 (eqb-true (length tuple.1) 0 s.0)), ok_is (Got tuple.0) reply s.1)

got_takes : (text : List ℕ) (reply : Reply) → got_read text ≡ Ok reply → IsReply reply × (text ≡ reply_text reply)
unfolding got_read
got_takes text reply e =
    let s = ok_chosen (bytes_eq (take 6 text) (codes "tuple ")) 10 (whole_tuple (list_at field_at (drop 6 text))) reply e in
    let w = whole_takes (list_at field_at (drop 6 text)) reply s.1 in
    let t = list_takes field_text IsField field_at fields_read (drop 6 text) w.0 [] w.1 in
    let parts : text ≡ codes "tuple " ++ tuple_text w.0 = sym (take-append-drop 6 text) ∙ ap (λ (f : List ℕ). f ++ drop 6 text) (word_is (take 6 text) (codes "tuple ") s.0) ∙ ap (λ (l : List ℕ). codes "tuple " ++ l) (t.0 ∙ append-nil (tuple_text w.0)) in
    subst (λ (r : Reply). IsReply r × (text ≡ reply_text r)) w.2 (t.1, parts)

abbrev done_reply : Reply → Result Reply ℕ
done_reply reply = Ok reply

-- a reply without a tuple
plain_takes : (reply made : Reply) (text front : List ℕ) → IsReply made → reply_text made ≡ front → bytes_eq text front ≡ true → done_reply made ≡ Ok reply → IsReply reply × (text ≡ reply_text reply)
plain_takes reply made text front fits spelled same is = subst (λ (r : Reply). IsReply r × (text ≡ reply_text r)) (ok_is made reply is) (fits, word_is text front same ∙ sym spelled)

pub reply_takes : (text : List ℕ) (reply : Reply) → reply_read text ≡ Ok reply → IsReply reply × (text ≡ reply_text reply)
unfolding reply_read
reply_takes text reply e =
    let last = got_read text in
    let bad = cond (bytes_eq text (codes "bad")) (done_reply Bad) last in
    let full = cond (bytes_eq text (codes "full")) (done_reply Full) bad in
    let not = cond (bytes_eq text (codes "false")) (done_reply False) full in
    let yes = cond (bytes_eq text (codes "true")) (done_reply True) not in
    let none = cond (bytes_eq text (codes "none")) (done_reply Nothing) yes in
    elim (chosen (bytes_eq text (codes "ok")) (done_reply Done) none (Ok reply) e) [
      | inl s ↦ plain_takes reply Done text (codes "ok") tt refl s.0 s.1
      | inr s ↦
          elim (chosen (bytes_eq text (codes "none")) (done_reply Nothing) yes (Ok reply) s.1) [
            | inl t ↦ plain_takes reply Nothing text (codes "none") tt refl t.0 t.1
            | inr t ↦
                elim (chosen (bytes_eq text (codes "true")) (done_reply True) not (Ok reply) t.1) [
                  | inl u ↦ plain_takes reply True text (codes "true") tt refl u.0 u.1
                  | inr u ↦
                      elim (chosen (bytes_eq text (codes "false")) (done_reply False) full (Ok reply) u.1) [
                        | inl v ↦ plain_takes reply False text (codes "false") tt refl v.0 v.1
                        | inr v ↦
                            elim (chosen (bytes_eq text (codes "full")) (done_reply Full) bad (Ok reply) v.1) [
                              | inl w ↦ plain_takes reply Full text (codes "full") tt refl w.0 w.1
                              | inr w ↦
                                  elim (chosen (bytes_eq text (codes "bad")) (done_reply Bad) last (Ok reply) w.1) [
                                    | inl x ↦ plain_takes reply Bad text (codes "bad") tt refl x.0 x.1
                                    | inr x ↦ got_takes text reply x.1
                                  ]
                            ]
                      ]
                ]
          ]
    ]

pub reply_again : (reply : Reply) → IsReply reply → reply_read (reply_text reply) ≡ Ok reply
unfolding reply_read got_read
reply_again Done fits = refl
reply_again (Got tuple) fits =
    let at : list_at field_at (tuple_text tuple) ≡ Ok (tuple, []) = ap (list_at field_at) (sym (append-nil (tuple_text tuple))) ∙ list_again field_text IsField field_at fields_read tuple [] fits in
    rw at refl
reply_again Nothing fits = refl
reply_again True fits = refl
reply_again False fits = refl
reply_again Full fits = refl
reply_again Bad fits = refl
