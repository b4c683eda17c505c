-- Fields, slots and lists of them: what is read was spelled so, and what was spelled so is read again.
use Rattle.std.proofs.Common.{◌≡◌, ℕ, zero, suc, ℤ, pos, negsuc, ◌≤◌, Bool, true, false, cond, eqb, List, [], ◌∷◌, ◌++◌, length, map, Result, Ok, Err, FitsSigned, w64, refl, sym, ap, subst, ◌∙◌, inl, inr, append_assoc, arith}
use Rattle.std.specs.Prelude.{◌||◌}
use Rattle.std.specs.Char.{is_ascii_digit}
use Rattle.std.specs.Str.{all_ascii_digits}
use Rattle.std.specs.Fmt.{decimal, signed_decimal}
use Rattle.std.specs.List.{AllByRecursion, flat_map}
use Rattle.std.proofs.lemmas.List.{append-nil}
use Rattle.std.proofs.lemmas.Bool.{eqb-true}
use Rattle.std.proofs.lemmas.Bool.Decides.{nat_tests}
use Rattle.zy_tuple.specs.declared.values.Field.{Field}
use Rattle.zy_tuple.specs.declared.values.Field.TheVariants.{Int, Text}
use Rattle.zy_tuple.specs.declared.values.Slot.{Slot}
use Rattle.zy_tuple.specs.declared.values.Slot.TheVariants.{Any, Is}
use Rattle.zy_tuple.specs.Values.{IsField, IsSlot, IsFew}
use Rattle.zy_tuple.specs.Texts.{escaped, field_text, slot_text, spaced, bracketed}
use Rattle.zy_tuple.specs.Reading.{◌>>=◌, in_token, int_at, short_text, quoted, field_at, slot_at, after_field, begins_field, fields_at, open_at, begins_with, list_at}
use Rattle.zy_tuple.proofs.Results.{both, chosen, ok_chosen, ok_passed, bind_ok, ok_is}
use Rattle.zy_tuple.proofs.NumberLaws.{IsNumeral, decimal_is, int_at_takes, int_at_again}
use Rattle.zy_tuple.proofs.QuotedLaws.{text_takes, text_again}

-- a text, what has it, and its reader
pub record IsRead {A : Type 0} (text : A → List ℕ) (Fits : A → Type 0) (item_at : List ℕ → Result (A × List ℕ) ℕ) : Type 0 where
  -- what is read was spelled so
  pub takes : (line : List ℕ) (x : A) (rest : List ℕ) → item_at line ≡ Ok (x, rest) → (line ≡ text x ++ rest) × Fits x
  -- what is spelled so is read, in front of a byte that ends a token
  pub again : (x : A) (c : ℕ) (rest : List ℕ) → Fits x → in_token c ≡ false → item_at (text x ++ c ∷ rest) ≡ Ok (x, c ∷ rest)
  -- and no closing bracket stands in its front
  pub begins : (x : A) (rest : List ℕ) → Fits x → begins_with 41 (text x ++ rest) ≡ false

-- ---- fields

field_takes : (line : List ℕ) (field : Field) (rest : List ℕ) → field_at line ≡ Ok (field, rest) → (line ≡ field_text field ++ rest) × IsField field
unfolding field_at
field_takes [] field rest e = absurd cc
field_takes (c ∷ line) field rest e =
    let others = cond (eqb c 45 || is_ascii_digit c) (int_at (c ∷ line)) (cond (eqb c 42) (Err 7) (Err 2)) in
    elim (chosen (eqb c 34) (short_text (quoted false line)) others (Ok (field, rest)) e) [
      | inl s ↦ let t = text_takes line field rest s.1 in (ap (λ (d : ℕ). d ∷ line) (eqb-true c 34 s.0) ∙ t.0, t.1)
      | inr s ↦
          elim (chosen (eqb c 45 || is_ascii_digit c) (int_at (c ∷ line)) (cond (eqb c 42) (Err 7) (Err 2)) (Ok (field, rest)) s.1) [
            | inl u ↦ int_at_takes (c ∷ line) field rest u.1
            | inr u ↦ let v = ok_passed (eqb c 42) 7 (Err 2) (field, rest) u.1 in absurd (let w = v.1 in cc)
          ]
    ]

-- the first byte of a number
pub record BeginsNumber (text : List ℕ) : Type 0 where
  first : ℕ
  others : List ℕ
  text-is : text ≡ first ∷ others
  sign : (eqb first 45 || is_ascii_digit first) ≡ true

begins_digit : (d : ℕ) → is_ascii_digit d ≡ true → (eqb d 45 || is_ascii_digit d) ≡ true
begins_digit d digit = grind (arith, nat_tests)

digits_begin : (ds : List ℕ) → IsNumeral ds → BeginsNumber ds
digits_begin [] n = absurd (omega (arith, n.some))
digits_begin (d ∷ ds) n = record { first = d; others = ds; text-is = refl; sign = begins_digit d (both (is_ascii_digit d) (all_ascii_digits ds) n.digits).0 }

int_begins : (n : ℤ) → FitsSigned w64 n → BeginsNumber (signed_decimal n)
int_begins (pos n) fits = digits_begin (decimal n) (decimal_is n (omega arith))
int_begins (negsuc n) fits = record { first = 45; others = decimal (suc n); text-is = refl; sign = refl }

no_quote : (d : ℕ) → (eqb d 45 || is_ascii_digit d) ≡ true → eqb d 34 ≡ false
no_quote d sign = grind (arith, nat_tests)

no_closing : (d : ℕ) → (eqb d 45 || is_ascii_digit d) ≡ true → eqb d 41 ≡ false
no_closing d sign = grind (arith, nat_tests)

no_wildcard : (d : ℕ) → (eqb d 45 || is_ascii_digit d) ≡ true → eqb d 42 ≡ false
no_wildcard d sign = grind (arith, nat_tests)

number_field : (d : ℕ) (line : List ℕ) → (eqb d 45 || is_ascii_digit d) ≡ true → field_at (d ∷ line) ≡ int_at (d ∷ line)
unfolding field_at
number_field d line sign = rw (no_quote d sign, sign) refl

field_again : (field : Field) (c : ℕ) (rest : List ℕ) → IsField field → in_token c ≡ false → field_at (field_text field ++ c ∷ rest) ≡ Ok (field, c ∷ rest)
unfolding field_at
field_again (Int n) c rest fits stop =
    let b = int_begins n fits in
    ap (λ (ts : List ℕ). field_at (ts ++ c ∷ rest)) b.text-is ∙ number_field b.first (b.others ++ c ∷ rest) b.sign ∙ ap (λ (ts : List ℕ). int_at (ts ++ c ∷ rest)) (sym b.text-is) ∙ int_at_again n c rest fits stop
field_again (Text text) c rest fits stop = text_again text (c ∷ rest) fits.0 fits.1

field_begins : (field : Field) (rest : List ℕ) → IsField field → begins_with 41 (field_text field ++ rest) ≡ false
field_begins (Int n) rest fits =
    let b = int_begins n fits in
    ap (λ (ts : List ℕ). begins_with 41 (ts ++ rest)) b.text-is ∙ no_closing b.first b.sign
field_begins (Text text) rest fits = refl

pub fields_read : IsRead field_text IsField field_at
fields_read = record { takes = field_takes; again = field_again; begins = field_begins }

-- ---- slots

slot_takes : (line : List ℕ) (slot : Slot) (rest : List ℕ) → slot_at line ≡ Ok (slot, rest) → (line ≡ slot_text slot ++ rest) × IsSlot slot
unfolding slot_at
slot_takes [] slot rest e = absurd cc
slot_takes (c ∷ line) slot rest e =
    let is : (Field × List ℕ) → Result (Slot × List ℕ) ℕ = λ field. Ok (Is field.0, field.1) in
    let any : Slot × List ℕ = (Any, line) in
    elim (chosen (eqb c 42) (Ok any) (field_at (c ∷ line) >>= is) (Ok (slot, rest)) e) [
      | inl s ↦ subst (λ (x : Slot × List ℕ). (c ∷ line ≡ slot_text x.0 ++ x.1) × IsSlot x.0) (ok_is any (slot, rest) s.1) (ap (λ (d : ℕ). d ∷ line) (eqb-true c 42 s.0), tt)
      | inr s ↦
          let b = bind_ok (field_at (c ∷ line)) is (slot, rest) s.1 in
          let made : Slot × List ℕ = (Is b.0.0, b.0.1) in
          subst (λ (x : Slot × List ℕ). (c ∷ line ≡ slot_text x.0 ++ x.1) × IsSlot x.0) (ok_is made (slot, rest) b.2) (field_takes (c ∷ line) b.0.0 b.0.1 b.1)
    ]

-- what begins no wildcard is read as a field
slot_of_field : (d : ℕ) (line : List ℕ) (field : Field) (rest : List ℕ) → eqb d 42 ≡ false → field_at (d ∷ line) ≡ Ok (field, rest) → slot_at (d ∷ line) ≡ Ok (Is field, rest)
unfolding slot_at
slot_of_field d line field rest other read = rw (other, read) refl

slot_again : (slot : Slot) (c : ℕ) (rest : List ℕ) → IsSlot slot → in_token c ≡ false → slot_at (slot_text slot ++ c ∷ rest) ≡ Ok (slot, c ∷ rest)
unfolding slot_at
slot_again Any c rest fits stop = refl
slot_again (Is (Int n)) c rest fits stop =
    let b = int_begins n fits in
    ap (λ (ts : List ℕ). slot_at (ts ++ c ∷ rest)) b.text-is ∙ slot_of_field b.first (b.others ++ c ∷ rest) (Int n) (c ∷ rest) (no_wildcard b.first b.sign) (ap (λ (ts : List ℕ). field_at (ts ++ c ∷ rest)) (sym b.text-is) ∙ field_again (Int n) c rest fits stop)
slot_again (Is (Text text)) c rest fits stop = slot_of_field 34 ((flat_map escaped text ++ 34 ∷ []) ++ c ∷ rest) (Text text) (c ∷ rest) refl (field_again (Text text) c rest fits stop)

slot_begins : (slot : Slot) (rest : List ℕ) → IsSlot slot → begins_with 41 (slot_text slot ++ rest) ≡ false
slot_begins Any rest fits = refl
slot_begins (Is field) rest fits = field_begins field rest fits

pub slots_read : IsRead slot_text IsSlot slot_at
slots_read = record { takes = slot_takes; again = slot_again; begins = slot_begins }

-- ---- lists in brackets

-- fields with a space between two, up to a closing bracket
pub record IsListed {A : Type 0} (text : A → List ℕ) (Fits : A → Type 0) (room : ℕ) (line : List ℕ) (xs : List A) (rest : List ℕ) : Type 0 where
  pub parts : line ≡ spaced (map text xs) ++ 41 ∷ rest
  pub some : 1 ≤ length xs
  pub few : length xs ≤ room
  pub fits : AllByRecursion Fits xs

after_takes : (line : List ℕ) (ends : Bool) (rest : List ℕ) → after_field line ≡ Ok (ends, rest) → line ≡ cond ends 41 32 ∷ rest
after_takes [] ends rest e = absurd cc
after_takes (c ∷ line) ends rest e =
    let shut : Bool × List ℕ = (true, line) in
    let opened : Bool × List ℕ = (false, line) in
    elim (chosen (eqb c 41) (Ok shut) (cond (eqb c 32) (Ok opened) (Err 2)) (Ok (ends, rest)) e) [
      | inl s ↦ subst (λ (x : Bool × List ℕ). c ∷ line ≡ cond x.0 41 32 ∷ x.1) (ok_is shut (ends, rest) s.1) (ap (λ (d : ℕ). d ∷ line) (eqb-true c 41 s.0))
      | inr s ↦
          let u = ok_chosen (eqb c 32) 2 (Ok opened) (ends, rest) s.1 in
          subst (λ (x : Bool × List ℕ). c ∷ line ≡ cond x.0 41 32 ∷ x.1) (ok_is opened (ends, rest) u.1) (ap (λ (d : ℕ). d ∷ line) (eqb-true c 32 u.0))
    ]

one_spaced : (text rest : List ℕ) → (text ++ []) ++ rest ≡ text ++ rest
one_spaced text rest = ap (λ (t : List ℕ). t ++ rest) (append-nil text)

one_listed : {A : Type 0} (text : A → List ℕ) (Fits : A → Type 0) (room : ℕ) (line : List ℕ) (x : A) (after : List ℕ) (rest : List ℕ) → line ≡ text x ++ after → after ≡ 41 ∷ rest → Fits x → IsListed text Fits (suc room) line (x ∷ []) rest
one_listed text Fits room line x after rest parts shut fits = record { parts = parts ∙ ap (λ (l : List ℕ). text x ++ l) shut ∙ sym (one_spaced (text x) (41 ∷ rest)); some = omega arith; few = omega arith; fits = (fits, tt) }

next_listed : {A : Type 0} (text : A → List ℕ) (Fits : A → Type 0) (room : ℕ) (line : List ℕ) (x : A) (after more : List ℕ) (xs : List A) (rest : List ℕ) → line ≡ text x ++ after → after ≡ 32 ∷ more → Fits x → IsListed text Fits room more xs rest → IsListed text Fits (suc room) line (x ∷ xs) rest
next_listed text Fits room line x after more [] rest parts opened fits l = absurd (omega (arith, l.some))
next_listed text Fits room line x after more (y ∷ ys) rest parts opened fits l =
    record {
      parts = parts ∙ ap (λ (t : List ℕ). text x ++ t) (opened ∙ ap (λ (t : List ℕ). 32 ∷ t) l.parts) ∙ sym (append_assoc (text x) (32 ∷ spaced (map text (y ∷ ys))) (41 ∷ rest));
      some = omega arith;
      few = omega (arith, l.few);
      fits = (fits, l.fits);
    }

fields_takes : {A : Type 0} (text : A → List ℕ) (Fits : A → Type 0) (item_at : List ℕ → Result (A × List ℕ) ℕ) → IsRead text Fits item_at → (room : ℕ) (line : List ℕ) (xs : List A) (rest : List ℕ) → fields_at item_at room line ≡ Ok (xs, rest) → IsListed text Fits room line xs rest
unfolding fields_at
fields_takes text Fits item_at read zero line xs rest e = let s = ok_passed (begins_field line) 3 (Err 2) (xs, rest) e in absurd (let w = s.1 in cc)
fields_takes {A} text Fits item_at read (suc room) line xs rest e =
    let step : (x : A × List ℕ) → (Bool × List ℕ) → Result (List A × List ℕ) ℕ = λ x next. cond next.0 (Ok (x.0 ∷ [], next.1)) (fields_at item_at room next.1 >>= λ others. Ok (x.0 ∷ others.0, others.1)) in
    let a = bind_ok (item_at line) (λ x. after_field x.1 >>= step x) (xs, rest) e in
    let b = bind_ok (after_field a.0.1) (step a.0) (xs, rest) a.2 in
    let t = read.takes line a.0.0 a.0.1 a.1 in
    let after = after_takes a.0.1 b.0.0 b.0.1 b.1 in
    let single : List A × List ℕ = (a.0.0 ∷ [], b.0.1) in
    elim (chosen b.0.0 (Ok single) (fields_at item_at room b.0.1 >>= λ others. Ok (a.0.0 ∷ others.0, others.1)) (Ok (xs, rest)) b.2) [
      | inl s ↦
          subst (λ (x : List A × List ℕ). IsListed text Fits (suc room) line x.0 x.1) {x = single} (ok_is single (xs, rest) s.1) (one_listed text Fits room line a.0.0 a.0.1 b.0.1 t.0 (after ∙ ap (λ (v : Bool). cond v 41 32 ∷ b.0.1) s.0) t.1)
      | inr s ↦
          let d = bind_ok (fields_at item_at room b.0.1) (λ others. Ok (a.0.0 ∷ others.0, others.1)) (xs, rest) s.1 in
          let made : List A × List ℕ = (a.0.0 ∷ d.0.0, d.0.1) in
          let l = fields_takes text Fits item_at read room b.0.1 d.0.0 d.0.1 d.1 in
          subst (λ (x : List A × List ℕ). IsListed text Fits (suc room) line x.0 x.1) {x = made} (ok_is made (xs, rest) d.2) (next_listed text Fits room line a.0.0 a.0.1 b.0.1 d.0.0 d.0.1 t.0 (after ∙ ap (λ (v : Bool). cond v 41 32 ∷ b.0.1) s.0) t.1 l)
    ]

fields_again : {A : Type 0} (text : A → List ℕ) (Fits : A → Type 0) (item_at : List ℕ → Result (A × List ℕ) ℕ) → IsRead text Fits item_at → (room : ℕ) (xs : List A) (rest : List ℕ) → 1 ≤ length xs → length xs ≤ room → AllByRecursion Fits xs → fields_at item_at room (spaced (map text xs) ++ 41 ∷ rest) ≡ Ok (xs, rest)
unfolding fields_at
fields_again text Fits item_at read zero xs rest some few fits = absurd (omega arith)
fields_again text Fits item_at read (suc room) [] rest some few fits = absurd (omega arith)
fields_again text Fits item_at read (suc room) (x ∷ []) rest some few fits = ap (fields_at item_at (suc room)) (one_spaced (text x) (41 ∷ rest)) ∙ rw (read.again x 41 rest fits.0 refl) refl
fields_again text Fits item_at read (suc room) (x ∷ y ∷ ys) rest some few fits =
    let more = spaced (map text (y ∷ ys)) ++ 41 ∷ rest in
    ap (fields_at item_at (suc room)) (append_assoc (text x) (32 ∷ spaced (map text (y ∷ ys))) (41 ∷ rest)) ∙ rw (read.again x 32 more fits.0 refl, fields_again text Fits item_at read room (y ∷ ys) rest (omega arith) (omega arith) fits.1) refl

open_takes : (line inside : List ℕ) → open_at line ≡ Ok inside → line ≡ 40 ∷ inside
open_takes [] inside e = absurd cc
open_takes (c ∷ line) inside e =
    let s = ok_chosen (eqb c 40) 2 (Ok line) inside e in
    ap (λ (d : ℕ). d ∷ line) (eqb-true c 40 s.0) ∙ ap (λ (l : List ℕ). 40 ∷ l) (ok_is line inside s.1)

-- one to eight, each of which may stand there
abbrev pub AreItems : {A : Type 0} → (A → Type 0) → List A → Type 0
AreItems Fits xs = IsFew xs × AllByRecursion Fits xs

pub list_takes : {A : Type 0} (text : A → List ℕ) (Fits : A → Type 0) (item_at : List ℕ → Result (A × List ℕ) ℕ) → IsRead text Fits item_at → (line : List ℕ) (xs : List A) (rest : List ℕ) → list_at item_at line ≡ Ok (xs, rest) → (line ≡ bracketed (map text xs) ++ rest) × AreItems Fits xs
unfolding list_at
list_takes text Fits item_at read line xs rest e =
    let a = bind_ok (open_at line) (λ inside. cond (begins_with 41 inside) (Err 3) (fields_at item_at 8 inside)) (xs, rest) e in
    let b = ok_passed (begins_with 41 a.0) 3 (fields_at item_at 8 a.0) (xs, rest) a.2 in
    let l = fields_takes text Fits item_at read 8 a.0 xs rest b.1 in
    (open_takes line a.0 a.1 ∙ ap (λ (t : List ℕ). 40 ∷ t) (l.parts ∙ sym (append_assoc (spaced (map text xs)) (41 ∷ []) rest)), ((l.some, l.few), l.fits))

spaced_begins : {A : Type 0} (text : A → List ℕ) (Fits : A → Type 0) (item_at : List ℕ → Result (A × List ℕ) ℕ) → IsRead text Fits item_at → (xs : List A) (rest : List ℕ) → 1 ≤ length xs → AllByRecursion Fits xs → begins_with 41 (spaced (map text xs) ++ rest) ≡ false
spaced_begins text Fits item_at read [] rest some fits = absurd (omega arith)
spaced_begins text Fits item_at read (x ∷ []) rest some fits = ap (begins_with 41) (one_spaced (text x) rest) ∙ read.begins x rest fits.0
spaced_begins text Fits item_at read (x ∷ y ∷ ys) rest some fits = ap (begins_with 41) (append_assoc (text x) (32 ∷ spaced (map text (y ∷ ys))) rest) ∙ read.begins x (32 ∷ spaced (map text (y ∷ ys)) ++ rest) fits.0

pub list_again : {A : Type 0} (text : A → List ℕ) (Fits : A → Type 0) (item_at : List ℕ → Result (A × List ℕ) ℕ) → IsRead text Fits item_at → (xs : List A) (rest : List ℕ) → AreItems Fits xs → list_at item_at (bracketed (map text xs) ++ rest) ≡ Ok (xs, rest)
unfolding list_at
list_again text Fits item_at read xs rest fits =
    let inside = spaced (map text xs) ++ 41 ∷ rest in
    let regrouped : bracketed (map text xs) ++ rest ≡ 40 ∷ inside = ap (λ (t : List ℕ). 40 ∷ t) (append_assoc (spaced (map text xs)) (41 ∷ []) rest) in
    ap (list_at item_at) regrouped ∙ rw (spaced_begins text Fits item_at read xs (41 ∷ rest) fits.0.0 fits.1, fields_again text Fits item_at read 8 xs rest fits.0.0 fits.0.1 fits.1) refl
