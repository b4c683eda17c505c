-- A quoted text is read up to its closing quote, and what was escaped is read again.
use Rattle.std.proofs.Common.{◌≡◌, ℕ, ◌≤◌, Bool, true, false, cond, eqb, List, [], ◌∷◌, ◌++◌, length, Option, Some, None, Ok, refl, sym, ap, subst, ◌∙◌, inl, inr, append_assoc, arith}
use Rattle.std.specs.Prelude.{◌||◌, nat_le}
use Rattle.std.specs.List.{AllByRecursion, flat_map}
use Rattle.std.proofs.lemmas.Bool.{eqb-true, leb-true, le-leb}
use Rattle.std.proofs.lemmas.Bool.Decides.{nat_tests}
use Rattle.zy_tuple.specs.declared.values.Field.{Field}
use Rattle.zy_tuple.specs.declared.values.Field.TheVariants.{Text}
use Rattle.zy_tuple.specs.Values.{is_printable, IsPrintable, IsField}
use Rattle.zy_tuple.specs.Texts.{escaped, field_text}
use Rattle.zy_tuple.specs.Reading.{prepend, quoted, short_text}
use Rattle.zy_tuple.proofs.Results.{chosen, some_chosen, ok_chosen, some_is, ok_is}

-- what is written of a text that is read: behind a backslash there is one more byte
abbrev written : Bool → List ℕ → List ℕ
written true line = 92 ∷ line
written false line = line

-- a text and what is left of a line
pub record IsQuoted (line text rest : List ℕ) : Type 0 where
  pub parts : line ≡ flat_map escaped text ++ 34 ∷ rest
  pub printable : AllByRecursion IsPrintable text

prepend_some : (c : ℕ) (read : Option (List ℕ × List ℕ)) (text rest : List ℕ) → prepend c read ≡ Some (text, rest) → (t : List ℕ) × (read ≡ Some (t, rest)) × (c ∷ t ≡ text)
prepend_some c None text rest e = absurd cc
prepend_some c (Some read) text rest e =
    let made : List ℕ × List ℕ = (c ∷ read.0, read.1) in
    let same : made ≡ (text, rest) = some_is made (text, rest) e in
    (read.0, ap (λ (r : List ℕ × List ℕ). Some (read.0, r.1)) same, ap (λ (r : List ℕ × List ℕ). r.0) same)

printable_is : (c : ℕ) → is_printable c ≡ true → IsPrintable c
printable_is c e = grind (arith, nat_tests)

special_is : (c : ℕ) → (eqb c 34 || eqb c 92) ≡ true → IsPrintable c
special_is c e = grind (arith, nat_tests)

escaped_special : (c : ℕ) → (eqb c 34 || eqb c 92) ≡ true → escaped c ≡ 92 ∷ c ∷ []
escaped_special c e = rw e refl

escaped_plain : (c : ℕ) → (eqb c 34 || eqb c 92) ≡ false → escaped c ≡ c ∷ []
escaped_plain c e = rw e refl

neither : (c : ℕ) → eqb c 34 ≡ false → eqb c 92 ≡ false → (eqb c 34 || eqb c 92) ≡ false
neither c e f = rw (e, f) refl

-- one character more
more : (front line : List ℕ) (c : ℕ) (t text rest : List ℕ) → escaped c ≡ front → IsPrintable c → IsQuoted line t rest → c ∷ t ≡ text → IsQuoted (front ++ line) text rest
more front line c t text rest is fits q text-is =
    let parts : front ++ line ≡ flat_map escaped (c ∷ t) ++ 34 ∷ rest = ap (λ (l : List ℕ). front ++ l) q.parts ∙ sym (append_assoc front (flat_map escaped t) (34 ∷ rest)) ∙ ap (λ (f : List ℕ). (f ++ flat_map escaped t) ++ 34 ∷ rest) (sym is) in
    subst (λ (u : List ℕ). IsQuoted (front ++ line) u rest) text-is (record { parts = parts; printable = (fits, q.printable) })

closing : (c : ℕ) (line text rest : List ℕ) → c ≡ 34 → ◌≡◌ {A = List ℕ × List ℕ} ([], line) (text, rest) → IsQuoted (c ∷ line) text rest
closing c line text rest c-is same = subst (λ (r : List ℕ × List ℕ). IsQuoted (c ∷ line) r.0 r.1) same (record { parts = ap (λ (d : ℕ). d ∷ line) c-is; printable = tt })

quoted_takes : (b : Bool) (line text rest : List ℕ) → quoted b line ≡ Some (text, rest) → IsQuoted (written b line) text rest
unfolding quoted
quoted_takes true [] text rest e = absurd cc
quoted_takes false [] text rest e = absurd cc
quoted_takes true (c ∷ line) text rest e =
    let s = some_chosen (eqb c 34 || eqb c 92) (prepend c (quoted false line)) (text, rest) e in
    let p = prepend_some c (quoted false line) text rest s.1 in
    more (92 ∷ c ∷ []) line c p.0 text rest (escaped_special c s.0) (special_is c s.0) (quoted_takes false line p.0 rest p.1) p.2
quoted_takes false (c ∷ line) text rest e =
    let plain = cond (is_printable c) (prepend c (quoted false line)) None in
    elim (chosen (eqb c 34) (Some ([], line)) (cond (eqb c 92) (quoted true line) plain) (Some (text, rest)) e) [
      | inl s ↦ closing c line text rest (eqb-true c 34 s.0) (some_is ([], line) (text, rest) s.1)
      | inr s ↦
          elim (chosen (eqb c 92) (quoted true line) plain (Some (text, rest)) s.1) [
            | inl u ↦ subst (λ (d : ℕ). IsQuoted (d ∷ line) text rest) (sym (eqb-true c 92 u.0)) (quoted_takes true line text rest u.1)
            | inr u ↦
                let v = some_chosen (is_printable c) (prepend c (quoted false line)) (text, rest) u.1 in
                let p = prepend_some c (quoted false line) text rest v.1 in
                more (c ∷ []) line c p.0 text rest (escaped_plain c (neither c s.0 u.0)) (printable_is c v.0) (quoted_takes false line p.0 rest p.1) p.2
          ]
    ]

printable_again : (c : ℕ) → IsPrintable c → is_printable c ≡ true
printable_again c fits = grind (arith, nat_tests)

or_false : (a b : Bool) → (a || b) ≡ false → (a ≡ false) × (b ≡ false)
or_false true b e = absurd cc
or_false false b e = (refl, e)

neither_is : (c : ℕ) → (eqb c 34 || eqb c 92) ≡ false → (eqb c 34 ≡ false) × (eqb c 92 ≡ false)
neither_is c e = or_false (eqb c 34) (eqb c 92) e

quoted_again : (text rest : List ℕ) → AllByRecursion IsPrintable text → quoted false (flat_map escaped text ++ 34 ∷ rest) ≡ Some (text, rest)
unfolding quoted
quoted_again [] rest fits = refl
quoted_again (c ∷ text) rest fits =
    let after = flat_map escaped text ++ 34 ∷ rest in
    let go : (b : Bool) → (eqb c 34 || eqb c 92) ≡ b → quoted false (flat_map escaped (c ∷ text) ++ 34 ∷ rest) ≡ Some (c ∷ text, rest) = λ b. elim b as (λ v. (eqb c 34 || eqb c 92) ≡ v → quoted false (flat_map escaped (c ∷ text) ++ 34 ∷ rest) ≡ Some (c ∷ text, rest)) [
      | true ↦ λ is.
          let at : quoted false (92 ∷ c ∷ after) ≡ Some (c ∷ text, rest) = rw (is, quoted_again text rest fits.1) refl in
          ap (quoted false) (append_assoc (escaped c) (flat_map escaped text) (34 ∷ rest)) ∙ ap (λ (front : List ℕ). quoted false (front ++ after)) (escaped_special c is) ∙ at
      | false ↦ λ is.
          let n = neither_is c is in
          let at : quoted false (c ∷ after) ≡ Some (c ∷ text, rest) = rw (n.0, n.1, printable_again c fits.0, quoted_again text rest fits.1) refl in
          ap (quoted false) (append_assoc (escaped c) (flat_map escaped text) (34 ∷ rest)) ∙ ap (λ (front : List ℕ). quoted false (front ++ after)) (escaped_plain c is) ∙ at
    ] in
    go (eqb c 34 || eqb c 92) refl

short_takes : (read : Option (List ℕ × List ℕ)) (field : Field) (rest : List ℕ) → short_text read ≡ Ok (field, rest) → (t : List ℕ) × (read ≡ Some (t, rest)) × (Text t ≡ field) × (length t ≤ 64)
short_takes None field rest e = absurd cc
short_takes (Some read) field rest e =
    let s = ok_chosen (nat_le (length read.0) 64) 5 (Ok (Text read.0, read.1)) (field, rest) e in
    let made : Field × List ℕ = (Text read.0, read.1) in
    let same : made ≡ (field, rest) = ok_is made (field, rest) s.1 in
    (read.0, ap (λ (r : Field × List ℕ). Some (read.0, r.1)) same, ap (λ (r : Field × List ℕ). r.0) same, leb-true _ _ s.0)

pub text_takes : (line : List ℕ) (field : Field) (rest : List ℕ) → short_text (quoted false line) ≡ Ok (field, rest) → (34 ∷ line ≡ field_text field ++ rest) × IsField field
text_takes line field rest e =
    let s = short_takes (quoted false line) field rest e in
    let q = quoted_takes false line s.0 rest s.1 in
    subst (λ (f : Field). (34 ∷ line ≡ field_text f ++ rest) × IsField f) s.2 (ap (λ (l : List ℕ). 34 ∷ l) (q.parts ∙ sym (append_assoc (flat_map escaped s.0) (34 ∷ []) rest)), (s.3, q.printable))

pub text_again : (text rest : List ℕ) → length text ≤ 64 → AllByRecursion IsPrintable text → short_text (quoted false ((flat_map escaped text ++ 34 ∷ []) ++ rest)) ≡ Ok (Text text, rest)
text_again text rest short fits =
    ap (λ (l : List ℕ). short_text (quoted false l)) (append_assoc (flat_map escaped text) (34 ∷ []) rest) ∙ rw (quoted_again text rest fits, le-leb _ _ short) refl
