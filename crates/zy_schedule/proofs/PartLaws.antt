-- Parts of a line: what is read was spelled so, and what is spelled so is read again.
use Rattle.std.proofs.Common.{◌≡◌, ℕ, ◌<◌, ◌≤◌, Bool, true, eqb, List, [], ◌∷◌, ◌++◌, length, drop, Result, Ok, refl, ap, subst, ◌∙◌, append-nil, length-append, arith}
use Rattle.std.specs.Prelude.{take_while}
use Rattle.std.proofs.lemmas.Bool.{eqb-true}
use Rattle.std.proofs.lemmas.List.{drop_at}
use Rattle.std.proofs.lemmas.List.Sums.{take_while-cons}
use Rattle.zy_tuple.specs.Reading.{◌>>=◌, in_word, space_at}
use Rattle.zy_tuple.proofs.NumberLaws.{Passes, take_while_again, take_while_parts}
use Rattle.zy_tuple.proofs.Results.{bind_ok, ok_chosen, ok_is}
use Rattle.zy_schedule.specs.Reading.{part_at, some_part, value_at}

-- ---- spaces and parts

pub space_takes : (line rest : List ℕ) → space_at line ≡ Ok rest → line ≡ 32 ∷ rest
space_takes [] rest e = absurd cc
space_takes (c ∷ line) rest e =
    let s = ok_chosen (eqb c 32) 2 (Ok line) rest e in
    ap (λ (d : ℕ). d ∷ line) (eqb-true c 32 s.0) ∙ ap (λ (l : List ℕ). 32 ∷ l) (ok_is line rest s.1)

-- what may stand behind a part: nothing, or a space
abbrev pub ends_part : List ℕ → Bool
ends_part [] = true
ends_part (c ∷ rest) = eqb c 32

-- a word of at least one character, which has no space
pub record IsPart (part : List ℕ) : Type 0 where
  pub some : 1 ≤ length part
  pub plain : Passes in_word part

some_part_is : (word left part rest : List ℕ) → some_part word left ≡ Ok (part, rest) → (word ++ left ≡ part ++ rest) × (1 ≤ length part)
some_part_is [] left part rest e = absurd cc
some_part_is (c ∷ word) left part rest e =
    let made : List ℕ × List ℕ = (c ∷ word, left) in
    subst (λ (x : List ℕ × List ℕ). ((c ∷ word) ++ left ≡ x.0 ++ x.1) × (1 ≤ length x.0)) (ok_is made (part, rest) e) (refl, omega arith)

-- a part stands behind a space
pub part_takes : (line part rest : List ℕ) → part_at line ≡ Ok (part, rest) → (line ≡ 32 ∷ part ++ rest) × (1 ≤ length part)
unfolding part_at
part_takes line part rest e =
    let a = bind_ok (space_at line) (λ l. some_part (take_while in_word l) (drop (length (take_while in_word l)) l)) (part, rest) e in
    let s = some_part_is (take_while in_word a.0) (drop (length (take_while in_word a.0)) a.0) part rest a.2 in
    (space_takes line a.0 a.1 ∙ ap (λ (l : List ℕ). 32 ∷ l) (take_while_parts in_word a.0 ∙ s.0), s.1)

whole_word : (part : List ℕ) → Passes in_word part → take_while in_word part ≡ part
whole_word [] plain = refl
whole_word (c ∷ part) plain = take_while-cons in_word c part ∙ rw plain.0 (ap (λ (l : List ℕ). c ∷ l) (whole_word part plain.1))

word_again : (part rest : List ℕ) → Passes in_word part → ends_part rest ≡ true → take_while in_word (part ++ rest) ≡ part
word_again part [] plain ends = ap (take_while in_word) (append-nil part) ∙ whole_word part plain
word_again part (c ∷ rest) plain ends = rw (eqb-true c 32 ends) (take_while_again in_word part 32 rest plain refl)

some_part_again : (part rest : List ℕ) → 1 ≤ length part → some_part part rest ≡ Ok (part, rest)
some_part_again [] rest some = absurd (omega arith)
some_part_again (c ∷ part) rest some = refl

pub part_again : (part rest : List ℕ) → IsPart part → ends_part rest ≡ true → part_at (32 ∷ part ++ rest) ≡ Ok (part, rest)
unfolding part_at
part_again part rest is ends =
    let word = word_again part rest is.plain ends in
    let at : (w : List ℕ) → w ≡ part → some_part w (drop (length w) (part ++ rest)) ≡ Ok (part, rest)
    = λ w same. rw (same, drop_at part rest (length part) refl) (some_part_again part rest is.some) in
    at (take_while in_word (part ++ rest)) word

-- ---- values of parts

pub value_parts : {A : Type 0} (read : List ℕ → Result A ℕ) (line : List ℕ) (x : A) (rest : List ℕ) → value_at read line ≡ Ok (x, rest)
    → (part : List ℕ) × (part_at line ≡ Ok (part, rest)) × (read part ≡ Ok x)
unfolding value_at
value_parts {A} read line x rest e =
    let a = bind_ok (part_at line) (λ p. read p.0 >>= λ value. Ok (value, p.1)) (x, rest) e in
    let b = bind_ok (read a.0.0) (λ value. Ok (value, a.0.1)) (x, rest) a.2 in
    let made : A × List ℕ = (b.0, a.0.1) in
    let same : made ≡ (x, rest) = ok_is made (x, rest) b.2 in
    let x-is : b.0 ≡ x = ap (λ (y : A × List ℕ). y.0) same in
    let rest-is : a.0.1 ≡ rest = ap (λ (y : A × List ℕ). y.1) same in
    (a.0.0, a.1 ∙ ap (λ (r : List ℕ). Ok (a.0.0, r)) rest-is, b.1 ∙ ap (λ (y : A). Ok y) x-is)

-- less is left
pub value_shorter : {A : Type 0} (read : List ℕ → Result A ℕ) (line : List ℕ) (x : A) (rest : List ℕ) → value_at read line ≡ Ok (x, rest) → length rest < length line
value_shorter read line x rest e =
    let v = value_parts read line x rest e in
    let t = part_takes line v.0 rest v.1 in
    omega (arith, ap length t.0, length-append v.0 rest)

pub value_again : {A : Type 0} (read : List ℕ → Result A ℕ) (part : List ℕ) (x : A) (rest : List ℕ) → IsPart part → read part ≡ Ok x → ends_part rest ≡ true → value_at read (32 ∷ part ++ rest) ≡ Ok (x, rest)
unfolding value_at
value_again read part x rest is e ends = rw (part_again part rest is ends, e) refl
