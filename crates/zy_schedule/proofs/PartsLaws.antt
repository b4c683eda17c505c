-- Keywords and lists of parts: what is read was spelled so, and what is spelled so is read again.
use Rattle.std.proofs.Common.{◌≡◌, ℕ, zero, suc, ◌-◌, ◌≤◌, true, false, cond, List, [], ◌∷◌, ◌++◌, length, map, Option, Some, None, Result, Ok, Err, refl, sym, ap, subst, ◌∙◌, inl, inr, ◌⊎◌, append_assoc, arith}
use Rattle.std.specs.Prelude.{codes}
use Rattle.std.specs.List.{AllByRecursion, flat_map}
use Rattle.std.specs.Str.{bytes_eq}
use Rattle.std.proofs.lemmas.Bool.{cases_Bool}
use Rattle.zy_tuple.specs.Reading.{◌>>=◌}
use Rattle.zy_tuple.specs.Texts.{behind_space}
use Rattle.zy_tuple.proofs.Results.{bind_ok, ok_chosen, ok_is, some_is}
use Rattle.zy_schedule.specs.declared.list.ListEnd.{ListEnd}
use Rattle.zy_schedule.specs.declared.list.ListEnd.TheVariants as ends
use Rattle.zy_schedule.specs.Reading.{behind_word, ended_at, further_at, keyword_at, list_at, one_too_many, part_at, unless_ended, value_at}
use Rattle.zy_schedule.proofs.PartLaws.{IsPart, ends_part, part_again, part_takes, value_again, value_parts}
use Rattle.zy_schedule.proofs.ValueLaws.{word_is}

-- ---- keywords

pub keyword_takes : (word line rest : List ℕ) → keyword_at word line ≡ Ok rest → line ≡ 32 ∷ word ++ rest
unfolding keyword_at
keyword_takes word line rest e =
    let a = bind_ok (part_at line) (λ part. cond (bytes_eq part.0 word) (Ok part.1) (Err 2)) rest e in
    let s = ok_chosen (bytes_eq a.0.0 word) 2 (Ok a.0.1) rest a.2 in
    let t = part_takes line a.0.0 a.0.1 a.1 in
    t.0 ∙ ap (λ (w : List ℕ). 32 ∷ w ++ a.0.1) (word_is a.0.0 word s.0) ∙ ap (λ (r : List ℕ). 32 ∷ word ++ r) (ok_is a.0.1 rest s.1)

pub keyword_again : (word rest : List ℕ) → IsPart word → bytes_eq word word ≡ true → ends_part rest ≡ true → keyword_at word (32 ∷ word ++ rest) ≡ Ok rest
unfolding keyword_at
keyword_again word rest is same ends = rw (part_again word rest is ends, same) refl

-- another part is not the keyword
no_keyword : (word part rest : List ℕ) → IsPart part → ends_part rest ≡ true → bytes_eq part word ≡ false → keyword_at word (32 ∷ part ++ rest) ≡ Err 2
unfolding keyword_at
no_keyword word part rest is ends other = rw (part_again part rest is ends, other) refl

-- ---- the ends of lists

abbrev pub end_text : ListEnd → List ℕ
end_text ends.To = codes " to"
end_text ends.Reply = codes " reply"
end_text ends.Line = []

-- what may stand behind the end of a list
abbrev pub IsBehind : ListEnd → List ℕ → Type 0
IsBehind ends.To rest = ends_part rest ≡ true
IsBehind ends.Reply rest = ends_part rest ≡ true
IsBehind ends.Line rest = rest ≡ []

-- behind the end of the line nothing is left
abbrev pub IsLeft : ListEnd → List ℕ → Type 0
IsLeft ends.To rest = Unit {0}
IsLeft ends.Reply rest = Unit {0}
IsLeft ends.Line rest = rest ≡ []

behind_word_is : (word rest : List ℕ) (read : Result (List ℕ) ℕ) → behind_word word read ≡ Some rest → read ≡ Ok rest
behind_word_is word rest (Ok left) e = ap (λ (l : List ℕ). Ok l) (some_is left rest e)
behind_word_is word rest (Err rule) e = absurd cc

ended_takes : (end : ListEnd) (line rest : List ℕ) → ended_at end line ≡ Some rest → line ≡ end_text end ++ rest
ended_takes ends.To line rest e = keyword_takes (codes "to") line rest (behind_word_is (codes "to") rest (keyword_at (codes "to") line) e)
ended_takes ends.Reply line rest e = keyword_takes (codes "reply") line rest (behind_word_is (codes "reply") rest (keyword_at (codes "reply") line) e)
ended_takes ends.Line [] rest e = some_is [] rest e
ended_takes ends.Line (c ∷ line) rest e = absurd cc

ended_left : (end : ListEnd) (line rest : List ℕ) → ended_at end line ≡ Some rest → IsLeft end rest
ended_left ends.To line rest e = tt
ended_left ends.Reply line rest e = tt
ended_left ends.Line [] rest e = sym (some_is [] rest e)
ended_left ends.Line (c ∷ line) rest e = absurd cc

to_part : IsPart (codes "to")
to_part = record { some = omega arith; plain = (refl, (refl, tt)) }

reply_part : IsPart (codes "reply")
reply_part = record { some = omega arith; plain = (refl, (refl, (refl, (refl, (refl, tt))))) }

ended_again : (end : ListEnd) (rest : List ℕ) → IsBehind end rest → ended_at end (end_text end ++ rest) ≡ Some rest
ended_again ends.To rest behind = ap (behind_word (codes "to")) (keyword_again (codes "to") rest to_part refl behind)
ended_again ends.Reply rest behind = ap (behind_word (codes "reply")) (keyword_again (codes "reply") rest reply_part refl behind)
ended_again ends.Line rest behind = rw behind refl

-- ---- items of lists

-- a part with one text, and its reader; no word that ends a list is read so
pub record IsRead {A : Type 0} (text : A → List ℕ) (Fits : A → Type 0) (read : List ℕ → Result A ℕ) : Type 0 where
  pub takes : (part : List ℕ) (x : A) → read part ≡ Ok x → (part ≡ text x) × Fits x
  pub again : (x : A) → Fits x → read (text x) ≡ Ok x
  pub part : (x : A) → Fits x → IsPart (text x)
  pub rule : ℕ
  pub no_to : read (codes "to") ≡ Err rule
  pub no_reply : read (codes "reply") ≡ Err rule

other_word : {A : Type 0} (read : List ℕ → Result A ℕ) (part word : List ℕ) (x : A) (rule : ℕ) → read word ≡ Err rule → read part ≡ Ok x → bytes_eq part word ≡ false
other_word {A} read part word x rule refused read_so =
    elim (cases_Bool (bytes_eq part word)) [
      | inl same ↦ absurd (let both : Err rule ≡ Ok x = sym refused ∙ ap read (sym (word_is part word same)) ∙ read_so in cc)
      | inr other ↦ other
    ]

not_ended : {A : Type 0} (text : A → List ℕ) (Fits : A → Type 0) (read : List ℕ → Result A ℕ) → IsRead text Fits read → (end : ListEnd) (x : A) (rest : List ℕ) → Fits x → ends_part rest ≡ true → ended_at end (32 ∷ text x ++ rest) ≡ None
not_ended text Fits read is ends.To x rest fits behind =
    ap (behind_word (codes "to")) (no_keyword (codes "to") (text x) rest (is.part x fits) behind (other_word read (text x) (codes "to") x is.rule is.no_to (is.again x fits)))
not_ended text Fits read is ends.Reply x rest fits behind =
    ap (behind_word (codes "reply")) (no_keyword (codes "reply") (text x) rest (is.part x fits) behind (other_word read (text x) (codes "reply") x is.rule is.no_reply (is.again x fits)))
not_ended text Fits read is ends.Line x rest fits behind = refl

pub item_takes : {A : Type 0} (text : A → List ℕ) (Fits : A → Type 0) (read : List ℕ → Result A ℕ) → IsRead text Fits read → (line : List ℕ) (x : A) (rest : List ℕ) → value_at read line ≡ Ok (x, rest) → (line ≡ 32 ∷ text x ++ rest) × Fits x
item_takes text Fits read is line x rest e =
    let v = value_parts read line x rest e in
    let t = is.takes v.0 x v.2 in
    ((part_takes line v.0 rest v.1).0 ∙ ap (λ (p : List ℕ). 32 ∷ p ++ rest) t.0, t.1)

pub item_again : {A : Type 0} (text : A → List ℕ) (Fits : A → Type 0) (read : List ℕ → Result A ℕ) → IsRead text Fits read → (x : A) (rest : List ℕ) → Fits x → ends_part rest ≡ true → value_at read (32 ∷ text x ++ rest) ≡ Ok (x, rest)
item_again text Fits read is x rest fits behind = value_again read (text x) x rest (is.part x fits) (is.again x fits) behind

-- ---- lists

-- items behind a space each
abbrev pub items_text : {A : Type 0} → (A → List ℕ) → List A → List ℕ
items_text text xs = flat_map behind_space (map text xs)

open_or : {A : Type 0} (o : Option (List ℕ)) (others : Result (List A × List ℕ) ℕ) (xs : List A) (rest : List ℕ) → unless_ended o others ≡ Ok (xs, rest) → ((o ≡ Some rest) × ([] ≡ xs)) ⊎ ((o ≡ None) × (others ≡ Ok (xs, rest)))
open_or {A} (Some left) others xs rest e =
    let made : List A × List ℕ = ([], left) in
    let same : made ≡ (xs, rest) = ok_is made (xs, rest) e in
    inl (ap (λ (y : List A × List ℕ). Some y.1) same, ap (λ (y : List A × List ℕ). y.0) same)
open_or None others xs rest e = inr (refl, e)

none_too_many : {A : Type 0} (read : Result (A × List ℕ) ℕ) (made : List A × List ℕ) → one_too_many read ≡ Ok made → ⊥
none_too_many (Ok value) made e = cc
none_too_many (Err rule) made e = cc

-- further items, and the end behind them
pub record AreFurther {A : Type 0} (text : A → List ℕ) (Fits : A → Type 0) (end : ListEnd) (room : ℕ) (line : List ℕ) (xs : List A) (rest : List ℕ) : Type 0 where
  pub parts : line ≡ items_text text xs ++ (end_text end ++ rest)
  pub left : IsLeft end rest
  pub few : length xs ≤ room
  pub fits : AllByRecursion Fits xs

none_further : {A : Type 0} (text : A → List ℕ) (Fits : A → Type 0) (end : ListEnd) (room : ℕ) (line : List ℕ) (rest : List ℕ) → ended_at end line ≡ Some rest → AreFurther text Fits end room line [] rest
none_further text Fits end room line rest e = record { parts = ended_takes end line rest e; left = ended_left end line rest e; few = omega arith; fits = tt }

further_takes : {A : Type 0} (text : A → List ℕ) (Fits : A → Type 0) (read : List ℕ → Result A ℕ) → IsRead text Fits read → (end : ListEnd) (room : ℕ) (line : List ℕ) (xs : List A) (rest : List ℕ) → further_at read end room line ≡ Ok (xs, rest) → AreFurther text Fits end room line xs rest
unfolding further_at
further_takes {A} text Fits read is end zero line xs rest e =
    elim (open_or (ended_at end line) (one_too_many (value_at read line)) xs rest e) [
      | inl s ↦ subst (λ (ys : List A). AreFurther text Fits end zero line ys rest) s.1 (none_further text Fits end zero line rest s.0)
      | inr s ↦ absurd (none_too_many (value_at read line) (xs, rest) s.1)
    ]
further_takes {A} text Fits read is end (suc room) line xs rest e =
    let more : (A × List ℕ) → Result (List A × List ℕ) ℕ = λ value. further_at read end room value.1 >>= λ others. Ok (value.0 ∷ others.0, others.1) in
    elim (open_or (ended_at end line) (value_at read line >>= more) xs rest e) [
      | inl s ↦ subst (λ (ys : List A). AreFurther text Fits end (suc room) line ys rest) s.1 (none_further text Fits end (suc room) line rest s.0)
      | inr s ↦
          let a = bind_ok (value_at read line) more (xs, rest) s.1 in
          let b = bind_ok (further_at read end room a.0.1) (λ others. Ok (a.0.0 ∷ others.0, others.1)) (xs, rest) a.2 in
          let made : List A × List ℕ = (a.0.0 ∷ b.0.0, b.0.1) in
          let t = item_takes text Fits read is line a.0.0 a.0.1 a.1 in
          let f = further_takes text Fits read is end room a.0.1 b.0.0 b.0.1 b.1 in
          subst (λ (y : List A × List ℕ). AreFurther text Fits end (suc room) line y.0 y.1) (ok_is made (xs, rest) b.2) (record {
            parts = t.0 ∙ ap (λ (l : List ℕ). 32 ∷ text a.0.0 ++ l) f.parts ∙ ap (λ (l : List ℕ). 32 ∷ l) (sym (append_assoc (text a.0.0) (items_text text b.0.0) (end_text end ++ b.0.1)));
            left = f.left;
            few = omega (arith, f.few);
            fits = (t.1, f.fits);
          })
    ]

-- one or more items, and the end behind them
pub list_takes : {A : Type 0} (text : A → List ℕ) (Fits : A → Type 0) (read : List ℕ → Result A ℕ) → IsRead text Fits read → (end : ListEnd) (limit : ℕ) (line : List ℕ) (xs : List A) (rest : List ℕ) → 1 ≤ limit → list_at read end limit line ≡ Ok (xs, rest)
    → AreFurther text Fits end limit line xs rest × (1 ≤ length xs)
unfolding list_at
list_takes {A} text Fits read is end limit line xs rest some e =
    let a = bind_ok (value_at read line) (λ value. further_at read end (limit - 1) value.1 >>= λ others. Ok (value.0 ∷ others.0, others.1)) (xs, rest) e in
    let b = bind_ok (further_at read end (limit - 1) a.0.1) (λ others. Ok (a.0.0 ∷ others.0, others.1)) (xs, rest) a.2 in
    let made : List A × List ℕ = (a.0.0 ∷ b.0.0, b.0.1) in
    let t = item_takes text Fits read is line a.0.0 a.0.1 a.1 in
    let f = further_takes text Fits read is end (limit - 1) a.0.1 b.0.0 b.0.1 b.1 in
    subst (λ (y : List A × List ℕ). AreFurther text Fits end limit line y.0 y.1 × (1 ≤ length y.0)) (ok_is made (xs, rest) b.2) (
      record {
        parts = t.0 ∙ ap (λ (l : List ℕ). 32 ∷ text a.0.0 ++ l) f.parts ∙ ap (λ (l : List ℕ). 32 ∷ l) (sym (append_assoc (text a.0.0) (items_text text b.0.0) (end_text end ++ b.0.1)));
        left = f.left;
        few = omega (arith, f.few);
        fits = (t.1, f.fits);
      },
      omega arith,
    )

behind_items : {A : Type 0} (text : A → List ℕ) (xs : List A) (end : ListEnd) (rest : List ℕ) → IsBehind end rest → ends_part (items_text text xs ++ (end_text end ++ rest)) ≡ true
behind_items text (x ∷ xs) end rest behind = refl
behind_items text [] ends.To rest behind = refl
behind_items text [] ends.Reply rest behind = refl
behind_items text [] ends.Line rest behind = rw behind refl

further_again : {A : Type 0} (text : A → List ℕ) (Fits : A → Type 0) (read : List ℕ → Result A ℕ) → IsRead text Fits read → (end : ListEnd) (room : ℕ) (xs : List A) (rest : List ℕ) → length xs ≤ room → AllByRecursion Fits xs → IsBehind end rest
    → further_at read end room (items_text text xs ++ (end_text end ++ rest)) ≡ Ok (xs, rest)
unfolding further_at
further_again text Fits read is end zero [] rest few fits behind = rw (ended_again end rest behind) refl
further_again text Fits read is end (suc room) [] rest few fits behind = rw (ended_again end rest behind) refl
further_again text Fits read is end zero (x ∷ xs) rest few fits behind = absurd (omega arith)
further_again text Fits read is end (suc room) (x ∷ xs) rest few fits behind =
    let left = items_text text xs ++ (end_text end ++ rest) in
    let stop = behind_items text xs end rest behind in
    let regrouped : items_text text (x ∷ xs) ++ (end_text end ++ rest) ≡ 32 ∷ text x ++ left = ap (λ (l : List ℕ). 32 ∷ l) (append_assoc (text x) (items_text text xs) (end_text end ++ rest)) in
    ap (further_at read end (suc room)) regrouped
    ∙ rw (not_ended text Fits read is end x left fits.0 stop, item_again text Fits read is x left fits.0 stop, further_again text Fits read is end room xs rest (omega arith) fits.1 behind) refl

pub list_again : {A : Type 0} (text : A → List ℕ) (Fits : A → Type 0) (read : List ℕ → Result A ℕ) → IsRead text Fits read → (end : ListEnd) (limit : ℕ) (xs : List A) (rest : List ℕ) → 1 ≤ length xs → length xs ≤ limit → AllByRecursion Fits xs → IsBehind end rest
    → list_at read end limit (items_text text xs ++ (end_text end ++ rest)) ≡ Ok (xs, rest)
unfolding list_at
list_again text Fits read is end limit [] rest some few fits behind = absurd (omega arith)
list_again text Fits read is end limit (x ∷ xs) rest some few fits behind =
    let left = items_text text xs ++ (end_text end ++ rest) in
    let stop = behind_items text xs end rest behind in
    let regrouped : items_text text (x ∷ xs) ++ (end_text end ++ rest) ≡ 32 ∷ text x ++ left = ap (λ (l : List ℕ). 32 ∷ l) (append_assoc (text x) (items_text text xs) (end_text end ++ rest)) in
    ap (list_at read end limit) regrouped
    ∙ rw (item_again text Fits read is x left fits.0 stop, further_again text Fits read is end (limit - 1) xs rest (omega arith) fits.1 behind) refl
