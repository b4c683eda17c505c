-- The slots of a frame, and the bytes in them.
use Rattle.std.proofs.Common.{◌≡◌, ℕ, zero, suc, ◌+◌, ◌*◌, ◌<◌, ◌≤◌, true, false, cond, eqb, List, [], ◌∷◌, ◌++◌, length, take, drop, replicate, get_or, set, Option, Some, None, is_some, is_none, count_by, refl, sym, ap, ◌∙◌, arith}
use Rattle.std.specs.List.{flat_map}
use Rattle.std.specs.Option.{unwrap_or}
use Rattle.std.proofs.lemmas.Bool.Decides.{nat_tests}
use Rattle.std.proofs.lemmas.List.{take-append-drop, drop-drop, length-drop, replicate-append-replicate}
use Rattle.std.proofs.lemmas.List.Sums.{sum_by-cons, sum_by-set}
use Rattle.std.proofs.lemmas.List.Folds.{sum_by-replicate}
use Rattle.zy_pieces.specs.Gathering.{is_whole, joined}

abbrev pub Slot : Type 0
Slot = Option (List ℕ)

abbrev lack : Slot → ℕ
lack slot = cond (is_none slot) 1 0

-- ---- how many are missing

pub one_empty_more : (n : ℕ) → replicate {A = Slot} n None ++ None ∷ [] ≡ replicate (n + 1) None
one_empty_more n = replicate-append-replicate {A = Slot} n 1 None

pub all_missing : (n : ℕ) → count_by is_none (replicate {A = Slot} n None) ≡ n
all_missing n = sum_by-replicate lack n None ∙ omega arith

whole_by_count : (slots : List Slot) → is_whole slots ≡ eqb (count_by is_none slots) 0
whole_by_count [] = refl
whole_by_count (None ∷ slots) =
    let e : count_by is_none (None ∷ slots) ≡ 1 + count_by is_none slots = sum_by-cons lack None slots in
    grind (arith, nat_tests)
whole_by_count (Some x ∷ slots) =
    let e : count_by is_none (Some x ∷ slots) ≡ count_by is_none slots = sum_by-cons lack (Some x) slots ∙ omega arith in
    whole_by_count slots ∙ ap (λ n. eqb n 0) (sym e)

lack_of : (slot : Slot) → is_some slot ≡ false → lack slot ≡ 1
lack_of None e = refl
lack_of (Some x) e = absurd cc

-- with one more there, one less is missing
pub one_less : (slots : List Slot) (i : ℕ) (x : List ℕ) → i < length slots → is_some (get_or slots i None) ≡ false → count_by is_none (set slots i (Some x)) + 1 ≡ count_by is_none slots
one_less slots i x within new =
    let e = sum_by-set lack slots i (Some x) None within in
    let one = lack_of (get_or slots i None) new in
    omega arith

-- so the frame is whole with it where one is missing
pub whole_with : (slots : List Slot) (i : ℕ) (x : List ℕ) → i < length slots → is_some (get_or slots i None) ≡ false → is_whole (set slots i (Some x)) ≡ eqb (count_by is_none slots) 1
whole_with slots i x within new =
    let less = one_less slots i x within new in
    whole_by_count (set slots i (Some x)) ∙ grind (arith, nat_tests)

-- ---- the bytes in them

all_there : (slots : List Slot) (x : List ℕ) → is_whole slots ≡ true → flat_map (λ slot. unwrap_or slot x) slots ≡ joined slots
all_there [] x whole = refl
all_there (None ∷ slots) x whole = absurd cc
all_there (Some y ∷ slots) x whole = ap (λ bytes. y ++ bytes) (all_there slots x whole)

-- the bytes that are there, with the last missing ones in their place
pub joined_with : (slots : List Slot) (i : ℕ) (x : List ℕ) → i < length slots → is_some (get_or slots i None) ≡ false → is_whole (set slots i (Some x)) ≡ true → flat_map (λ slot. unwrap_or slot x) slots ≡ joined (set slots i (Some x))
joined_with [] i x within new whole = absurd (omega arith)
joined_with (None ∷ slots) zero x within new whole = ap (λ bytes. x ++ bytes) (all_there slots x whole)
joined_with (Some y ∷ slots) zero x within new whole = absurd cc
joined_with (None ∷ slots) (suc i) x within new whole = absurd cc
joined_with (Some y ∷ slots) (suc i) x within new whole = ap (λ bytes. y ++ bytes) (joined_with slots i x (omega arith) new whole)

-- ---- slots that hold a frame's parts

abbrev part : List ℕ → ℕ → List ℕ
part frame i = take 8192 (drop (8192 * i) frame)

next_part : (frame : List ℕ) (i : ℕ) → part frame (suc i) ≡ part (drop 8192 frame) i
next_part frame i = ap (λ n. take 8192 (drop n frame)) (omega arith) ∙ ap (take 8192) (sym (drop-drop (8192 * i) 8192 frame))

none_left : (frame : List ℕ) → length frame ≤ 0 → [] ≡ frame
none_left [] small = refl
none_left (x ∷ frame) small = absurd (omega arith)

first_slot : (slot : Slot) (bytes : List ℕ) → slot ≡ Some bytes → unwrap_or slot [] ≡ bytes
first_slot slot bytes e = ap (λ (s : Slot). unwrap_or s []) e

-- all the parts in a row are the frame
pub joined_parts : (slots : List Slot) (frame : List ℕ) → length frame ≤ 8192 * length slots → ((i : ℕ) → i < length slots → get_or slots i None ≡ Some (part frame i)) → joined slots ≡ frame
joined_parts [] frame small parts = none_left frame (omega arith)
joined_parts (slot ∷ slots) frame small parts =
    let short = length-drop 8192 frame in
    let rest = joined_parts slots (drop 8192 frame) (omega arith) (λ i within. parts (suc i) (omega arith) ∙ ap Some (next_part frame i)) in
    let first : unwrap_or slot [] ≡ take 8192 frame = first_slot slot _ (parts 0 (omega arith)) in
    ap (λ bytes. bytes ++ joined slots) first ∙ ap (λ bytes. take 8192 frame ++ bytes) rest ∙ take-append-drop 8192 frame
