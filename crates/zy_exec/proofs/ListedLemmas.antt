-- The known clients of a list, one client on.
use Rattle.std.proofs.Common.{◌≡◌, ℕ, zero, suc, ◌+◌, ◌<◌, List, [], ◌∷◌, ◌++◌, length, take, get_or, Option, Some, None, refl, sym, ap, ◌∙◌, arith, add-one, append-nil, append_assoc}
use Rattle.std.specs.List.{flat_map}
use Rattle.zy_wire.proofs.Lengths.{IsAtMost, pair-at_most, converted-at_most, word32-at_most, u62-at_most, digest-at_most}
use Rattle.zy_exec.specs.declared.known.Known.{Known}
use Rattle.zy_exec.specs.declared.row.Row.{Row}
use Rattle.zy_exec.specs.Snapshot.{listed, row_fields}
use Rattle.zy_chain.specs.Sizes.{record_size}
use Rattle.zy_chain.proofs.Lengths.{answers-at_most}

abbrev pub row_of : ℕ → Known → Row
row_of client k = record { client = record { 0 = client }; known = k }

pub same_cons : {A : Type 0} (x y : A) (xs ys : List A) → x ∷ xs ≡ y ∷ ys → (x ≡ y) × (xs ≡ ys)
same_cons x y xs ys same = (cc, cc)

listed_suc_none : (first : ℕ) (known : List (Option Known)) (i : ℕ) → i < length known → get_or known i None ≡ None → listed first (take (suc i) known) ≡ listed first (take i known)
listed_suc_none first [] i within none = absurd (omega arith)
listed_suc_none first (None ∷ known) zero within none = refl
listed_suc_none first (Some k ∷ known) zero within none = absurd (cc)
listed_suc_none first (None ∷ known) (suc i) within none = listed_suc_none (first + 1) known i (omega arith) none
listed_suc_none first (Some k ∷ known) (suc i) within none =
    ap (λ (others : List Row). row_of first k ∷ others) (listed_suc_none (first + 1) known i (omega arith) none)

listed_suc_some : (first : ℕ) (known : List (Option Known)) (i : ℕ) (k : Known) → i < length known → Some k ≡ get_or known i None
    → listed first (take (suc i) known) ≡ listed first (take i known) ++ row_of (first + i) k ∷ []
listed_suc_some first [] i k within some = absurd (omega arith)
listed_suc_some first (None ∷ known) zero k within some = absurd (cc)
listed_suc_some first (Some x ∷ known) zero k within some =
    let same : k ≡ x = cc in let here : first ≡ first + 0 = omega arith in
    ap (λ (y : Known). row_of first y ∷ []) (sym same) ∙ ap (λ (n : ℕ). row_of n k ∷ []) here
listed_suc_some first (None ∷ known) (suc i) k within some =
    let here : first + 1 + i ≡ first + suc i = omega arith in
    listed_suc_some (first + 1) known i k (omega arith) some ∙ ap (λ (n : ℕ). listed (first + 1) (take i known) ++ row_of n k ∷ []) here
listed_suc_some first (Some x ∷ known) (suc i) k within some =
    let here : first + 1 + i ≡ first + suc i = omega arith in
    ap (λ (others : List Row). row_of first x ∷ others)
    (listed_suc_some (first + 1) known i k (omega arith) some ∙ ap (λ (n : ℕ). listed (first + 1) (take i known) ++ row_of n k ∷ []) here)

pub listed_none : (known : List (Option Known)) (i : ℕ) → i < length known → None ≡ get_or known i None → listed 0 (take (i + 1) known) ≡ listed 0 (take i known)
listed_none known i within none = rw add-one (listed_suc_none 0 known i within (sym none))

pub listed_some : (known : List (Option Known)) (i : ℕ) (k : Known) → i < length known → Some k ≡ get_or known i None
    → listed 0 (take (i + 1) known) ≡ listed 0 (take i known) ++ row_of i k ∷ []
listed_some known i k within some =
    let here : 0 + i ≡ i = omega arith in
    rw add-one (listed_suc_some 0 known i k within some) ∙ ap (λ (n : ℕ). listed 0 (take i known) ++ row_of n k ∷ []) here

pub flat_map_more : (xs : List Row) (x : Row) → flat_map row_fields.spell (xs ++ x ∷ []) ≡ flat_map row_fields.spell xs ++ row_fields.spell x
flat_map_more [] x = append-nil (row_fields.spell x)
flat_map_more (y ∷ xs) x = ap (λ (b : List ℕ). row_fields.spell y ++ b) (flat_map_more xs x) ∙ sym (append_assoc (row_fields.spell y) (flat_map row_fields.spell xs) (row_fields.spell x))

-- a client's part has at most 1,154 bytes
pub row-at_most : IsAtMost row_fields record_size
unfolding row_fields
row-at_most =
    converted-at_most _ _ _ _ (pair-at_most _ _ _ _ word32-at_most (pair-at_most _ _ _ _ (u62-at_most 0) (pair-at_most _ _ _ _ (u62-at_most 1) (pair-at_most _ _ _ _ digest-at_most answers-at_most))))
