-- One list of records for the bytes of a journal.
use Rattle.std.proofs.Common.{◌≡◌, ◌≢◌, inl, inr, ℕ, ◌+◌, ◌^◌, ◌<◌, ◌≤◌, true, false, List, [], ◌∷◌, ◌++◌, length, take, drop, refl, sym, ◌∙◌, ap, arith, append_assoc, length-append}
use Rattle.std.specs.Int.{w32, to_be_bytes, from_be_bytes}
use Rattle.std.specs.List.{AllByRecursion}
use Rattle.std.proofs.lemmas.Bool.{le-ltb, cases_eq}
use Rattle.std.proofs.lemmas.Bool.Decides.{nat_tests}
use Rattle.std.proofs.lemmas.List.{take_at, drop_at}
use Rattle.std.proofs.lemmas.Nat.{from_be_bytes-to_be_bytes_4}
use Rattle.zy_base.specs.declared.ids.Digest.{Digest}
use Rattle.zy_journal.specs.Journal.{IsPiece, block_of, blocks, mark_of, head_of, is_blank, Holds, StandsFor, IsGateAt}

abbrev pub AreListed : List (List ℕ) → Type 0
AreListed pieces = AllByRecursion IsPiece pieces

-- equal lists have equal fronts of one length, and equal rests
pub same_front : (a b x y : List ℕ) → length a ≡ length b → a ++ x ≡ b ++ y → (a ≡ b) × (x ≡ y)
same_front a b x y size e = (
  sym (take_at a x (length a) refl) ∙ ap (λ (l : List ℕ). take (length a) l) e ∙ take_at b y (length a) (sym size),
  sym (drop_at a x (length a) refl) ∙ ap (λ (l : List ℕ). drop (length a) l) e ∙ drop_at b y (length a) (sym size),
)

-- a length is read back from its four bytes
pub same_length : (m n : ℕ) → m < 2 ^ 32 → n < 2 ^ 32 → to_be_bytes w32 m ≡ to_be_bytes w32 n → m ≡ n
same_length m n low high e = sym (from_be_bytes-to_be_bytes_4 m low) ∙ ap (λ (l : List ℕ). from_be_bytes w32 l) e ∙ from_be_bytes-to_be_bytes_4 n high

pub tail_is : (x y : ℕ) (xs ys : List ℕ) → x ∷ xs ≡ y ∷ ys → xs ≡ ys
tail_is x y xs ys e = cc

pub first_is : (x y : ℕ) (xs ys : List ℕ) → x ∷ xs ≡ y ∷ ys → x ≡ y
first_is x y xs ys e = cc

-- a block at the front tells its record
pub same_block : (p q x y : List ℕ) → IsPiece p → IsPiece q → block_of p ++ x ≡ block_of q ++ y → (p ≡ q) × (x ≡ y)
same_block p q x y fits fits' e =
    let behind : to_be_bytes w32 (length p) ++ (p ++ x) ≡ to_be_bytes w32 (length q) ++ (q ++ y) =
    sym (append_assoc (to_be_bytes w32 (length p)) p x) ∙ tail_is 1 1 _ _ e ∙ append_assoc (to_be_bytes w32 (length q)) q y in
    let parts = same_front (to_be_bytes w32 (length p)) (to_be_bytes w32 (length q)) (p ++ x) (q ++ y) refl behind in
    let size : length p ≡ length q = same_length (length p) (length q) (omega (arith, fits.1)) (omega (arith, fits'.1)) parts.0 in
    same_front p q x y size parts.1

-- blocks up to a gate that is shut are those of one list
pub same_blocks : (ps qs : List (List ℕ)) (g h : ℕ) (xs ys : List ℕ) → AreListed ps → AreListed qs → g ≢ 1 → h ≢ 1
    → blocks ps ++ (g ∷ xs) ≡ blocks qs ++ (h ∷ ys) → (ps ≡ qs) × (g ∷ xs ≡ h ∷ ys)
same_blocks [] [] g h xs ys fit fit' shut shut' e = (refl, e)
same_blocks [] (q ∷ qs) g h xs ys fit fit' shut shut' e = absurd (shut (first_is g 1 _ _ e))
same_blocks (p ∷ ps) [] g h xs ys fit fit' shut shut' e = absurd (shut' (sym (first_is 1 h _ _ e)))
same_blocks (p ∷ ps) (q ∷ qs) g h xs ys fit fit' shut shut' e =
    let e' : block_of p ++ (blocks ps ++ (g ∷ xs)) ≡ block_of q ++ (blocks qs ++ (h ∷ ys)) =
    sym (append_assoc (block_of p) (blocks ps) (g ∷ xs)) ∙ e ∙ append_assoc (block_of q) (blocks qs) (h ∷ ys) in
    let parts = same_block p q _ _ fit.0 fit'.0 e' in
    let rest = same_blocks ps qs g h xs ys fit.1 fit'.1 shut shut' parts.1 in
    ((λ i. parts.0 i ∷ rest.0 i), rest.1)

pub blocks_push : (ps : List (List ℕ)) (p rest : List ℕ) → blocks (ps ++ p ∷ []) ++ rest ≡ blocks ps ++ (block_of p ++ rest)
blocks_push [] p rest = append_assoc (block_of p) [] rest
blocks_push (q ∷ qs) p rest =
    append_assoc (block_of q) (blocks (qs ++ p ∷ [])) rest ∙ ap (λ (l : List ℕ). block_of q ++ l) (blocks_push qs p rest) ∙ sym (append_assoc (block_of q) (blocks qs) (block_of p ++ rest))

pub listed_push : (ps : List (List ℕ)) (p : List ℕ) → AreListed ps → IsPiece p → AreListed (ps ++ p ∷ [])
listed_push [] p all fits = (fits, tt)
listed_push (q ∷ qs) p all fits = (all.0, listed_push qs p all.1 fits)

pub length-block : (p : List ℕ) → length (block_of p) ≡ 5 + length p
length-block p = omega (arith, length-append (to_be_bytes w32 (length p)) p)

pub length-head : (identity : Digest) → length identity.0 ≡ 32 → length (head_of identity) ≡ 41
length-head identity size = omega (arith, size)

-- ---- blank files and journals

-- fewer than 42 bytes
pub short_blank : (image : List ℕ) → length image ≤ 41 → is_blank image ≡ true
short_blank [] short = refl
short_blank (x ∷ rest) short = grind (arith, nat_tests)

-- a first byte that isn't 1
pub shut_blank : (first : ℕ) (rest : List ℕ) → first ≢ 1 → is_blank (first ∷ rest) ≡ true
shut_blank first rest shut = grind (arith, nat_tests)

-- a file that is not blank begins with 1 and has 42 bytes
pub used_file : (file : List ℕ) → is_blank file ≡ false → 42 ≤ length file
used_file [] used = absurd cc
used_file (x ∷ rest) used = grind (arith, nat_tests)

pub long_used : (rest : List ℕ) → 41 ≤ length rest → is_blank (1 ∷ rest) ≡ false
long_used rest long = le-ltb (length rest) 41 long

pub holds_used : (identity : Digest) (image : List ℕ) (pieces : List (List ℕ)) → Holds identity image pieces → is_blank image ≡ false
holds_used identity image pieces holds =
    let rest = mark_of identity ++ (blocks pieces ++ (holds.gate ∷ holds.behind)) in
    ap is_blank holds.spelled ∙ long_used rest (omega (arith, holds.size, length-append (mark_of identity) (blocks pieces ++ (holds.gate ∷ holds.behind)), length-append (blocks pieces) (holds.gate ∷ holds.behind)))

-- a blank file stands for no record
pub blank_none : (identity : Digest) (file : List ℕ) (pieces : List (List ℕ)) → is_blank file ≡ true → StandsFor identity file pieces → pieces ≡ []
blank_none identity file pieces blank (inl is) = is.1
blank_none identity file pieces blank (inr holds) = let used = holds_used identity file pieces holds in absurd cc

-- another one holds what it stands for
pub used_holds : (identity : Digest) (file : List ℕ) (pieces : List (List ℕ)) → is_blank file ≡ false → StandsFor identity file pieces → Holds identity file pieces
used_holds identity file pieces used (inl is) = let blank = is.0 in absurd cc
used_holds identity file pieces used (inr holds) = holds

-- what an image stands for is one list
pub one_list : (identity : Digest) (image : List ℕ) (ps qs : List (List ℕ)) → StandsFor identity image ps → StandsFor identity image qs → ps ≡ qs
one_list identity image ps qs (inl is) stands = is.1 ∙ sym (blank_none identity image qs is.0 stands)
one_list identity image ps qs (inr holds) stands =
    let other = used_holds identity image qs (holds_used identity image ps holds) stands in
    let same = same_front (head_of identity) (head_of identity) (blocks ps ++ (holds.gate ∷ holds.behind)) (blocks qs ++ (other.gate ∷ other.behind)) refl (sym holds.spelled ∙ other.spelled) in
    (same_blocks ps qs holds.gate other.gate holds.behind other.behind holds.fits other.fits holds.shut other.shut same.1).0

-- what follows a head decides nothing but the length
pub used_front : (head rest rest' : List ℕ) → length head ≡ 41 → 1 ≤ length rest' → is_blank (head ++ rest) ≡ false → is_blank (head ++ rest') ≡ false
used_front [] rest rest' long some used = absurd (omega arith)
used_front (h ∷ hs) rest rest' long some used = elim (cases_eq h 1) [
  | inl is_open ↦ ap (λ (n : ℕ). is_blank (n ∷ (hs ++ rest'))) is_open ∙ long_used (hs ++ rest') (omega (arith, length-append hs rest'))
  | inr shut ↦ let blank = shut_blank h (hs ++ rest) shut in absurd cc
]

-- ---- gates

pub length-blocks_push : (ps : List (List ℕ)) (p : List ℕ) → length (blocks (ps ++ p ∷ [])) ≡ length (blocks ps) + (5 + length p)
length-blocks_push ps p =
    omega (arith, ap length (blocks_push ps p []), length-append (blocks (ps ++ p ∷ [])) [], length-append (blocks ps) (block_of p ++ []), length-append (block_of p) [], length-block p)

-- what stands before a gate
abbrev pub front_of : List ℕ → List (List ℕ) → List ℕ
front_of head before = head ++ blocks before

module _ (file : List ℕ) (gate : ℕ) (before : List (List ℕ)) (behind : List ℕ) (at : IsGateAt file gate before behind) where
  pub front_size : length (front_of at.head before) ≡ gate
  front_size = omega (arith, at.long, at.place, length-append at.head (blocks before))

  pub front_split : file ≡ front_of at.head before ++ behind
  front_split = at.spelled ∙ sym (append_assoc at.head (blocks before) behind)

  pub behind_gate : drop gate file ≡ behind
  behind_gate = ap (λ (l : List ℕ). drop gate l) front_split ∙ drop_at (front_of at.head before) behind gate front_size
