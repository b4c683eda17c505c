-- A piece's datagram is read as that piece again, and what is read is a piece.
use Rattle.std.proofs.Common.{◌≡◌, ℕ, ◌+◌, ◌*◌, ◌<◌, ◌≤◌, Bool, true, false, not, ◌||◌, cond, nat_eq, nat_lt, nat_le, List, ◌∷◌, ◌++◌, length, take, drop, Option, Some, None, Result, Ok, Err, inl, inr, refl, sym, ap, ◌∙◌, arith}
use Rattle.std.specs.Prelude.{slice_range, slice_index}
use Rattle.std.specs.Int.{w16, to_be_bytes, from_be_bytes}
use Rattle.std.proofs.lemmas.Bool.{cases_eq, cond-true, cond-false, le-ltb, lt-leb, le-leb, eq-eqb, ne_eqb, leb-false, or_from}
use Rattle.std.proofs.lemmas.List.{take_at, drop_at, drop-drop, length-append, length-take, length-drop}
use Rattle.sha2.proofs.Facts256.{length-sha256}
use Rattle.zy_wire.proofs.Parts.{wide16}
use Rattle.zy_pieces.specs.declared.piece.PieceFault.{PieceFault}
use Rattle.zy_pieces.specs.declared.piece.PieceFault.TheVariants.{Header, Index}
use Rattle.zy_pieces.specs.Pieces.{Piece, IsPiece, datagram_of, fields_of, fits, fault_of, unless, piece_of, count_of, piece_at, most_pieces}
use Rattle.zy_wire.specs.Kind.{frame_limit}

-- ---- the fields of a datagram

abbrev four : List ℕ → List ℕ → List ℕ → List ℕ → List ℕ
four a b c d = 1 ∷ (a ++ (b ++ (c ++ d)))

record AreFields (a b c d : List ℕ) : Type 0 where
  first : slice_range (four a b c d) 1 33 ≡ a
  second : slice_range (four a b c d) 33 35 ≡ b
  third : slice_range (four a b c d) 35 37 ≡ c
  last : drop 37 (four a b c d) ≡ d
  len : 37 + length d ≡ length (four a b c d)

fields_are : (a b c d : List ℕ) → length a ≡ 32 → length b ≡ 2 → length c ≡ 2 → AreFields a b c d
fields_are a b c d la lb lc =
    let one : drop 32 (a ++ (b ++ (c ++ d))) ≡ b ++ (c ++ d) = drop_at a (b ++ (c ++ d)) 32 la in
    let two : drop 34 (a ++ (b ++ (c ++ d))) ≡ c ++ d = sym (drop-drop 2 32 (a ++ (b ++ (c ++ d)))) ∙ ap (drop 2) one ∙ drop_at b (c ++ d) 2 lb in
    let three : drop 36 (a ++ (b ++ (c ++ d))) ≡ d = sym (drop-drop 2 34 (a ++ (b ++ (c ++ d)))) ∙ ap (drop 2) two ∙ drop_at c d 2 lc in
    let l1 = length-append a (b ++ (c ++ d)) in
    let l2 = length-append b (c ++ d) in
    let l3 = length-append c d in
    record {
      first = take_at a (b ++ (c ++ d)) 32 la;
      second = ap (take 2) one ∙ take_at b (c ++ d) 2 lb;
      third = ap (take 2) two ∙ take_at c d 2 lc;
      last = three;
      len = omega arith;
    }

pub same_fields : (datagram digest : List ℕ) (index count : ℕ) (payload : List ℕ) → digest ≡ slice_range datagram 1 33 → index ≡ from_be_bytes w16 (slice_range datagram 33 35) → count ≡ from_be_bytes w16 (slice_range datagram 35 37) → payload ≡ drop 37 datagram
    → (let p : Piece = record { digest = record { 0 = digest }; index = index; count = count; payload = payload } in p) ≡ fields_of datagram
same_fields datagram digest index count payload a b c d = λ i. record { digest = record { 0 = a i }; index = b i; count = c i; payload = d i }

fields_again : (p : Piece) → IsPiece p → AreFields p.digest.0 (to_be_bytes w16 p.index) (to_be_bytes w16 p.count) p.payload → fields_of (datagram_of p) ≡ p
fields_again p is are =
    let index : from_be_bytes w16 (slice_range (datagram_of p) 33 35) ≡ p.index = ap (from_be_bytes w16) are.second ∙ wide16.same p.index (omega (arith, is.index, is.count)) in
    let count : from_be_bytes w16 (slice_range (datagram_of p) 35 37) ≡ p.count = ap (from_be_bytes w16) are.third ∙ wide16.same p.count (omega (arith, is.count)) in
    λ i. record { digest = record { 0 = are.first i }; index = index i; count = count i; payload = are.last i }

-- ---- what is judged

fits_its_place : (p : Piece) → IsPiece p → fits p ≡ true
fits_its_place p is =
    elim (cases_eq (p.index + 1) p.count) [
      | inl last ↦ cond-true (nat_eq (p.index + 1) p.count) (nat_le (length p.payload) 8192) (nat_eq (length p.payload) 8192) (eq-eqb _ _ last) ∙ le-leb _ _ is.room
      | inr more ↦
          let small : p.index + 1 < p.count = omega (arith, is.index, more) in
          cond-false (nat_eq (p.index + 1) p.count) (nat_le (length p.payload) 8192) (nat_eq (length p.payload) 8192) (ne_eqb _ _ more) ∙ eq-eqb _ _ (is.full small)
    ]

no_fault : (p : Piece) → IsPiece p → fault_of p ≡ None
no_fault p is =
    cond-false (nat_lt p.count 1 || nat_lt most_pieces p.count) (Some Header) (cond (nat_le p.count p.index) (Some Index) (cond (fits p) None (Some Header)))
    (or_from (nat_lt p.count 1) (nat_lt most_pieces p.count) (le-ltb _ _ (omega (arith, is.index))) (le-ltb _ _ is.count))
    ∙ cond-false (nat_le p.count p.index) (Some Index) (cond (fits p) None (Some Header)) (lt-leb _ _ is.index)
    ∙ cond-true (fits p) None (Some Header) (fits_its_place p is)

-- a piece's datagram is read as the piece
pub piece_again : (p : Piece) → IsPiece p → piece_of (datagram_of p) ≡ Ok p
piece_again p is =
    let are = fields_are p.digest.0 (to_be_bytes w16 p.index) (to_be_bytes w16 p.count) p.payload is.digest (wide16.len p.index) (wide16.len p.count) in
    let long : 38 ≤ length (datagram_of p) = omega (arith, are.len, is.payload) in
    cond-false (nat_lt (length (datagram_of p)) 38 || false) (Err Header) (unless (fault_of (fields_of (datagram_of p))) (fields_of (datagram_of p))) (or_from _ _ (le-ltb _ _ long) refl)
    ∙ ap (λ (q : Piece). unless (fault_of q) q) (fields_again p is are)
    ∙ ap (λ f. unless f p) (no_fault p is)

-- ---- what is read

past : {A : Type 0} (b : Bool) (fault : PieceFault) (r : Result A PieceFault) (x : A) → cond b (Err fault) r ≡ Ok x → (b ≡ false) × (r ≡ Ok x)
past true fault r x e = absurd cc
past false fault r x e = (refl, e)

passed : (o : Option PieceFault) (q p : Piece) → unless o q ≡ Ok p → (o ≡ None) × (q ≡ p)
passed None q p e = (refl, cc)
passed (Some fault) q p e = absurd cc

not_past : (b : Bool) (fault : PieceFault) (o : Option PieceFault) → cond b (Some fault) o ≡ None → (b ≡ false) × (o ≡ None)
not_past true fault o e = absurd cc
not_past false fault o e = (refl, e)

faultless_below : (p : Piece) → fault_of p ≡ None → p.index < p.count
faultless_below p none =
    let some = not_past (nat_lt p.count 1 || nat_lt most_pieces p.count) Header _ none in
    let below = not_past (nat_le p.count p.index) Index _ some.1 in
    leb-false _ _ below.0

-- a piece's place is below the number of pieces
pub piece_below : (datagram : List ℕ) (p : Piece) → piece_of datagram ≡ Ok p → p.index < p.count
piece_below datagram p e =
    let long = past (nat_lt (length datagram) 38 || not (nat_eq (slice_index datagram 0) 1)) Header _ p e in
    let read = passed (fault_of (fields_of datagram)) (fields_of datagram) p long.1 in
    faultless_below p (ap fault_of (sym read.1) ∙ read.0)

-- ---- a frame's pieces

-- each is a piece
pub frame_piece : (frame : List ℕ) (i : ℕ) → 1 ≤ length frame → length frame ≤ frame_limit → i < count_of frame → IsPiece (piece_at frame i)
frame_piece frame i some long within =
    let left = length-drop (8192 * i) frame in
    let len = length-take 8192 (drop (8192 * i) frame) in
    record {
      digest = length-sha256 frame;
      index = within;
      count = omega arith;
      payload = omega arith;
      room = omega arith;
      full = λ more. omega arith;
    }
