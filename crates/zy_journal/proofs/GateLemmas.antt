-- What is read at a gate.
use Rattle.std.proofs.Common.{◌≡◌, ◌≢◌, ℕ, ◌+◌, ◌-◌, ◌^◌, ◌<◌, ◌≤◌, List, [], ◌∷◌, ◌++◌, length, drop, refl, sym, ◌∙◌, ap, subst, arith, append_assoc, length-append, length-drop}
use Rattle.std.specs.Int.{w32, to_be_bytes}
use Rattle.zy_journal.specs.Disk.{StandsAt}
use Rattle.zy_journal.specs.Finding.{HasLength}
use Rattle.zy_journal.specs.Journal.{block_of, blocks, IsGateAt, IsGate, IsEnd, HasRecord, IsDamaged}
use Rattle.zy_journal.proofs.Files.{stands_then}
use Rattle.zy_journal.proofs.Lists.{same_front, same_length, tail_is, blocks_push, listed_push, length-block, length-blocks_push, behind_gate, front_size, front_split, front_of}

pub inside_gate : (file : List ℕ) (gate : ℕ) → IsGate file gate → gate < length file
inside_gate file gate at =
    omega (arith, at.inside, front_size file gate at.before at.behind at.stands, ap length (front_split file gate at.before at.behind at.stands), length-append (front_of at.stands.head at.before) at.behind)

-- a gate that is shut ends the list
pub ends_at : (file : List ℕ) (gate shut : ℕ) → IsGate file gate → shut ≢ 1 → StandsAt (shut ∷ []) gate file → IsEnd file gate
ends_at file gate shut at is_shut stands = record {
  before = at.before;
  shut = shut;
  more = drop (gate + 1) file;
  stands = subst (λ (l : List ℕ). IsGateAt file gate at.before l) (sym (behind_gate file gate at.before at.behind at.stands) ∙ stands) at.stands;
  is_shut = is_shut;
}

-- the gate behind a record
pub gate_behind : (file : List ℕ) (gate : ℕ) (piece : List ℕ) → IsGate file gate → HasRecord file gate piece → IsGate file (gate + 5 + length piece)
gate_behind file gate piece at has =
    let next : ℕ = gate + 5 + length piece in
    let far : gate + length (block_of piece) ≡ next = omega (arith, length-block piece) in
    let behind : at.behind ≡ block_of piece ++ drop next file =
    sym (behind_gate file gate at.before at.behind at.stands) ∙ has.stands ∙ ap (λ (n : ℕ). block_of piece ++ drop n file) far in
    record {
      before = at.before ++ piece ∷ [];
      behind = drop next file;
      stands = record {
        head = at.stands.head;
        long = at.stands.long;
        spelled = at.stands.spelled ∙ ap (λ (l : List ℕ). at.stands.head ++ (blocks at.before ++ l)) behind ∙ ap (λ (l : List ℕ). at.stands.head ++ l) (sym (blocks_push at.before piece (drop next file)));
        used = at.stands.used;
        fits = listed_push at.before piece at.stands.fits has.fits;
        place = omega (arith, at.stands.place, length-blocks_push at.before piece);
      };
      inside = omega (arith, has.inside, length-drop next file);
    }

-- an open gate and a length
pub length_behind : (file : List ℕ) (gate n : ℕ) → StandsAt (1 ∷ []) gate file → StandsAt (to_be_bytes w32 n) (gate + 1) file → StandsAt (1 ∷ to_be_bytes w32 n) gate file
length_behind file gate n here there = stands_then (1 ∷ []) (to_be_bytes w32 n) file gate (gate + 1) refl here there

-- and the record
pub record_behind : (file : List ℕ) (gate n : ℕ) (piece : List ℕ) → HasLength file gate n → length piece ≡ n → StandsAt piece (gate + 5) file → HasRecord file gate piece
record_behind file gate n piece has size stands =
    let open_at = subst (λ (k : ℕ). StandsAt (1 ∷ to_be_bytes w32 k) gate file) (sym size) has.stands in
    record {
      fits = (omega (arith, has.least, size), omega (arith, has.most, size));
      stands = stands_then (1 ∷ to_be_bytes w32 (length piece)) piece file gate (gate + 5) (omega arith) open_at stands;
      inside = omega (arith, has.inside, size);
    }

-- a record that stands there has the length that stands there
pub one_length : (file : List ℕ) (gate n : ℕ) (piece : List ℕ) → n < 2 ^ 32 → StandsAt (1 ∷ to_be_bytes w32 n) gate file → HasRecord file gate piece → length piece ≡ n
one_length file gate n piece range stands has =
    let both : (1 ∷ to_be_bytes w32 (length piece)) ++ (piece ++ drop (gate + length (block_of piece)) file) ≡ (1 ∷ to_be_bytes w32 n) ++ drop (gate + 5) file =
    sym (append_assoc (1 ∷ to_be_bytes w32 (length piece)) piece (drop (gate + length (block_of piece)) file)) ∙ sym has.stands ∙ stands in
    let parts = same_front (1 ∷ to_be_bytes w32 (length piece)) (1 ∷ to_be_bytes w32 n) _ _ refl both in
    same_length (length piece) n (omega (arith, has.fits.1)) range (tail_is 1 1 _ _ parts.0)

-- a file that ends too soon
pub too_short : (file : List ℕ) (gate : ℕ) → StandsAt (1 ∷ []) gate file → length file < gate + 7 → IsDamaged file gate
too_short file gate stands short = (stands, λ piece has. absurd (omega (arith, has.inside, has.fits.0)))

-- a length that no record has, or whose next gate lies outside
pub no_record : (file : List ℕ) (gate n left : ℕ) → left ≡ length file - gate → n < 2 ^ 32 → StandsAt (1 ∷ []) gate file → StandsAt (to_be_bytes w32 n) (gate + 1) file
    → ((1 ≤ n) × (n ≤ 8388609) × (n < left - 5) → ⊥) → IsDamaged file gate
no_record file gate n left is range stands number none = (
  stands,
  λ piece has.
      let size = one_length file gate n piece range (length_behind file gate n stands number) has in
      none (omega (arith, has.fits.0, size), omega (arith, has.fits.1, size), omega (arith, has.inside, size, is)),
)
