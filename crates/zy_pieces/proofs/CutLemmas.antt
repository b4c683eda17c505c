-- One datagram of a frame after another.
use Rattle.std.proofs.Common.{◌≡◌, ℕ, ◌+◌, ◌/◌, ◌%◌, min, List, [], ◌∷◌, ◌++◌, map, sym, ap, ◌∙◌, arith}
use Rattle.std.specs.List.{range_with_len}
use Rattle.std.proofs.lemmas.List.FromFn.{map-range_with_len_more}
use Rattle.sha2.specs.Sha256.{sha256}
use Rattle.zy_pieces.specs.Pieces.{Piece, datagram_of, piece_at, payload_at, count_of}

abbrev front : List ℕ → ℕ → List (List ℕ)
front frame n = map (λ i. datagram_of (piece_at frame i)) (range_with_len 0 n)

abbrev made : List ℕ → ℕ → ℕ → List ℕ → Piece
made digest index count payload = record { digest = record { 0 = digest }; index = index; count = count; payload = payload }

same_piece : (frame digest : List ℕ) (index count : ℕ) (payload : List ℕ) → digest ≡ sha256 frame → count ≡ count_of frame → payload ≡ payload_at frame index → made digest index count payload ≡ piece_at frame index
same_piece frame digest index count payload a b c = λ i. record { digest = record { 0 = a i }; index = index; count = b i; payload = c i }

-- the datagrams so far with the next one
pub one_datagram_more : (frame : List ℕ) (n : ℕ) (before after : List (List ℕ)) (bytes digest : List ℕ) (count : ℕ) (payload : List ℕ) → before ≡ front frame n → after ≡ before ++ bytes ∷ [] → bytes ≡ datagram_of (made digest n count payload)
    → digest ≡ sha256 frame → count ≡ count_of frame → payload ≡ payload_at frame n → after ≡ front frame (n + 1)
one_datagram_more frame n before after bytes digest count payload so_far more is a b c =
    more
    ∙ ap (λ ds. ds ++ bytes ∷ []) so_far
    ∙ ap (λ d. front frame n ++ d ∷ []) (is ∙ ap datagram_of (same_piece frame digest n count payload a b c))
    ∙ sym (map-range_with_len_more (λ i. datagram_of (piece_at frame i)) 0 n n (omega arith))

pub rounded_up : (n : ℕ) → n / 8192 + min 1 (n % 8192) ≡ (n + 8191) / 8192
rounded_up n = omega arith
