-- When the pieces of one frame give it back, in whatever order they come.
use Rattle.std.specs.Prelude.{◌≡◌, ℕ, ◌<◌, ◌≤◌, Bool, true, false, not, ◌&&◌, nat_lt, List, [], ◌∷◌, length, Result, Ok, Err, All, Any, ⊤}
use Rattle.std.specs.List.{list_any}
use Rattle.zy_pieces.specs.declared.piece.PieceFault.{PieceFault}
use Rattle.zy_pieces.specs.Pieces.{Piece, piece_of, piece_at, count_of}
use Rattle.zy_pieces.specs.Gathering.{Gathering, is_of, added}
use Rattle.zy_wire.specs.Kind.{frame_limit}

abbrev pub is_gathered : Piece → List Gathering → Bool
is_gathered p gs = list_any (is_of p) gs

-- whether a frame begins with the datagram
abbrev pub begins_with : List Gathering → Result Piece PieceFault → Bool
begins_with gs (Err cause) = false
begins_with gs (Ok p) = nat_lt 1 p.count && not (is_gathered p gs)

-- wherever a frame begins, fewer than sixteen are being gathered: so none is dropped
abbrev pub HasRoom : List Gathering → List (List ℕ) → Type 0
HasRoom gs [] = ⊤
HasRoom gs (datagram ∷ datagrams) =
    (begins_with gs (piece_of datagram) ≡ true → length gs < 16) × HasRoom (added gs datagram).frames datagrams

-- the datagram is this piece of the frame
abbrev pub Brings : List ℕ → ℕ → List ℕ → Type 0
Brings frame i datagram = piece_of datagram ≡ Ok (piece_at frame i)

-- a datagram with the frame's digest and number of pieces is one of its pieces
abbrev pub IsOwn : List ℕ → List ℕ → Type 0
IsOwn frame datagram = (p : Piece) → piece_of datagram ≡ Ok p → p.digest ≡ (piece_at frame 0).digest → p.count ≡ count_of frame → p ≡ piece_at frame p.index

-- The frame isn't being gathered yet, each of its pieces is among the datagrams, no other datagram has its digest and
-- number of pieces, and no frame is dropped.
pub record AreAllThere (frame : List ℕ) (gs : List Gathering) (datagrams : List (List ℕ)) : Type 0 where
  pub some_byte : 1 ≤ length frame
  pub not_too_long : length frame ≤ frame_limit
  pub new : is_gathered (piece_at frame 0) gs ≡ false
  pub each : (i : ℕ) → i < count_of frame → Any (Brings frame i) datagrams
  pub no_other : All (IsOwn frame) datagrams
  pub room : HasRoom gs datagrams
