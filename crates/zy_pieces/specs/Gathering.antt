-- Frames of which some pieces have come, and what one more datagram makes of them.
use Rattle.std.specs.Prelude.{ℕ, ◌-◌, Bool, ◌&&◌, nat_eq, if◌then◌else◌, List, [], ◌∷◌, ◌++◌, length, drop, replicate, slice_set, slice_index_or, Option, Some, None, is_some, Result, Ok, Err}
use Rattle.std.specs.List.{list_all, flat_map, cons_option}
use Rattle.std.specs.Option.{option_map, unwrap_or}
use Rattle.std.specs.Cmp.Lexicographic.{pointwise}
use Rattle.sha2.specs.Sha256.{sha256}
use Rattle.zy_base.specs.declared.ids.Digest.{Digest}
use Rattle.zy_pieces.specs.declared.piece.PieceFault.{PieceFault}
use Rattle.zy_pieces.specs.declared.piece.PieceFault.TheVariants as fault
use Rattle.zy_pieces.specs.declared.gather.Gathered.{Gathered}
use Rattle.zy_pieces.specs.declared.gather.Gathered.TheVariants.{Whole, Part, Refused}
use Rattle.zy_pieces.specs.Pieces.{Piece, piece_of}

-- a frame that is being gathered: its digest, and a slot for each piece, with the bytes of those that have come
pub record Gathering : Type 0 where
  pub digest : Digest
  pub slots : List (Option (List ℕ))

-- ---- one frame

-- whether the piece is one of the frame's: both name the same digest and the same number of pieces
abbrev pub is_of : Piece → Gathering → Bool
is_of p g = pointwise nat_eq p.digest.0 g.digest.0 && nat_eq p.count (length g.slots)

abbrev pub is_there : Piece → Gathering → Bool
is_there p g = is_some (slice_index_or g.slots p.index None)

abbrev pub with_piece : Piece → Gathering → Gathering
with_piece p g = record { digest = g.digest; slots = slice_set g.slots p.index (Some p.payload) }

-- the piece's frame, before and after its first piece
abbrev pub nothing_of : Piece → Gathering
nothing_of p = record { digest = p.digest; slots = replicate p.count None }

abbrev pub begun : Piece → Gathering
begun p = with_piece p (nothing_of p)

abbrev pub is_whole : List (Option (List ℕ)) → Bool
is_whole slots = list_all is_some slots

-- the bytes of the pieces in order
abbrev pub joined : List (Option (List ℕ)) → List ℕ
joined slots = flat_map (λ slot. unwrap_or slot []) slots

-- a whole frame counts where it has the digest that its pieces name
abbrev pub judged : Digest → List ℕ → Gathered
judged digest frame = if pointwise nat_eq (sha256 frame) digest.0 then Whole frame else Refused fault.Digest

-- what a frame's piece makes of it: what is kept of it, and the answer
pub record Settled : Type 0 where
  pub kept : Option Gathering
  pub answer : Gathered

-- a piece that is there already changes nothing; with the last missing one the frame leaves
abbrev pub settled : Piece → Gathering → Settled
settled p g =
    if is_there p g
    then record { kept = Some g; answer = Part }
    else (if is_whole (with_piece p g).slots
    then record { kept = None; answer = judged p.digest (joined (with_piece p g).slots) }
    else record { kept = Some (with_piece p g); answer = Part })

-- ---- all frames, the one whose first piece came first at the front

-- the frames from then on, and the answer
pub record Added : Type 0 where
  pub frames : List Gathering
  pub answer : Gathered

abbrev pub behind : Gathering → Added → Added
behind g a = record { frames = g ∷ a.frames; answer = a.answer }

-- The piece's frame settles it, and the others stay. None where that frame isn't being gathered.
abbrev pub placed : Piece → List Gathering → Option Added
placed p [] = None
placed p (g ∷ gs) =
    if is_of p g
    then Some (record { frames = cons_option (settled p g).kept gs; answer = (settled p g).answer })
    else option_map (behind g) (placed p gs)

-- at most sixteen frames are gathered at a time: the one that began first is dropped
abbrev pub last_sixteen : List Gathering → List Gathering
last_sixteen gs = drop (length gs - 16) gs

abbrev pub begin : Piece → List Gathering → Added
begin p gs = record { frames = last_sixteen (gs ++ begun p ∷ []); answer = Part }

-- a frame of one piece is judged at once
abbrev pub taken : List Gathering → Result Piece PieceFault → Added
taken gs (Err cause) = record { frames = gs; answer = Refused cause }
taken gs (Ok p) =
    if nat_eq p.count 1
    then record { frames = gs; answer = judged p.digest p.payload }
    else unwrap_or (placed p gs) (begin p gs)

abbrev pub added : List Gathering → List ℕ → Added
added gs datagram = taken gs (piece_of datagram)

-- what datagrams are answered, one after another
abbrev pub answers : List Gathering → List (List ℕ) → List Gathered
answers gs [] = []
answers gs (datagram ∷ datagrams) = (added gs datagram).answer ∷ answers (added gs datagram).frames datagrams
