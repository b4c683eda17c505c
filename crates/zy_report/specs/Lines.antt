-- The lines that a run writes. Each ends with a line feed (10).
use Rattle.std.specs.Prelude.{ℕ, Bool, if◌then◌else◌, List, [], ◌∷◌, ◌++◌, codes, Option, Some, None, Result, Ok, Err}
use Rattle.std.specs.Fmt.{decimal}
use Rattle.hex.specs.Hex.{encode_lower}
use Rattle.zy_base.specs.Cause.{number_of, name_of}
use Rattle.zy_base.specs.Step.{view_of}
use Rattle.zy_base.specs.declared.cause.Cause.{Cause}
use Rattle.zy_base.specs.declared.frame_fault.FrameFault.{FrameFault}
use Rattle.zy_base.specs.declared.ids.ClientId.{ClientId}
use Rattle.zy_base.specs.declared.ids.Digest.{Digest}
use Rattle.zy_base.specs.declared.ids.Party.{Party}
use Rattle.zy_base.specs.declared.ids.Place.{Place}
use Rattle.zy_base.specs.declared.ids.ReplicaId.{ReplicaId}
use Rattle.zy_base.specs.declared.ids.Stamp.{Stamp}
use Rattle.zy_base.specs.declared.ids.View.{View}
use Rattle.zy_base.specs.declared.step.Mode.{Mode}
use Rattle.zy_base.specs.declared.step.Mode.TheVariants.{Active, Leaving}
use Rattle.zy_base.specs.declared.step.Stood.{Stood}
use Rattle.zy_tuple.specs.Bytes.{reply_in}
use Rattle.zy_tuple.specs.Parties.{party_text}
use Rattle.zy_tuple.specs.Texts.{reply_text}
use Rattle.zy_tuple.specs.declared.values.Reply.{Reply}

-- ---- replies

abbrev pub read_text : List ℕ → Result Reply FrameFault → List ℕ
read_text bytes (Ok reply) = reply_text reply
read_text bytes (Err fault) = codes "raw " ++ encode_lower bytes

-- the text of the reply that these bytes spell; bytes that spell none are told in hexadecimal
abbrev pub reply_line : List ℕ → List ℕ
reply_line bytes = read_text bytes (reply_in bytes)

-- ---- events

-- the number of an event, and a space (32)
abbrev pub event_front : Option ℕ → List ℕ
event_front None = []
event_front (Some event) = decimal event ++ 32 ∷ []

abbrev pub path_text : Bool → List ℕ
path_text fast = if fast then codes " fast " else codes " slow "

-- a client's ask is complete, with a reply whose text is given
abbrev pub done_line : Option ℕ → ClientId → Stamp → View → Place → Bool → List ℕ → List ℕ
done_line event client stamp view place fast reply =
    event_front event
    ++ codes "done c" ++ decimal client.0
    ++ codes " stamp " ++ decimal stamp.0
    ++ codes " view " ++ decimal view.0
    ++ codes " place " ++ decimal place.0
    ++ path_text fast ++ reply ++ 10 ∷ []

abbrev pub place_name : Option Party → List ℕ
place_name None = codes "world"
place_name (Some party) = party_text party

-- what an event asked for was refused: by a party, or by the world where there is none, with the cause's number and name
abbrev pub refused_line : ℕ → Option Party → Cause → List ℕ
refused_line event party cause =
    decimal event ++ codes " refused " ++ place_name party ++ 32 ∷ decimal (number_of cause) ++ 32 ∷ name_of cause ++ 10 ∷ []

-- ---- the end of a run

abbrev pub mode_text : Mode → List ℕ
mode_text (Active view) = codes " active "
mode_text (Leaving view) = codes " leaving "

-- where a correct replica stands, and the digest of its state
abbrev pub stood_text : Stood → Digest → List ℕ
stood_text stood state =
    mode_text stood.mode ++ decimal (view_of stood.mode).0
    ++ codes " length " ++ decimal stood.length.0
    ++ codes " head " ++ encode_lower stood.head.0
    ++ codes " state " ++ encode_lower state.0 ++ 10 ∷ []

-- a replica at the end of a run; of a liar nothing more is told
abbrev pub replica_line : ReplicaId → Option Stood → Digest → List ℕ
replica_line id None state = 114 ∷ decimal id.0 ++ codes " liar" ++ 10 ∷ []
replica_line id (Some stood) state = 114 ∷ decimal id.0 ++ stood_text stood state

-- the agreed list: its length, and its head
abbrev pub agreed_line : Place → Digest → List ℕ
agreed_line place head = codes "agreed " ++ decimal place.0 ++ 32 ∷ encode_lower head.0 ++ 10 ∷ []

-- where a client's key and stamps go on
abbrev pub key_line : ℕ → Stamp → List ℕ
key_line next stamp = codes "key next " ++ decimal next ++ codes " stamp " ++ decimal stamp.0 ++ 10 ∷ []

-- what a run came to: so many asks and events, the asks that were completed, on a fast and on a slow path, and the refusals
abbrev pub summary_line : ℕ → ℕ → ℕ → ℕ → ℕ → ℕ → List ℕ
summary_line asks events done fast slow refused =
    codes "asks " ++ decimal asks
    ++ codes " events " ++ decimal events
    ++ codes " done " ++ decimal done
    ++ codes " fast " ++ decimal fast
    ++ codes " slow " ++ decimal slow
    ++ codes " refused " ++ decimal refused ++ 10 ∷ []
