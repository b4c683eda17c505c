-- What another's wish for the stable snapshot comes to, and a snapshot that comes.
use Rattle.std.specs.Prelude.{◌≡◌, ℕ, nat_eq, nat_lt, if◌then◌else◌, List, Option, Some, None}
use Rattle.sha2.specs.Sha256.{sha256}
use Rattle.zy_base.specs.declared.cause.Cause.{Cause}
use Rattle.zy_base.specs.declared.cause.Cause.TheVariants as causes
use Rattle.zy_base.specs.declared.ids.Digest.{Digest}
use Rattle.zy_base.specs.declared.ids.Place.{Place}
use Rattle.zy_parts.specs.declared.reports.Fetch.{Fetch}
use Rattle.zy_parts.specs.declared.statements.Check.{Check}
use Rattle.zy_vframes.specs.declared.frame.ViewFrame.{ViewFrame}
use Rattle.zy_vframes.specs.declared.frame.ViewFrame.TheVariants as frames
use Rattle.zy_cert.specs.Equal.{same_digest}
use Rattle.zy_check.specs.declared.states.StateFault.{StateFault}
use Rattle.zy_check.specs.declared.states.StateFault.TheVariants.{Refused, Want}

-- the stable checkpoint isn't what is wanted
abbrev pub fetch_cause : Check → Fetch → Option Cause
fetch_cause stable wanted =
    if nat_lt wanted.place.0 stable.place.0 then Some causes.OldPlace
    else (if nat_lt stable.place.0 wanted.place.0 then Some (causes.Behind wanted.place)
    else (if same_digest stable.state wanted.state then None
    else Some (causes.WrongState stable.state wanted.state)))

-- why no snapshot is sent, unless memory runs out
abbrev pub IsFaultOf : Option Cause → StateFault → Type 0
IsFaultOf against (Refused cause) = against ≡ Some cause
IsFaultOf against Want = Unit {0}

abbrev pub digest_of : List ℕ → Digest
digest_of bytes = record { 0 = sha256 bytes }

-- a snapshot isn't the one that is wanted
abbrev pub state_cause : Fetch → Place → List ℕ → Option Cause
state_cause wanted place bytes =
    if nat_eq place.0 wanted.place.0
    then (if same_digest wanted.state (digest_of bytes) then None
    else Some (causes.WrongState wanted.state (digest_of bytes)))
    else Some causes.Unmatched

-- nor is a frame that brings none
abbrev pub frame_cause : Fetch → ViewFrame → Option Cause
frame_cause wanted (frames.State place bytes) = state_cause wanted place bytes
frame_cause wanted frame = Some causes.Unmatched
