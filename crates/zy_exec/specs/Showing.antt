-- What the bytes of a snapshot show, as a function of them.
use Rattle.std.specs.Prelude.{ℕ, if◌then◌else◌, List, [], ◌∷◌, replicate, slice_set, Option, Some, None, option_map, Result, Ok, Err}
use Rattle.zy_base.specs.Machine.{Rules}
use Rattle.zy_base.specs.declared.frame_fault.FrameFault.{FrameFault}
use Rattle.zy_base.specs.declared.ids.Digest.{Digest}
use Rattle.zy_base.specs.declared.ids.Place.{Place}
use Rattle.zy_wire.specs.Spelling.{whole}
use Rattle.zy_exec.specs.declared.known.Known.{Known}
use Rattle.zy_exec.specs.declared.row.Row.{Row}
use Rattle.zy_exec.specs.Replay.{Point}
use Rattle.zy_exec.specs.Reading.{is_rising}
use Rattle.zy_exec.specs.Snapshot.{snapshot_fields}

-- with what is known of each client that is named
abbrev pub with_rows : List (Option Known) → List Row → List (Option Known)
with_rows known [] = known
with_rows known (r ∷ rows) = with_rows (slice_set known r.client.0 (Some r.known)) rows

abbrev pub slots_of : List Row → List (Option Known)
slots_of rows = with_rows (replicate 64 None) rows

-- the clients rise, and the machine reads the state
abbrev pub point_of : {S : Type 0} → Rules S → Place → Digest → Result (List Row × List ℕ) FrameFault → Option (Point S)
point_of R place head (Err fault) = None
point_of R place head (Ok parts) =
    if is_rising 0 parts.0
    then option_map (λ state. record { place = place.0; head = head; state = state; known = slots_of parts.0 }) (R.read parts.1)
    else None

-- the point that they show at a place with a head, where they are a snapshot
unfoldable pub point_in : {S : Type 0} → Rules S → Place → Digest → List ℕ → Option (Point S)
point_in R place head bytes = point_of R place head (whole snapshot_fields bytes)
