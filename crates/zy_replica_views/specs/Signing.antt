-- How many statements an adoption signs: so they are counted before any is signed.
use Rattle.std.specs.Prelude.{◌≡◌, ℕ, ◌+◌, ◌≤◌, nat_lt, is_some, Bool, true, false, if◌then◌else◌, length}
use Rattle.zy_chain.specs.Stretch.{end_of}
use Rattle.zy_base.specs.declared.ids.Place.{Place}
use Rattle.zy_base.specs.declared.ids.View.{View}
use Rattle.zy_parts.specs.declared.reports.Told.{Told}
use Rattle.zy_check.specs.Board.{stated}
use Rattle.zy_evidence.specs.Reading.{stretch_of}
use Rattle.zy_table.specs.State.{State, own_view}
use Rattle.zy_table.specs.Adopting.{checkpoints_between}
use Rattle.zy_table.specs.Beginning.{fetch_said, wanted_of}
use Rattle.zy_replica_adopt.specs.Meeting.{Meets}

-- the stable place once the history of a report is taken up
abbrev pub stable_then : {S : Type 0} → State S → Told → ℕ
stable_then s told =
    if nat_lt s.board.stable.place.0 told.stable_place.0 then told.stable_place.0 else s.board.stable.place.0

-- the checkpoints above that, up to the choice
abbrev pub signs_taken : {S : Type 0} → State S → Told → Place → ℕ
signs_taken s told place = length (checkpoints_between s.kept.interval (stable_then s told) place.0)

-- the report, where the view is below, and what is asked for, where it wasn't yet
abbrev pub signs_waiting : {S : Type 0} → State S → View → Told → ℕ
signs_waiting s view told =
    (if nat_lt (own_view s) view.0 then 1 else 0) + (if is_some (fetch_said s (wanted_of told)) then 0 else 1)

-- either, by whether it waits
abbrev pub signs_by : {S : Type 0} → State S → View → Told → Place → Bool → ℕ
signs_by s view told place true = signs_waiting s view told
signs_by s view told place false = signs_taken s told place

-- The history that a report gives up to a place can be taken up: both meet at or above both bases, the report comes so
-- far, the own base is the stable place, and where the report is stable further on, its proof is of its stable place.
pub record CanTake {S : Type 0} (s : State S) (told : Told) (place : Place) : Type 0 where
  pub meets : Meets (stretch_of told) place.0 s.kept
  pub end : place.0 ≤ end_of (stretch_of told)
  pub base : s.kept.base.place ≡ s.board.stable.place.0
  pub proof : nat_lt s.board.stable.place.0 told.stable_place.0 ≡ true → (stated s.board.stable told.checks).place ≡ told.stable_place
