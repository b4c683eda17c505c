-- What stays as a view begins: the key, and how many places lie between two snapshots.
use Rattle.std.proofs.Common.{◌≡◌, ℕ, ◌≤◌, nat_lt, Bool, true, false, if◌then◌else◌, List, length, refl, ap}
use Rattle.zy_base.specs.Machine.{Rules}
use Rattle.zy_base.specs.declared.ids.Place.{Place}
use Rattle.zy_parts.specs.declared.reports.Told.{Told}
use Rattle.zy_evidence.specs.Reading.{stretch_of}
use Rattle.zy_vframes.specs.declared.frame.ViewCert.{ViewCert}
use Rattle.zy_change.specs.declared.kept.Chosen.{Chosen}
use Rattle.zy_table.specs.State.{State, signs_left}
use Rattle.zy_table.specs.declared.deeds.Act.TheVariants.{Adopts}
use Rattle.zy_table.specs.declared.deeds.Got.{Got}
use Rattle.zy_table.specs.Deeds.{Going, act}
use Rattle.zy_table.specs.Adopting.{checkpoints_between, common_with, gots_of, taken_over}
use Rattle.zy_table.specs.Beginning.{active_by, begin_view, with_history}
use Rattle.zy_table.specs.Gathering.{settled_at}
use Rattle.zy_replica_state.proofs.AdoptLemmas.{taken_interval}

module _ {S : Type 0} (R : Rules S) (cert : ViewCert) (chosen : Chosen) (told : Told) (place : Place) (s : State S) where
  abbrev begun_as : Bool → State S
  begun_as b =
      if b then settled_at R told.stable_place.0 told.checks (record s { kept = taken_over (stretch_of told) place.0 s.kept }) else record s { kept = taken_over (stretch_of told) place.0 s.kept }

  pub begun_sealer : (active_by cert chosen (with_history R told place s)).sealer ≡ s.sealer
  begun_sealer = by (nat_lt s.board.stable.place.0 told.stable_place.0)
    where
      by : (b : Bool) → (begun_as b).sealer ≡ s.sealer
      by true = refl
      by false = refl

  pub begun_interval : (active_by cert chosen (with_history R told place s)).kept.interval ≡ s.kept.interval
  begun_interval = by (nat_lt s.board.stable.place.0 told.stable_place.0)
    where
      by : (b : Bool) → (begun_as b).kept.interval ≡ s.kept.interval
      by true = taken_interval (stretch_of told) place.0 s.kept
      by false = taken_interval (stretch_of told) place.0 s.kept

-- so there are as many leaves then
pub begun_left : {S : Type 0} (R : Rules S) (cert : ViewCert) (chosen : Chosen) (told : Told) (g : Going S)
    → length (checkpoints_between g.state.kept.interval (begin_view R cert chosen told g).state.board.stable.place.0 chosen.place.0) ≤ signs_left g.state
    → length (checkpoints_between (begin_view R cert chosen told g).state.kept.interval (begin_view R cert chosen told g).state.board.stable.place.0 chosen.place.0) ≤ signs_left (begin_view R cert chosen told g).state
begun_left R cert chosen told g enough = rw (begun_interval R cert chosen told chosen.place g.state, begun_sealer R cert chosen told chosen.place g.state) enough

pub begun_with : {S : Type 0} (R : Rules S) (cert : ViewCert) (chosen : Chosen) (told : Told) (g : Going S) (s : State S) (common : Place) (gots : List Got) → s ≡ active_by cert chosen (with_history R told chosen.place g.state)
    → common.0 ≡ common_with (stretch_of told) chosen.place.0 g.state.kept → gots ≡ gots_of R (stretch_of told) chosen.place.0 g.state.kept
    → act (Adopts cert.new.stmt.view common gots) (record g { state = s }) ≡ begin_view R cert chosen told g
begun_with R cert chosen told g s common gots state same gained =
    rw (state, gained)
    (ap (λ (p : Place). act (Adopts cert.new.stmt.view p (gots_of R (stretch_of told) chosen.place.0 g.state.kept)) (record g { state = active_by cert chosen (with_history R told chosen.place g.state) }))
    (ap (λ (n : ℕ). record { 0 = n }) same))
