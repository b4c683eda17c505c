-- The run of the small schedule.
use Rattle.std.proofs.Common.{◌≡◌, ℕ, List, [], refl, sym, subst}
use Rattle.zy_base.specs.Machine.{Rules}
use Rattle.zy_table.specs.Whole.{whole_step}
use Rattle.zy_wire.specs.Framing.{framed_in}
use Rattle.zy_world_law.specs.Events.{happens}
use Rattle.zy_world_law.specs.Example.{small_schedule, small_notes}
use Rattle.zy_world_law.specs.Runs.{run, flow}
use Rattle.zy_world_law.specs.Setup.{Setup}
use Rattle.zy_world_law.specs.World.{World, seats, start, starting_replica}

module _ {S : Type 0} (R : Rules S) (setup : Setup) where
  -- the start with seats for so many replicas, of which these lie
  abbrev seated : ℕ → List ℕ → World S
  seated n liars = record (start R setup) { replicas = seats n liars (starting_replica R setup) }

  abbrev Told : World S → Type 0
  Told w = (run R small_schedule w).notes ≡ small_notes

  four_told : Told (seated 4 [])
  unfolding run flow happens seats framed_in whole_step
  four_told = refl

pub small_run : {S : Type 0} (R : Rules S) (setup : Setup) → setup.counts.n ≡ 4 → setup.liars ≡ [] → (run R small_schedule (start R setup)).notes ≡ small_notes
small_run R setup four none =
    subst (λ (n : ℕ). Told R setup (seated R setup n setup.liars)) (sym four) (subst (λ (l : List ℕ). Told R setup (seated R setup 4 l)) (sym none) (four_told R setup))
