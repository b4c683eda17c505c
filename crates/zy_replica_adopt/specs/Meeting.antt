-- Where a report and the own history meet.
use Rattle.std.specs.Prelude.{ℕ, ◌≤◌}
use Rattle.zy_chain.specs.Stretch.{Stretch, IsShared}
use Rattle.zy_exec.specs.Kept.{Kept, stretch_of, last_place}
use Rattle.zy_table.specs.Adopting.{common_with}

-- The greatest common place up to a place is at or above both bases, and both have one head there.
pub record Meets {S : Type 0} (told : Stretch) (place : ℕ) (k : Kept S) : Type 0 where
  pub own_base : k.base.place ≤ common_with told place k
  pub told_base : told.base.place ≤ common_with told place k
  pub own_end : common_with told place k ≤ last_place k
  pub up_to : common_with told place k ≤ place
  pub shared : IsShared told (stretch_of k) (common_with told place k)
