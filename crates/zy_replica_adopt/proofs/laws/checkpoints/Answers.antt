use Rattle.zy_replica_adopt.proofs.PlaceLemmas.{checkpoints_are, entry_at_checkpoint}
use Rattle.zy_replica_adopt.proofs.laws.checkpoints.Goals as goal

pub returns : goal.returns
returns g c = record { places = checkpoints_are; entries = entry_at_checkpoint }
