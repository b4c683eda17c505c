use Rattle.zy_replica_adopt.proofs.TakenLemmas.{taken_end, taken_own, taken_told, taken_same, nothing_gained}
use Rattle.zy_replica_adopt.proofs.laws.adoptions.Goals as goal

pub returns : goal.returns
returns g c = record {
  end = λ told place k meets within. taken_end told place k meets within;
  own = λ told place at k meets below. taken_own told place k meets at below;
  told = λ told place at k meets within above below. taken_told told place k meets at within above below;
  same = λ told k shared. taken_same told k shared;
  nothing = λ told k shared. nothing_gained told k shared g.M.Machine.rules;
}
