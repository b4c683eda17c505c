use Rattle.zy_cert.proofs.ConflictLemmas.{conflict-told}
use Rattle.zy_cert.proofs.laws.conflicts.Goals as goal

pub returns : goal.returns
returns c = conflict-told
