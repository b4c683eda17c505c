use Rattle.zy_law.proofs.EntriesAskedFor.{all_asked_for}
use Rattle.zy_law.proofs.results.histories.Goals as goal

pub returns : goal.returns
returns c = λ w t lawful. all_asked_for w lawful t
