use Rattle.zy_journal.proofs.Lists.{one_list}
use Rattle.zy_journal.proofs.journal.one_list.Goals as goal

pub returns : goal.returns
returns c = one_list
