use Rattle.zy_law_views.proofs.BeginningRows.{fetch_lawful}
use Rattle.zy_law_views.proofs.heard.fetched_states.Goals as goal

pub returns : goal.returns
returns g c = λ interval r texts w s history vote ready kept. fetch_lawful g.M.Machine.rules interval texts w r s history ready kept vote
