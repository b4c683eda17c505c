use Rattle.zy_law_views.proofs.Installing.{reading_of}
use Rattle.zy_law_steps.proofs.WholeGained.{whole_gained}
use Rattle.zy_law_steps.proofs.whole.gained_entries.Goals as goal

pub returns : goal.returns
returns g c =
    let M = g.M.Machine in
    let reading = reading_of M.IsState M.rules c.showing.ensures.spelled c.installing.ensures.shown c.installing.ensures.stands in
    λ interval r texts w s history event ready kept work honest. whole_gained M.rules interval texts w r s history ready kept work reading event honest
