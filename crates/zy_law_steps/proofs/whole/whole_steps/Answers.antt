use Rattle.zy_law_views.proofs.Installing.{reading_of}
use Rattle.zy_law_steps.proofs.WholeSteps.{ready_after, whole_lawful}
use Rattle.zy_law_steps.proofs.whole.whole_steps.Goals as goal

pub returns : goal.returns
returns g c =
    let M = g.M.Machine in
    let reading = reading_of M.IsState M.rules c.showing.ensures.spelled c.installing.ensures.shown c.installing.ensures.stands in
    record {
      lawful = λ interval r texts w s history event ready kept work honest gains. whole_lawful M.rules interval texts w r s history ready kept work reading event honest gains;
      ready = λ interval r texts w s before history outcome ready is. ready_after M.rules interval texts w r s before history outcome ready is;
    }
