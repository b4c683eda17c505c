use Rattle.zy_law_views.proofs.Installing.{reading_of}
use Rattle.zy_law_steps.proofs.WholeSteps.{whole_lawful}
use Rattle.zy_law_steps.proofs.SpelledWholeSteps.{whole_done}
use Rattle.zy_law_steps.proofs.steps.spelled_steps.Goals as goal

pub returns : goal.returns
returns g c =
    let M = g.M.Machine in
    let reading = reading_of M.IsState M.rules c.showing.ensures.spelled c.installing.ensures.shown c.installing.ensures.stands in
    record {
      says = λ interval r texts w s history event ready kept work honest gains is.
          (whole_done M.rules interval texts w r s history ready kept work is reading event honest
          (whole_lawful M.rules interval texts w r s history ready kept work reading event honest gains).tied.grounded.end).acts;
      keeps = λ interval r texts w s history event ready kept work honest gains is.
          (whole_done M.rules interval texts w r s history ready kept work is reading event honest
          (whole_lawful M.rules interval texts w r s history ready kept work reading event honest gains).tied.grounded.end).spelled;
    }
