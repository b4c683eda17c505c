use Rattle.std.proofs.Common.{arith}
use Rattle.zy_choose.specs.Marks.{link, mark_of}
use Rattle.zy_choose.proofs.ChoiceLemmas.{agreed_has}
use Rattle.zy_choose.proofs.choice.agreed_at.Goals as goal

pub returns-clause-none : goal.returns-clause-none
returns-clause-none c = λ m here agreed.
    let (k, r, within, is, told) = agreed_has link c.args.agree c.args.view.0 c.args.reports.now (mark_of c.args.anchor.now) m c.requires.some agreed in
    c.loop-report.invariant k r m (omega (arith, within))
    (rw is told.0)
    here (rw is told.2) agreed
