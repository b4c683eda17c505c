use Rattle.std.proofs.Common.{◌+◌, ◌≤◌, length, arith}
use Rattle.zy_choose.specs.Marks.{link, mark_of}
use Rattle.zy_choose.proofs.ChoiceLemmas.{agreed_has}
use Rattle.zy_choose.proofs.choice.agreed.Goals as goal

pub loop-below-init : goal.loop-below-init
loop-below-init c = λ other past agreed.
    let (k, r, within, is, told) = agreed_has link c.args.agree c.args.view.0 c.args.reports.now (mark_of c.args.anchor.now) other c.requires agreed in
    let end = rw is at (c.furthest_end-end.ensures k r within) in
    let ends : r.stretch.base.place + length r.stretch.entries ≤ c.furthest_end-end.result.0 = end told.0 in
    let below = told.2.below in
    absurd (omega (arith, ends, below))
