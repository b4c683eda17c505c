use Rattle.std.proofs.Common.{◌≡◌, ◌≤◌, ◌++◌, sym, ◌∙◌}
use Rattle.zy_admit.proofs.FilledLemmas.{filled_on}
use Rattle.zy_admit.proofs.admission.Admission.orders_from.Goals as goal

pub loop-at-preserved : goal.loop-at-preserved
loop-at-preserved c =
    rw (c.in_ok-push_copy.ensures, c.slot.ensures, c.loop-at.invariant) (sym (filled_on c.args.self.now.slots _ c.loop-at.at c.loop-at.auto.at))
