use Rattle.std.proofs.Common.{◌≡◌, IfOk, List, subst}
use Rattle.zy_frames.specs.declared.frame.OrderFrame.{OrderFrame}
use Rattle.zy_table.specs.Deeds.{Outcome}
use Rattle.zy_table.specs.Holes.{fill_with, fill_hole}
use Rattle.zy_replica_normal.proofs.holes.fill_hole.Goals as goal

pub returns : goal.returns
unfolding fill_hole
returns g c =
    subst (λ (orders : List OrderFrame). IfOk c.fill_with.result (λ (m : Outcome g.row.M-State.Denot). m ≡ fill_with c.args.core c.args.hole orders))
    c.in_ok-orders.ensures.orders c.fill_with.ensures
