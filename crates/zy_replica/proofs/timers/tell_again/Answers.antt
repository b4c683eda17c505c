use Rattle.std.proofs.Common.{◌≡◌, IfOk, ◌∙◌, Option, ap, subst}
use Rattle.zy_parts.specs.declared.signed.Signed.{Signed}
use Rattle.zy_parts.specs.declared.reports.Change.{Change}
use Rattle.zy_table.specs.Deeds.{Going, begin}
use Rattle.zy_table.specs.Hates.{change_again}
use Rattle.zy_replica.proofs.timers.tell_again.Goals as goal

pub returns : goal.returns
returns g c =
    let told = ap (change_again c.in_ok-change.change) c.begin.ensures ∙ ap (λ (x : Option (Signed Change)). change_again x (begin c.args.core)) c.in_ok-change.ensures.change in
    subst (λ (x : Going g.row.M-State.Denot). IfOk c.change_again.result (λ (m : Going g.row.M-State.Denot). m ≡ x)) told c.change_again.ensures
