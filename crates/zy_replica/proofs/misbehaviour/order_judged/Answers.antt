use Rattle.std.proofs.Common.{◌≡◌, IfOk, subst}
use Rattle.zy_table.specs.Deeds.{Outcome}
use Rattle.zy_replica.proofs.BlameLemmas.{judged_other}
use Rattle.zy_replica.proofs.misbehaviour.order_judged.Goals as goal

pub returns-in_default : goal.returns-in_default
returns-in_default g c =
    let R = g.M.Machine.rules in
    let s = c.args.core in
    subst (λ (o : Outcome g.row.M-State.Denot). IfOk c.order_as.result (λ (m : Outcome g.row.M-State.Denot). m ≡ o))
    (judged_other R s c.args.frame c.args.admit c.in_default.not-Evidence)
    c.order_as.ensures
