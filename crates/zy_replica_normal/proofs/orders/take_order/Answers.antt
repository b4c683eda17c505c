use Rattle.std.proofs.Common.{◌≡◌, IfOk, None, sym, ◌∙◌, ap, subst}
use Rattle.zy_base.specs.declared.step.Answer.TheVariants.{Taken}
use Rattle.zy_admit.specs.Orders.{with_order}
use Rattle.zy_table.specs.Deeds.{Outcome, ends, begin, refused}
use Rattle.zy_table.specs.State.{State}
use Rattle.zy_table.specs.Running.{run}
use Rattle.zy_base.specs.declared.cause.Cause.TheVariants as causes
use Rattle.zy_replica_normal.proofs.RunLemmas.{order_fits, order_spent}
use Rattle.zy_replica_normal.proofs.orders.take_order.Goals as goal

pub returns-in-Ok-default-true : goal.returns-in-Ok-default-true
returns-in-Ok-default-true g c =
    let R = g.M.Machine.rules in
    let ran = c.in-Ok-default-true in
    subst (λ (o : Outcome g.row.M-State.Denot). IfOk c.accept_and_run-ran.result (λ (m : Outcome g.row.M-State.Denot). m ≡ o))
    (ap (λ (s : State g.row.M-State.Denot). ends Taken (run R c.args.frame (begin (record s { orders = with_order s.orders c.args.frame; hole = None })))) ran.ensures.core
    ∙ sym (order_fits R c.args.core c.args.frame (sym ran.ensures.fits ∙ ran.field-0-1-test)))
    c.accept_and_run-ran.ensures

pub returns-in-Ok-default-false : goal.returns-in-Ok-default-false
returns-in-Ok-default-false g c =
    let R = g.M.Machine.rules in
    let left = c.in-Ok-default-false in
    subst (λ (o : Outcome g.row.M-State.Denot). IfOk c.not_heard.result (λ (m : Outcome g.row.M-State.Denot). m ≡ o))
    (ap (refused causes.KeySpent) left.ensures.core
    ∙ sym (order_spent R c.args.core c.args.frame (sym left.ensures.fits ∙ left.field-0-1-test)))
    c.not_heard.ensures
