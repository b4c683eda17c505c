use Rattle.std.proofs.Common.{◌≡◌, IfOk, sym, ◌∙◌, subst}
use Rattle.zy_admit.specs.Orders.{stored_in}
use Rattle.zy_table.specs.Deeds.{Outcome}
use Rattle.zy_table.specs.Beginning.{finished}
use Rattle.zy_table.specs.Leaving.{Attempt}
use Rattle.zy_replica.proofs.BlameLemmas.{told_none, told_both}
use Rattle.zy_replica.proofs.misbehaviour.tell_all.Goals as goal

pub returns-in-Some : goal.returns-in-Some
returns-in-Some g c =
    let s = c.args.core in
    let frame = stored_in s.orders c.args.order.stmt.place.0 in
    subst (λ (x : Attempt g.row.M-State.Denot). IfOk c.blame.result (λ (m : Outcome g.row.M-State.Denot). m ≡ finished g.M.Machine.rules s x))
    (sym (told_both g.M.Machine.rules s c.args.order c.in-Some.kept frame (sym c.in_ok-kept.ensures.order ∙ c.in-Some.is)))
    c.blame.ensures

pub returns-in-None : goal.returns-in-None
returns-in-None g c =
    let s = c.args.core in
    let frame = stored_in s.orders c.args.order.stmt.place.0 in
    subst (λ (x : Attempt g.row.M-State.Denot). IfOk c.not_heard.result (λ (m : Outcome g.row.M-State.Denot). m ≡ finished g.M.Machine.rules s x))
    (sym (told_none g.M.Machine.rules s c.args.order frame (sym c.in_ok-kept.ensures.order ∙ c.in-None.is)))
    c.not_heard.ensures
