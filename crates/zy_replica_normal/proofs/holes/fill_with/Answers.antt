use Rattle.std.proofs.Common.{◌≡◌, ◌<◌, IfOk, length, sym, ◌∙◌, subst, arith}
use Rattle.zy_table.specs.Deeds.{Outcome}
use Rattle.zy_replica_normal.proofs.FillLemmas.{none_at, some_at, fill_none, fill_some}
use Rattle.zy_replica_normal.proofs.MovedLemmas.{none_left}
use Rattle.zy_replica_normal.proofs.holes.fill_with.Goals as goal

pub returns-then-is_empty : goal.returns-then-is_empty
returns-then-is_empty g c =
    let none : length c.args.orders.items ≡ 0 = omega (arith, c.args.orders.ok.0, none_at _ c.if-is_empty.ensures) in
    c.nothing_kept.ensures ∙ sym (fill_none c.args.core c.args.hole c.args.orders.items (none_left c.args.orders.items none))

pub returns : goal.returns
returns g c =
    let some : 0 < length c.args.orders.items = omega (arith, c.args.orders.ok.0, some_at _ c.if-is_empty.ensures) in
    subst (λ (o : Outcome g.row.M-State.Denot). IfOk c.send_orders.result (λ (m : Outcome g.row.M-State.Denot). m ≡ o))
    (sym (fill_some c.args.core c.args.hole c.args.orders.items some)) c.send_orders.ensures
