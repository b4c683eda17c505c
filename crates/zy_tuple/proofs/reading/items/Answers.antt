use Rattle.std.proofs.Common.{◌∙◌, sym, ap, cond, Ok, Err}
use Rattle.std.proofs.lemmas.Result.{err_from_is_err_and}
use Rattle.zy_tuple.specs.Reading.{fields_at}
use Rattle.zy_tuple.proofs.Fields.{goes_on, closed, item_fails, end_fails, no_room}
use Rattle.zy_tuple.proofs.reading.items.Goals as goal

pub returns-in_err-item : goal.returns-in_err-item
returns-in_err-item g c =
    let p = err_from_is_err_and c.from_residual-in_err-item.result c.from_residual-in_err-item.ensures.1 in
    rw (p.1, p.2) (item_fails g.T.Item.item_at c.in_err-item.field-0.0 c.loop-place.items.items 8 c.loop-place.place c.loop-place.rest.now (fields_at g.T.Item.item_at 8 c.args.line.now) c.loop-place-test.true c.in_err-item.ensures c.loop-place.invariant)

pub returns-in_err-ends : goal.returns-in_err-ends
returns-in_err-ends g c =
    let p = err_from_is_err_and c.from_residual-in_err-ends.result c.from_residual-in_err-ends.ensures.1 in
    rw (p.1, p.2) (end_fails g.T.Item.item_at c.in_err-ends.field-0.0 c.loop-place.items.items 8 c.loop-place.place c.loop-place.rest.now c.in_ok-item.item c.in_ok-item.after.now (fields_at g.T.Item.item_at 8 c.args.line.now) c.loop-place-test.true c.in_ok-item.ensures c.in_err-ends.ensures c.loop-place.invariant)

pub returns-then-ends : goal.returns-then-ends
returns-then-ends g c =
    closed g.T.Item.item_at c.loop-place.items.items 8 c.loop-place.place c.loop-place.rest.now c.in_ok-item.item c.in_ok-item.after.now c.in_ok-ends.after.now (fields_at g.T.Item.item_at 8 c.args.line.now) c.loop-place-test.true c.in_ok-item.ensures (c.in_ok-ends.ensures ∙ ap (λ b. Ok (b, c.in_ok-ends.after.now)) c.if-ends.true) c.loop-place.invariant
    ∙ ap (λ xs. Ok (xs, c.in_ok-ends.after.now)) (sym (c.shrink_to_fit.ensures.items ∙ c.in_ok-push.ensures.items))

pub loop-place-preserved : goal.loop-place-preserved
loop-place-preserved g c =
    rw c.in_ok-push.ensures.items (goes_on g.T.Item.item_at c.loop-place.items.items 8 c.loop-place.place c.loop-place.rest.now c.in_ok-item.item c.in_ok-item.after.now c.in_ok-ends.after.now (fields_at g.T.Item.item_at 8 c.args.line.now) c.loop-place-test.true c.in_ok-item.ensures (c.in_ok-ends.ensures ∙ ap (λ b. Ok (b, c.in_ok-ends.after.now)) c.if-ends.false) c.loop-place.invariant)

pub returns-then-begins : goal.returns-then-begins
returns-then-begins g c =
    no_room g.T.Item.item_at c.loop-place.items.items 8 c.loop-place.place c.loop-place.rest.now (fields_at g.T.Item.item_at 8 c.args.line.now) c.loop-place-test.false c.loop-place.invariant ∙ ap (λ b. cond b (Err 3) (Err 2)) (sym c.if-begins.ensures)

pub returns : goal.returns
returns g c =
    no_room g.T.Item.item_at c.loop-place.items.items 8 c.loop-place.place c.loop-place.rest.now (fields_at g.T.Item.item_at 8 c.args.line.now) c.loop-place-test.false c.loop-place.invariant ∙ ap (λ b. cond b (Err 3) (Err 2)) (sym c.if-begins.ensures)
