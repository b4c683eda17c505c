use Rattle.std.proofs.lemmas.Result.{err_from_is_err_and}
use Rattle.zy_wire.specs.Spelling.{repeated_at}
use Rattle.zy_tuple.specs.Bytes.{item}
use Rattle.zy_tuple.proofs.Items.{goes_on, item_fails, is_done}
use Rattle.zy_tuple.proofs.spelling.some.Goals as goal

pub returns-in_err-get : goal.returns-in_err-get
returns-in_err-get g c =
    let p = err_from_is_err_and c.from_residual-in_err-get.result c.from_residual-in_err-get.ensures.1 in
    rw (p.1, p.2) (item_fails (item g.T.Item.item_bytes g.T.Item.item_at g.T.Item.IsItem) c.in_err-get.field-0.0 c.loop-place.items.items c.args.count c.loop-place.place c.loop-place.cut (repeated_at (item g.T.Item.item_bytes g.T.Item.item_at g.T.Item.IsItem) c.args.count c.args.cut.now) c.loop-place-test.true c.in_err-get.ensures c.loop-place.invariant)

pub loop-place-preserved : goal.loop-place-preserved
loop-place-preserved g c = rw c.in_ok-push.ensures.items (goes_on (item g.T.Item.item_bytes g.T.Item.item_at g.T.Item.IsItem) c.loop-place.items.items c.args.count c.loop-place.place c.loop-place.cut c.in_ok-get.field-0 c.get.new.cut (repeated_at (item g.T.Item.item_bytes g.T.Item.item_at g.T.Item.IsItem) c.args.count c.args.cut.now) c.loop-place-test.true c.in_ok-get.ensures c.loop-place.invariant)

pub returns : goal.returns
returns g c = is_done (item g.T.Item.item_bytes g.T.Item.item_at g.T.Item.IsItem) c.loop-place.items.items c.args.count c.loop-place.place c.loop-place.cut (repeated_at (item g.T.Item.item_bytes g.T.Item.item_at g.T.Item.IsItem) c.args.count c.args.cut.now) c.loop-place-test.false c.loop-place.invariant
