use Rattle.std.proofs.Common.{◌≡◌, ◌<◌, length, ◌∷◌, [], Ok, None, sym, ap, ◌∙◌, arith, length-append}
use Rattle.std.proofs.lemmas.Result.{err_from_is_err_and}
use Rattle.zy_schedule.specs.Reading.{ended_at}
use Rattle.zy_schedule.proofs.ListLemmas.{is_ended, no_room, one_fails, one_more}
use Rattle.zy_schedule.proofs.PartLaws.{value_shorter}
use Rattle.zy_schedule.proofs.list.list.Goals as goal

pub returns-in-Some : goal.returns-in-Some
returns-in-Some g c =
    is_ended g.T.Part.part_read c.args.end c.args.limit c.args.line.now c.items.items.items c.items.rest.now c.in-Some.left.now (sym c.in-Some.ensures) c.items.invariant.so_far
    ∙ ap (λ xs. Ok (xs, c.in-Some.left.now)) (sym c.from.ensures)

pub returns-in_err-item : goal.returns-in_err-item
returns-in_err-item g c =
    let p = err_from_is_err_and c.from_residual-in_err-item.result c.from_residual-in_err-item.ensures.1 in
    let none : ended_at c.args.end c.items.rest.now ≡ None = sym c.in_default.ensures in
    rw (p.1, p.2) (one_fails g.T.Part.part_read c.args.end c.args.limit c.args.line.now c.items.items.items c.items.rest.now c.in_err-item.field-0.0 none c.in_err-item.ensures c.items.invariant.so_far)

pub returns-then-len-limit : goal.returns-then-len-limit
returns-then-len-limit g c =
    let none : ended_at c.args.end c.items.rest.now ≡ None = sym c.in_default.ensures in
    no_room g.T.Part.part_read c.args.end c.args.limit c.args.line.now c.items.items.items c.items.rest.now c.in_ok-item.item c.in_ok-item.left.now none c.in_ok-item.ensures (omega (arith, c.len.ensures, c.items.items.ok)) c.items.invariant.so_far

pub items-smaller : goal.items-smaller
items-smaller g c = value_shorter g.T.Part.part_read c.items.rest.now c.in_ok-item.item c.in_ok-item.left.now c.in_ok-item.ensures

pub items-preserved : goal.items-preserved
items-preserved g c =
    let none : ended_at c.args.end c.items.rest.now ≡ None = sym c.in_default.ensures in
    let room : length c.items.items.items < c.args.limit = omega (arith, c.len.ensures, c.items.items.ok, c.items.invariant.few, c.if-len-limit.false) in
    record {
      so_far = rw c.in_ok-push-2.ensures.items (one_more g.T.Part.part_read c.args.end c.args.limit c.args.line.now c.items.items.items c.items.rest.now c.in_ok-item.item c.in_ok-item.left.now none c.in_ok-item.ensures room c.items.invariant.so_far);
      few = rw c.in_ok-push-2.ensures.items (omega (arith, length-append c.items.items.items (c.in_ok-item.item ∷ []), room));
    }
