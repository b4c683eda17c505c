use Rattle.std.proofs.Common.{◌<◌, length, sym, ap, arith}
use Rattle.zy_world.proofs.Changes.{idle_one, mail_at_index}
use Rattle.zy_world.proofs.marks.pass.Goals as goal

pub loop-bag-preserved : goal.loop-bag-preserved
loop-bag-preserved g c =
    let held = c.loop-bag.invariant in
    let all = c.loop-bag.bag-inside.mails in
    let passed = c.loop-bag.bag-inside.passed in
    let below : passed.idle < length all.items = omega (arith, c.loop-bag-test.true, c.len.ensures, all.ok.0) in
    let there = mail_at_index c.args.bag.now.mails all.items passed.idle c.index.result.now held.0 below c.index.ensures in (
      held.0,
      omega (arith, below, ap length held.0),
      held.2,
      λ past. idle_one c.args.seats.now c.args.muted.now c.args.bag.now.mails passed.past passed.idle c.index.result.now there (sym c.if-not-is_left.ensures) (held.3 past),
    )
