use Rattle.std.proofs.Common.{◌<◌, List, length, sym, ap, subst, arith}
use Rattle.zy_world.specs.Passed.{ArePast}
use Rattle.zy_world_law.specs.World.{Mail}
use Rattle.zy_world.proofs.Changes.{mail_at_index, past_one}
use Rattle.zy_world.proofs.marks.pass_past.Goals as goal

pub loop-bag-preserved : goal.loop-bag-preserved
loop-bag-preserved g c =
    let held = c.loop-bag.invariant in
    let all = c.loop-bag.bag-inside.mails in
    let passed = c.loop-bag.bag-inside.passed in
    let below : passed.past < length all.items = omega (arith, c.loop-bag-test.true, c.len.ensures, all.ok.0) in
    let there = mail_at_index c.args.bag.now.mails all.items passed.past c.index.result.now held.0 below c.index.ensures in (
      held.0,
      omega (arith, below, ap length held.0),
      held.2,
      λ mutes past. past_one c.args.seats.now mutes c.args.bag.now.mails passed.past passed.idle c.index.result.now there (sym c.if-is_past.ensures) (held.3 mutes past),
    )

pub returns-else-is_past-clause-past : goal.returns-else-is_past-clause-past
returns-else-is_past-clause-past g c mutes past =
    let held = c.loop-bag.invariant in
    subst (λ (mails : List Mail). ArePast c.args.seats.now mutes (record { mails = mails; passed = c.loop-bag.bag-inside.passed })) (sym held.0) (held.3 mutes past)

pub returns-after-loop-bag-clause-past : goal.returns-after-loop-bag-clause-past
returns-after-loop-bag-clause-past g c mutes past =
    let held = c.loop-bag.invariant in
    subst (λ (mails : List Mail). ArePast c.args.seats.now mutes (record { mails = mails; passed = c.loop-bag.bag-inside.passed })) (sym held.0) (held.3 mutes past)
