use Rattle.std.proofs.Common.{◌≡◌, ◌<◌, Bool, length, ap, ◌∙◌, subst, arith}
use Rattle.zy_world.specs.Gathering.{GoesIn}
use Rattle.zy_world.specs.Shown.{Shown}
use Rattle.zy_world.specs.declared.world.World.TheInside.{Inside}
use Rattle.zy_world.proofs.Gathered.{gathered_so_many, gathered_to_end, gathered_to_second, gathers_on}
use Rattle.zy_world.proofs.world.World.gather.Goals as goal

pub loop-at-preserved : goal.loop-at-preserved
loop-at-preserved g c =
    let v = c.args.self.now in
    let loop = c.loop-at in
    let room : length loop.batch.dues.items < c.args.most = omega (arith, c.if-len-most.true, c.len-in-loop-at.ensures, loop.batch.dues.ok.0) in
    let goes = subst (λ (b : Bool). GoesIn v loop.at loop.batch c.goes_in.new.batch b) c.if-not-branch.false c.in_ok-goes_in.ensures in
    let on = gathers_on v c.args.most v.bag.passed.idle loop.at c.args.batch.now loop.batch c.goes_in.new.batch loop.invariant.on loop.invariant.few room goes in
    record { on = on.0; few = on.1 }

pub returns-then-not-branch-clause-gathered : goal.returns-then-not-branch-clause-gathered
returns-then-not-branch-clause-gathered g c =
    let v = c.args.self.now in
    let loop = c.loop-at in
    gathered_to_second v c.args.most loop.at c.args.batch.now loop.batch loop.invariant.on loop.invariant.few c.goes_in.new.batch
    (subst (λ (b : Bool). GoesIn v loop.at loop.batch c.goes_in.new.batch b) c.if-not-branch.true c.in_ok-goes_in.ensures)

pub returns-else-len-most-clause-gathered : goal.returns-else-len-most-clause-gathered
returns-else-len-most-clause-gathered g c =
    let loop = c.loop-at in
    gathered_so_many c.args.self.now c.args.most loop.at c.args.batch.now loop.batch loop.invariant.on loop.invariant.few (omega (arith, c.if-len-most.false, c.len-in-loop-at.ensures, loop.batch.dues.ok.0))

pub returns-after-loop-at-clause-gathered : goal.returns-after-loop-at-clause-gathered
returns-after-loop-at-clause-gathered g c =
    let loop = c.loop-at in
    let mails = c.self-inside.inside.0.1.1.1.1.1.0.mails in
    let same : length mails.items ≡ length c.args.self.now.bag.mails =
    ap (λ (v : Inside g.row.M.Denot g.row.M-State.Denot). length v.bag.mails) c.self-inside.view_is ∙ ap (λ (s : Shown g.row.M-State.Denot). length s.bag.mails) c.self.view_is in
    gathered_to_end c.args.self.now c.args.most loop.at c.args.batch.now loop.batch loop.invariant.on loop.invariant.few (omega (arith, c.loop-at-test.false, c.len.ensures, mails.ok.0, same))
