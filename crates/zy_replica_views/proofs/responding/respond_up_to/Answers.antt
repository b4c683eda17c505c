use Rattle.std.proofs.Common.{◌≡◌, ℕ, suc, ◌+◌, ◌-◌, ap, ◌∙◌, arith}
use Rattle.zy_check.specs.Board.{Board}
use Rattle.zy_table.specs.Deeds.{Going}
use Rattle.zy_replica_views.proofs.RespondLemmas.{left_at, left_all, left_next, left_none}
use Rattle.zy_replica_views.proofs.responding.respond_up_to.Goals as goal

pub loop-at-init : goal.loop-at-init
loop-at-init g c =
    let low = c.stable_check.result.now.place.0 in
    let interval = c.interval-interval.ensures ∙ ap (λ k. k.interval) c.exec.ensures ∙ ap (λ (x : Going g.row.M-State.Denot). x.state.kept.interval) c.progress.view_is in
    let stable = ap (λ x. x.place.0) c.stable_check.ensures ∙ ap (λ (b : Board). b.stable.place.0) c.board.ensures.board ∙ ap (λ (x : Going g.row.M-State.Denot). x.state.board.stable.place.0) c.progress.view_is in
    left_all g.M.Machine.rules c.interval-interval.result low c.args.place.0 (c.args.place.0 + 1 - (low + 1)) c.args.progress interval stable (omega arith) c.requires.active c.requires.left

pub respond_if-requires-clause-left : goal.respond_if-requires-clause-left
respond_if-requires-clause-left g c =
    let count : ℕ = c.args.place.0 + 1 - c.loop-at.at in
    let below = c.loop-at-test.true in
    let one : count ≡ suc (count - 1) = omega arith in
    left_at g.M.Machine.rules c.interval-interval.result c.loop-at.at count (count - 1) c.loop-at.progress _ one c.loop-at.invariant

pub loop-at-preserved : goal.loop-at-preserved
loop-at-preserved g c =
    let count : ℕ = c.args.place.0 + 1 - c.loop-at.at in
    let rest : ℕ = c.args.place.0 + 1 - (c.loop-at.at + 1) in
    let below = c.loop-at-test.true in
    let one : count ≡ suc rest = omega arith in
    left_next g.M.Machine.rules c.interval-interval.result c.loop-at.at count (c.loop-at.at + 1) rest c.loop-at.progress _ c.in_ok-progress.progress one (omega arith) c.loop-at.invariant c.in_ok-progress.ensures

pub returns : goal.returns
returns g c =
    let past = c.loop-at-test.false in
    left_none g.M.Machine.rules c.interval-interval.result c.loop-at.at (c.args.place.0 + 1 - c.loop-at.at) c.loop-at.progress _ (omega arith) c.loop-at.invariant
