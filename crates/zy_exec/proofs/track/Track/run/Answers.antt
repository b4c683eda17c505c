use Rattle.std.proofs.Common.{length, ◌∙◌, ap, arith}
use Rattle.zy_exec.specs.Kept.{Kept, now_of}
use Rattle.zy_exec.specs.Replay.{step}
use Rattle.zy_exec.proofs.ReplayLemmas.{length-last, now_next, replayed_push}
use Rattle.zy_exec.proofs.track.Track.run.Goals as goal

pub push_done-requires-clause-client : goal.push_done-requires-clause-client
push_done-requires-clause-client g c =
    let all = ap length c.self.invariant.last_is ∙ length-last c.self.inside.spine.base.place c.self.invariant.before c.self.inside.spine.entries ∙ c.self.invariant.is_before.all_clients in
    omega (arith, all, c.requires.client)

pub invariant_of-self-2 : goal.invariant_of-self-2
invariant_of-self-2 g c =
    let x = c.self.inside in
    let M = g.M.Machine in
    let e = c.args.e in
    replayed_push M.rules x.spine c.push.new.self x.base_known.items (M.state x.machine) (M.state c.apply.new.machine) (M.trail x.machine) (M.trail c.apply.new.machine)
    x.done.items c.push_done.new.done.items x.last.items c.push_done.new.last.items e c.end.result c.head.result c.in-Ok.replies.0
    c.self.invariant c.requires.client c.in_default-push.ensures.ok (rw c.as_slice.ensures.value at c.in-Ok.ensures.state) c.in-Ok.ensures.trail
    c.requires.entry.stamp c.in-Ok.ensures.short_kept (rw (← c.self.view_is) at c.requires.room)
    c.end.ensures.place c.head.ensures (rw c.as_slice.ensures.value at c.in-Ok.ensures.kept) (rw c.in_default.ensures.items at c.push_done.ensures.done) c.push_done.ensures.last

pub returns-clause-now : goal.returns-clause-now
returns-clause-now g c =
    let x = c.self.inside in
    let M = g.M.Machine in
    now_next M.rules x.spine c.push.new.self x.base_known.items (M.state x.machine) (M.state c.apply.new.machine) (M.trail x.machine) (M.trail c.apply.new.machine) c.args.e
    c.in_default-push.ensures.ok c.in-Ok.ensures.trail
    ∙ ap (λ (k : Kept _). step M.rules (now_of M.rules k) c.args.e) c.self.view_is
