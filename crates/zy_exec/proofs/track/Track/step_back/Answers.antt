use Rattle.std.proofs.Common.{◌<◌, length, ◌∙◌, ap, arith}
use Rattle.zy_exec.specs.Trail.{base_of}
use Rattle.zy_exec.proofs.ReplayLemmas.{length-done, length-states, length-last, replayed_cut}
use Rattle.zy_exec.proofs.track.Track.step_back.Goals as goal

pub pop_done-requires-clause-some : goal.pop_done-requires-clause-some
pop_done-requires-clause-some g c =
    let x = c.self.inside in
    let M = g.M.Machine in
    let some : 0 < length x.spine.entries = rw (← c.self.view_is) at c.requires in
    let as_many = ap length c.self.invariant.done_is ∙ length-done M.rules (base_of x.spine (M.trail x.machine) (M.state x.machine) x.base_known.items) c.self.invariant.before x.spine.entries in
    omega (arith, some, as_many)

pub pop_done-requires-clause-all : goal.pop_done-requires-clause-all
pop_done-requires-clause-all g c =
    ap length c.self.invariant.last_is ∙ length-last c.self.inside.spine.base.place c.self.invariant.before c.self.inside.spine.entries ∙ c.self.invariant.is_before.all_clients

pub undo-requires : goal.undo-requires
undo-requires g c =
    let x = c.self.inside in
    let M = g.M.Machine in
    let some : 0 < length x.spine.entries = rw (← c.self.view_is) at c.requires in
    let as_many = ap length c.self.invariant.trail_is ∙ length-states M.rules (base_of x.spine (M.trail x.machine) (M.state x.machine) x.base_known.items) x.spine.entries in
    omega (arith, some, as_many)

pub invariant_of-self : goal.invariant_of-self
invariant_of-self g c =
    let x = c.self.inside in
    let M = g.M.Machine in
    let some : 0 < length x.spine.entries = rw (← c.self.view_is) at c.requires in
    replayed_cut M.rules x.spine c.cut_above.new.self x.base_known.items (M.state x.machine) (M.state c.undo.new.self) (M.trail x.machine) (M.trail c.undo.new.self)
    x.done.items c.pop_done.new.done.items x.last.items c.pop_done.new.last.items c.self.invariant some c.undo.ensures.back c.pop_done.ensures (rw c.end.ensures.place at c.cut_above.ensures)
