use Rattle.std.proofs.Common.{◌-◌, ◌<◌, ◌∙◌}
use Rattle.zy_exec.specs.Trail.{base_of}
use Rattle.zy_exec.proofs.ReplayLemmas.{reply_is, reply_above}
use Rattle.zy_exec.proofs.track.Track.reply_at.Goals as goal

pub returns-clause-reply : goal.returns-clause-reply
returns-clause-reply g c =
    let x = c.self.inside in
    let M = g.M.Machine in
    let base = base_of x.spine (M.trail x.machine) (M.state x.machine) x.base_known.items in
    let index = c.args.place.0 - x.spine.base.place - 1 in
    let above : x.spine.base.place < c.args.place.0 = rw c.base.ensures at c.if-place-base.false in
    rw c.reply_done.ensures.reply
    (rw (c.index_above.ensures, c.base-2.ensures, ← c.self.view_is)
    (reply_is M.rules base x.spine.entries (M.state x.machine) (M.trail x.machine) x.done.items x.last.items index c.self.invariant
    ∙ reply_above M.rules (record { interval = x.interval; base = base; entries = x.spine.entries }) c.args.place.0 above))
