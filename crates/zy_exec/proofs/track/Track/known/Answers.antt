use Rattle.zy_exec.specs.Trail.{base_of}
use Rattle.zy_exec.proofs.ReplayLemmas.{known_is}
use Rattle.zy_exec.proofs.track.Track.known.Goals as goal

pub returns-clause-known : goal.returns-clause-known
returns-clause-known g c =
    let x = c.self.inside in
    let M = g.M.Machine in
    rw c.known_at.ensures.known
    (rw (c.base.ensures, c.deref.ensures.value, c.deref-2.ensures.value, ← c.self.view_is)
    (known_is M.rules (base_of x.spine (M.trail x.machine) (M.state x.machine) x.base_known.items) x.spine.entries (M.state x.machine) (M.trail x.machine) x.done.items x.last.items c.args.client.0 c.self.invariant))
