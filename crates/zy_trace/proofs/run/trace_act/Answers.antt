use Rattle.std.proofs.Common.{true, false, refl}
use Rattle.zy_trace.proofs.Steps.{come_to}
use Rattle.zy_trace.proofs.run.trace_act.Goals as goal
use Rattle.zy_world_law.specs.World.{drop_frame, set_muted}

pub returns-in-Event-clause-traced : goal.returns-in-Event-clause-traced
returns-in-Event-clause-traced g c whole shows = rw c.in-Event.is (c.trace_event.ensures.traced whole shows)

pub returns-in-Flow-clause-traced : goal.returns-in-Flow-clause-traced
returns-in-Flow-clause-traced g c whole shows = rw c.in-Flow.is (c.trace_flow.ensures.traced whole shows)

pub returns-in-Drop-clause-traced : goal.returns-in-Drop-clause-traced
returns-in-Drop-clause-traced g c whole shows = rw c.in-Drop.is (come_to _ (drop_frame whole c.in-Drop.frame) _ _ refl (c.drop_frame.ensures whole shows))

pub returns-in-Mute-clause-traced : goal.returns-in-Mute-clause-traced
returns-in-Mute-clause-traced g c whole shows = rw c.in-Mute.is (come_to _ (set_muted whole c.in-Mute.party true) _ _ refl (c.mute.ensures whole shows))

pub returns-in-Unmute-clause-traced : goal.returns-in-Unmute-clause-traced
returns-in-Unmute-clause-traced g c whole shows = rw c.in-Unmute.is (come_to _ (set_muted whole c.in-Unmute.party false) _ _ refl (c.unmute.ensures whole shows))
