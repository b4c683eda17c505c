use Rattle.std.proofs.Common.{true, false, refl}
use Rattle.zy_world_law.specs.Runs.{flow}
use Rattle.zy_world_law.specs.World.{drop_frame, set_muted}
use Rattle.zy_top.specs.Acts.{act_part}
use Rattle.zy_top.specs.Replaying.{event_part}
use Rattle.zy_top.specs.declared.acts.Act.TheVariants as acts
use Rattle.zy_top.proofs.RunParts.{come_to, part_like}
use Rattle.zy_top.proofs.running.run_act.Goals as goal

pub returns-in-Event-clause-run : goal.returns-in-Event-clause-run
returns-in-Event-clause-run g c whole shows =
    rw c.in-Event.is
    (part_like (event_part g.M.Machine.rules c.in-Event.event) (act_part g.M.Machine.rules (acts.Event c.in-Event.event)) whole _ _ _ (λ rest. refl) (c.run_event.ensures.run whole shows))

pub returns-in-Flow-clause-run : goal.returns-in-Flow-clause-run
returns-in-Flow-clause-run g c whole shows =
    rw c.in-Flow.is
    (part_like (flow g.M.Machine.rules c.in-Flow.events) (act_part g.M.Machine.rules (acts.Flow c.in-Flow.events)) whole _ _ _ (λ rest. refl) (c.run_flow.ensures.run whole shows))

pub returns-in-Drop-clause-run : goal.returns-in-Drop-clause-run
returns-in-Drop-clause-run g c whole shows =
    rw c.in-Drop.is (come_to (act_part g.M.Machine.rules (acts.Drop c.in-Drop.frame)) whole (drop_frame whole c.in-Drop.frame) _ _ (λ rest. refl) (c.drop_frame.ensures whole shows))

pub returns-in-Mute-clause-run : goal.returns-in-Mute-clause-run
returns-in-Mute-clause-run g c whole shows =
    rw c.in-Mute.is (come_to (act_part g.M.Machine.rules (acts.Mute c.in-Mute.party)) whole (set_muted whole c.in-Mute.party true) _ _ (λ rest. refl) (c.mute.ensures whole shows))

pub returns-in-Unmute-clause-run : goal.returns-in-Unmute-clause-run
returns-in-Unmute-clause-run g c whole shows =
    rw c.in-Unmute.is (come_to (act_part g.M.Machine.rules (acts.Unmute c.in-Unmute.party)) whole (set_muted whole c.in-Unmute.party false) _ _ (λ rest. refl) (c.unmute.ensures whole shows))
