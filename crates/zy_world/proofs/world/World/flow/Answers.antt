use Rattle.std.proofs.Common.{◌≡◌, ap}
use Rattle.zy_world.specs.Shows.{Shows}
use Rattle.zy_world_law.specs.Events.Broken.{Forged, Clash}
use Rattle.zy_world_law.specs.Runs.{flow}
use Rattle.zy_world.proofs.Flows.{passes_all, stops_at}
use Rattle.zy_world.proofs.world.World.flow.Goals as goal

pub returns-in-Ok-clause-flows : goal.returns-in-Ok-clause-flows
returns-in-Ok-clause-flows g c w s =
    passes_all (flow g.M.Machine.rules c.args.events) w c.new-notes.result c.flows.new.notes (λ v. Shows v c.in-Ok.world) c.new-notes.ensures (c.in-Ok.ensures.comes w s)

pub returns-in-Err-Forged-clause-forged : goal.returns-in-Err-Forged-clause-forged
returns-in-Err-Forged-clause-forged g c w notes by s e =
    let cut = rw c.in-Err-Forged.field-0-is at (c.in-Err-Forged.ensures.cut w s) in
    let noted : c.flows.new.notes ≡ notes = cc in
    let same : c.in-Err-Forged.by ≡ by = cc in
    stops_at (flow g.M.Machine.rules c.args.events) w c.new-notes.result c.flows.new.notes notes (Forged c.in-Err-Forged.by) (Forged by) c.new-notes.ensures cut noted (ap Forged same)

pub returns-in-Err-Clash-clause-clash : goal.returns-in-Err-Clash-clause-clash
returns-in-Err-Clash-clause-clash g c w notes digest s e =
    let cut = rw c.in-Err-Clash.field-0-is at (c.in-Err-Clash.ensures.cut w s) in
    let noted : c.flows.new.notes ≡ notes = cc in
    let same : c.in-Err-Clash.digest ≡ digest = cc in
    stops_at (flow g.M.Machine.rules c.args.events) w c.new-notes.result c.flows.new.notes notes (Clash c.in-Err-Clash.digest) (Clash digest) c.new-notes.ensures cut noted (ap Clash same)
