use Rattle.std.proofs.Common.{◌≡◌, Result, Ok, Err, subst}
use Rattle.std.specs.Prelude.{IfOk, IfErr}
use Rattle.zy_base.specs.declared.ids.Digest.{Digest}
use Rattle.zy_base.specs.declared.ids.Party.{Party}
use Rattle.zy_world.specs.Answered.{GoesTo, IsBrokenBy}
use Rattle.zy_world.specs.Shown.{Shown}
use Rattle.zy_world.specs.Shows.{Shows}
use Rattle.zy_world.specs.declared.fault.WorldFault.{WorldFault}
use Rattle.zy_world.specs.declared.fault.WorldFault.TheVariants as faults
use Rattle.zy_world_law.specs.Events.{Happened, happens}
use Rattle.zy_world_law.specs.Events.Broken.{Forged, Clash}
use Rattle.zy_world_law.specs.Events.Happened.{Goes, Breaks}
use Rattle.zy_world_law.specs.World.{World}
use Rattle.zy_world_law.specs.declared.note.Note.{Note}
use Rattle.zy_world.proofs.world.World.step.Goals as goal

module _ {S X : Type 0} (h : Happened S) where
  goes_on : (note : X → Note) (shown : X → Shown S) (r : Result X WorldFault) → IfOk r (λ x. GoesTo h (note x) (shown x)) → IfOk r (λ x. (v : World S) × (h ≡ Goes v (note x)) × Shows v (shown x))
  goes_on note shown (Ok x) to = (to.world, to.goes, to.shows)
  goes_on note shown (Err fault) to = tt

  by_forger : (r : Result X WorldFault) (by : Party) → IfErr r (IsBrokenBy h) → r ≡ Err (faults.Forged by) → h ≡ Breaks (Forged by)
  by_forger r by broken is = subst (λ (o : Result X WorldFault). IfErr o (IsBrokenBy h)) is broken

  by_clash : (r : Result X WorldFault) (d : Digest) → IfErr r (IsBrokenBy h) → r ≡ Err (faults.Clash d) → h ≡ Breaks (Clash d)
  by_clash r d broken is = subst (λ (o : Result X WorldFault). IfErr o (IsBrokenBy h)) is broken

pub returns-clause-goes : goal.returns-clause-goes
returns-clause-goes g c w s = goes_on (happens g.M.Machine.rules w c.args.event) (λ r. r.note) (λ r. r.world) c.goes.result (c.goes.ensures.goes w s)

pub returns-clause-forged : goal.returns-clause-forged
returns-clause-forged g c w by s is = by_forger (happens g.M.Machine.rules w c.args.event) c.goes.result by (c.goes.ensures.broken w s) is

pub returns-clause-clash : goal.returns-clause-clash
returns-clause-clash g c w d s is = by_clash (happens g.M.Machine.rules w c.args.event) c.goes.result d (c.goes.ensures.broken w s) is
