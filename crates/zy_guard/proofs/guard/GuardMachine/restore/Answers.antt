use Rattle.zy_guard.specs.Laws.{reads_state}
use Rattle.zy_guard.specs.Changes.{values_of}
use Rattle.zy_guard.proofs.ChangeLemmas.{trail_none, guard_made}
use Rattle.zy_guard.proofs.guard.GuardMachine.restore.Goals as goal

pub invariant_of-result : goal.invariant_of-result
invariant_of-result c =
    rw c.new.ensures.items (guard_made c.in-Ok.slots c.in-Ok.live (reads_state c.args.bytes.now (values_of c.in-Ok.slots.live) c.in-Ok.ensures.read) c.in-Ok.ensures.chains c.in-Ok.ensures.stack c.in-Ok.ensures.live)

pub returns-in-Ok-clause-trail : goal.returns-in-Ok-clause-trail
returns-in-Ok-clause-trail c = rw c.new.ensures.items (trail_none c.in-Ok.slots)
