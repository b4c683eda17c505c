use Rattle.zy_guard.proofs.ChangeLemmas.{took_step}
use Rattle.zy_guard.proofs.changes.take_out.Goals as goal

pub returns-clause-ok : goal.returns-clause-ok
returns-clause-ok c =
    rw c.in_ok-push_back.ensures.items (took_step c.args.slots.now c.unlink.new.self c.args.changes.now.items c.args.id.0 c.requires.sound c.unlink.ensures.moved c.unlink.ensures.ready c.unlink.ensures.back)
