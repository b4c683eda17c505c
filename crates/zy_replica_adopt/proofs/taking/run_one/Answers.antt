use Rattle.zy_replica_adopt.proofs.GotLemmas.{got_is}
use Rattle.zy_replica_adopt.proofs.taking.run_one.Goals as goal

pub returns-clause-got : goal.returns-clause-got
returns-clause-got g c =
    got_is g.M.Machine.rules c.args.exec.now c.run_copy.new.exec c.args.entry.now c.in_ok-entry.entry c.end-place.result c.head-before.result c.head.result c.in_ok-reply.reply c.in_ok-snapshot.snapshot c.in_ok-reply.ensures.exec c.in_ok-entry.ensures
    c.end-place.ensures.now c.head-before.ensures c.head.ensures c.in_ok-reply.ensures.reply c.in_ok-snapshot.ensures
