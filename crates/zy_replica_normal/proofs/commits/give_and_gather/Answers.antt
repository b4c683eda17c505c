use Rattle.std.proofs.Common.{true, arith}
use Rattle.zy_replica_normal.proofs.CommitLemmas.{given_owes, given_keeps, given_last, given_left}
use Rattle.zy_replica_normal.proofs.commits.give_and_gather.Goals as goal

pub gather_at-requires-clause-left : goal.gather_at-requires-clause-left
gather_at-requires-clause-left g c =
    let R = g.M.Machine.rules in
    rw (c.in_ok-progress.ensures, given_owes R c.args.client c.args.local c.args.said c.args.core c.args.own true, given_left R c.args.client c.args.local c.args.said c.args.core)
    (omega (arith, c.requires.left))

pub gather_at-requires-clause-own : goal.gather_at-requires-clause-own
gather_at-requires-clause-own g c =
    rw (c.in_ok-progress.ensures, given_keeps g.M.Machine.rules c.args.client c.args.local c.args.said c.args.core, given_last g.M.Machine.rules c.args.client c.args.local c.args.said c.args.core) c.requires.own
