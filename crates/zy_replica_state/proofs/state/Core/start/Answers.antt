use Rattle.std.proofs.Common.{subst, sym}
use Rattle.zy_replica_state.specs.Ready.{IsReady}
use Rattle.zy_replica_state.proofs.ReadyLemmas.{start_is, start_ready}
use Rattle.zy_replica_state.proofs.state.Core.start.Goals as goal

pub invariant_of-result : goal.invariant_of-result
invariant_of-result g c =
    let R = g.M.Machine.rules in
    rw c.beside.ensures
    (subst IsReady
    (sym (start_is R c.args.k c.args.me c.args.counts c.args.directory c.args.sealer _ _ _ _ _ _ _ _
    c.in_ok-views.ensures c.in_ok-exec.ensures.exec c.start-2.ensures c.in_ok-exec.ensures.board c.new.ensures c.in_ok-pending.ensures c.new-2.ensures c.new-3.ensures))
    (start_ready R c.args.k c.args.me c.args.counts c.args.directory c.args.sealer c.requires.signer (record { replicas = c.requires.replicas; clients = c.requires.clients }) c.requires.least c.requires.most))

pub returns : goal.returns
returns g c =
    let R = g.M.Machine.rules in
    rw c.beside.ensures
    (start_is R c.args.k c.args.me c.args.counts c.args.directory c.args.sealer _ _ _ _ _ _ _ _
    c.in_ok-views.ensures c.in_ok-exec.ensures.exec c.start-2.ensures c.in_ok-exec.ensures.board c.new.ensures c.in_ok-pending.ensures c.new-2.ensures c.new-3.ensures)
