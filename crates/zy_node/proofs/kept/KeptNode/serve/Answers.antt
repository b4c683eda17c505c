use Rattle.std.proofs.Common.{ℕ, ◌∙◌, refl, subst, arith}
use Rattle.std.proofs.lemmas.Result.{err_from_is_err_and}
use Rattle.zy_node.specs.Replicas.{replica_rules}
use Rattle.zy_node.specs.Serving.{IsKeptRun}
use Rattle.zy_node.proofs.ServeLemmas.{cut_off_kept, none_kept, one_kept_more}
use Rattle.zy_node.proofs.kept.KeptNode.serve.Goals as goal

pub loop-init : goal.loop-init
loop-init g c = record { run = none_kept g.D.Disk.contents g.D.Disk.may_leave g.D.Disk.moment g.D.Disk.left_since (replica_rules g.M.Machine.rules) c.args.self _ c.args.disk.now (g.met.D.Disk.only_now c.args.disk.now) c.requires; binding = refl; disk_faults = refl; link_faults = refl }

pub turn-requires : goal.turn-requires
turn-requires g c = c.loop.invariant.run.stored.end

pub returns-in_err-node-clause-run : goal.returns-in_err-node-clause-run
returns-in_err-node-clause-run g c =
    let p = err_from_is_err_and c.from_residual.result c.from_residual.ensures.1 in
    rw (p.1, p.2)
    (cut_off_kept g.D.Disk.contents g.D.Disk.may_leave g.D.Disk.moment g.D.Disk.left_since (replica_rules g.M.Machine.rules) c.loop.counter c.args.turns c.args.self c.loop.node c.in_err-node.field-0.0 _ _ _ c.args.disk.now c.loop.disk c.turn.new.disk
    c.loop-test.true c.loop.invariant.run c.in_err-node.ensures.kept)

pub loop-preserved : goal.loop-preserved
loop-preserved g c = record {
  run = one_kept_more g.D.Disk.contents g.D.Disk.may_leave g.D.Disk.moment g.D.Disk.left_since (replica_rules g.M.Machine.rules) c.loop.counter c.args.self c.loop.node c.in_ok-node.node _ _ _ c.args.disk.now c.loop.disk c.turn.new.disk c.loop.invariant.run refl c.in_ok-node.ensures.kept;
  binding = c.in_ok-node.ensures.binding ∙ c.loop.invariant.binding;
  disk_faults = c.in_ok-node.ensures.disk_count ∙ c.loop.invariant.disk_faults;
  link_faults = c.in_ok-node.ensures.link_count ∙ c.loop.invariant.link_faults;
}

pub returns-clause-run : goal.returns-clause-run
returns-clause-run g c =
    subst (λ (many : ℕ). IsKeptRun g.D.Disk.contents g.D.Disk.may_leave g.D.Disk.moment g.D.Disk.left_since (replica_rules g.M.Machine.rules) many c.args.self c.loop.node
    (record { mail = g.L.Link.mail c.args.link.now; receives = g.L.Link.receives c.args.link.now; moments = g.T.Clock.moments c.args.clock.now })
    (record { mail = g.L.Link.mail c.loop.link; receives = g.L.Link.receives c.loop.link; moments = g.T.Clock.moments c.loop.clock }) c.args.disk.now c.loop.disk) (omega arith) c.loop.invariant.run
