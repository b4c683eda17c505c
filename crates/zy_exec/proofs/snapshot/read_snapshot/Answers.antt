use Rattle.std.proofs.Common.{arith}
use Rattle.std.proofs.lemmas.Result.{err_from_is_err_and}
use Rattle.zy_wire.specs.Spelling.{whole}
use Rattle.zy_exec.specs.Snapshot.{snapshot_fields}
use Rattle.zy_exec.specs.declared.install_fault.InstallFault.TheVariants.{NotState}
use Rattle.zy_exec.proofs.SnapshotLemmas.{same_fault, fails_none, unread, unrisen, read_spells}
use Rattle.zy_exec.proofs.snapshot.read_snapshot.Goals as goal

pub returns-in_err-rows-clause-not_state : goal.returns-in_err-rows-clause-not_state
returns-in_err-rows-clause-not_state c =
    let p = err_from_is_err_and c.from_residual.result c.from_residual.ensures.1 in
    let fault = c.in_err-rows.field-0.0 in
    rw (p.1, p.2) (λ refused. unread c.args.bytes.now (fails_none fault (whole snapshot_fields c.args.bytes.now) c.in_err-rows.ensures refused))

pub returns-in_err-known-clause-not_state : goal.returns-in_err-known-clause-not_state
returns-in_err-known-clause-not_state c =
    let p = err_from_is_err_and c.from_residual-in_err-known.result c.from_residual-in_err-known.ensures.1 in
    let fault = c.in_err-known.field-0.0 in
    rw (p.1, p.2) (λ refused. unrisen c.args.bytes.now c.in_ok-rows.rows c.in_ok-rows.state.now c.in_ok-rows.ensures (c.in_err-known.ensures.not_state (same_fault fault NotState refused)))

pub returns-clause-read : goal.returns-clause-read
returns-clause-read c =
    read_spells c.args.bytes.now c.in_ok-rows.rows c.in_ok-rows.state.now c.in_ok-known.known.items (λ i. omega (arith, c.type_inv.bytes i))
    c.in_ok-rows.ensures c.in_ok-known.ensures.listed c.in_ok-known.ensures.all
