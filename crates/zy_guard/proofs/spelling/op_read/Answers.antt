use Rattle.std.proofs.Common.{◌≡◌, List, ℕ, Ok, Err, Result, arith, subst, ap, ◌∙◌}
use Rattle.std.specs.Prelude.{IfOk}
use Rattle.zy_wire.specs.Spelling.{IsBytes}
use Rattle.zy_tuple.specs.declared.fault.OpFault.{OpFault}
use Rattle.zy_tuple.specs.Bytes.{ReadsOp}
use Rattle.zy_guard.specs.declared.values.GuardOp.{GuardOp}
use Rattle.zy_guard.specs.GuardedSpace.{IsGuardOp}
use Rattle.zy_guard.specs.Bytes.{op_in, op_bytes}
use Rattle.zy_guard.specs.BytesLaws.{op_takes, op_again}
use Rattle.zy_guard.proofs.spelling.op_read.Goals as goal

is_found : (bytes : List ℕ) (r : Result GuardOp OpFault) → IsBytes bytes → ReadsOp (λ x. x) r (op_in bytes) → IfOk r (λ op. IsGuardOp op × (bytes ≡ op_bytes op))
is_found bytes (Ok op) fits h = op_takes bytes op fits h
is_found bytes (Err e) fits h = tt

pub returns-clause-found : goal.returns-clause-found
returns-clause-found c = is_found c.args.bytes.now c.whole_op.result (λ i. omega (arith, c.type_inv.bytes i)) c.whole_op.ensures

pub returns-clause-only : goal.returns-clause-only
returns-clause-only c = λ op fits e. subst (λ read. ReadsOp (λ x. x) c.whole_op.result read) (ap op_in e ∙ op_again op fits) c.whole_op.ensures
