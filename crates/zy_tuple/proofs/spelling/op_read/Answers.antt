use Rattle.std.proofs.Common.{◌≡◌, List, ℕ, Ok, Err, Result, subst, ap, ◌∙◌, arith}
use Rattle.std.specs.Prelude.{IfOk}
use Rattle.zy_wire.specs.Spelling.{IsBytes}
use Rattle.zy_tuple.specs.declared.fault.OpFault.{OpFault}
use Rattle.zy_tuple.specs.declared.values.Op.{Op}
use Rattle.zy_tuple.specs.Values.{IsOp}
use Rattle.zy_tuple.specs.Bytes.{ReadsOp, op_in, op_bytes}
use Rattle.zy_tuple.proofs.BytesLaws.{op_takes, op_again}
use Rattle.zy_tuple.proofs.spelling.op_read.Goals as goal

is_found : (bytes : List ℕ) (r : Result Op OpFault) → IsBytes bytes → ReadsOp (λ x. x) r (op_in bytes) → IfOk r (λ op. IsOp op × (bytes ≡ op_bytes op))
is_found bytes (Ok op) fits h = op_takes bytes op fits h
is_found bytes (Err e) fits h = tt

pub returns-clause-found : goal.returns-clause-found
returns-clause-found c = is_found c.args.bytes.now c.whole_operation.result (λ i. omega (arith, c.type_inv.bytes i)) c.whole_operation.ensures

pub returns-clause-only : goal.returns-clause-only
returns-clause-only c = λ op fits e. subst (λ read. ReadsOp (λ x. x) c.whole_operation.result read) (ap op_in e ∙ op_again op fits) c.whole_operation.ensures
