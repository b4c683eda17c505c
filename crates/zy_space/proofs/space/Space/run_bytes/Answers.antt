use Rattle.std.proofs.Common.{◌≡◌, ◌∙◌, refl, ap, arith, Result, Ok, Err, List}
use Rattle.std.specs.Prelude.{IsErr}
use Rattle.zy_base.specs.declared.frame_fault.FrameFault.{FrameFault}
use Rattle.zy_tuple.specs.declared.values.Field.{Field}
use Rattle.zy_tuple.specs.declared.values.Op.{Op}
use Rattle.zy_tuple.specs.Bytes.{op_in}
use Rattle.zy_space.specs.TupleSpace.{step}
use Rattle.zy_space.specs.Service.{ran, answered, refused}
use Rattle.zy_space.proofs.ServiceLaws.{ran_read}
use Rattle.zy_space.proofs.space.Space.run_bytes.Goals as goal

no_operation : (read : Result Op FrameFault) (tuples : List (List Field)) → IsErr read → answered read tuples ≡ refused tuples
no_operation (Ok op) tuples failed = absurd (cc)
no_operation (Err fault) tuples failed = refl

pub returns-in-Ok-clause-reply : goal.returns-in-Ok-clause-reply
returns-in-Ok-clause-reply c =
    let tuples = c.args.self.now.tuples in
    let is : ran c.args.bytes.now tuples ≡ step c.in-Ok.op tuples = ran_read c.args.bytes.now tuples (λ i. omega (arith, c.type_inv.bytes i)) ∙ ap (λ read. answered read tuples) c.in-Ok.ensures.exact in
    rw is c.run_op.ensures.reply

pub returns-in-Ok-clause-after : goal.returns-in-Ok-clause-after
returns-in-Ok-clause-after c =
    let tuples = c.args.self.now.tuples in
    let is : ran c.args.bytes.now tuples ≡ step c.in-Ok.op tuples = ran_read c.args.bytes.now tuples (λ i. omega (arith, c.type_inv.bytes i)) ∙ ap (λ read. answered read tuples) c.in-Ok.ensures.exact in
    rw is c.run_op.ensures.after

pub returns-in-Err-NotOp-clause-reply : goal.returns-in-Err-NotOp-clause-reply
returns-in-Err-NotOp-clause-reply c =
    let tuples = c.args.self.now.tuples in
    let is : ran c.args.bytes.now tuples ≡ refused tuples = ran_read c.args.bytes.now tuples (λ i. omega (arith, c.type_inv.bytes i)) ∙ no_operation (op_in c.args.bytes.now) tuples (rw c.in-Err-NotOp.field-0-is at c.in-Err-NotOp.ensures.exact) in
    rw is c.stay.ensures.reply

pub returns-in-Err-NotOp-clause-after : goal.returns-in-Err-NotOp-clause-after
returns-in-Err-NotOp-clause-after c =
    let tuples = c.args.self.now.tuples in
    let is : ran c.args.bytes.now tuples ≡ refused tuples = ran_read c.args.bytes.now tuples (λ i. omega (arith, c.type_inv.bytes i)) ∙ no_operation (op_in c.args.bytes.now) tuples (rw c.in-Err-NotOp.field-0-is at c.in-Err-NotOp.ensures.exact) in
    rw is c.stay.ensures.after
