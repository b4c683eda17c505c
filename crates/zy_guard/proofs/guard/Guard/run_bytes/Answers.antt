use Rattle.std.proofs.Common.{◌≡◌, ◌∙◌, ap, arith}
use Rattle.zy_guard.specs.Bytes.{op_in}
use Rattle.zy_guard.specs.GuardedSpace.{guard_step}
use Rattle.zy_guard.specs.Service.{ran, answered, refused}
use Rattle.zy_guard.proofs.ServiceLaws.{ran_read, no_operation}
use Rattle.zy_guard.proofs.guard.Guard.run_bytes.Goals as goal

pub returns-in-Ok-clause-reply : goal.returns-in-Ok-clause-reply
returns-in-Ok-clause-reply c =
    let state = c.args.self.now.state in
    let is : ran c.args.client.0 c.args.bytes.now state ≡ guard_step c.args.client.0 c.in-Ok.op state = ran_read c.args.client.0 c.args.bytes.now state (λ i. omega (arith, c.type_inv.bytes i)) ∙ ap (λ read. answered c.args.client.0 read state) c.in-Ok.ensures.exact in
    rw is c.run_op.ensures.reply

pub returns-in-Ok-clause-after : goal.returns-in-Ok-clause-after
returns-in-Ok-clause-after c =
    let state = c.args.self.now.state in
    let is : ran c.args.client.0 c.args.bytes.now state ≡ guard_step c.args.client.0 c.in-Ok.op state = ran_read c.args.client.0 c.args.bytes.now state (λ i. omega (arith, c.type_inv.bytes i)) ∙ ap (λ read. answered c.args.client.0 read state) c.in-Ok.ensures.exact in
    rw is c.run_op.ensures.after

pub returns-in-Err-NotOp-clause-reply : goal.returns-in-Err-NotOp-clause-reply
returns-in-Err-NotOp-clause-reply c =
    let state = c.args.self.now.state in
    let is : ran c.args.client.0 c.args.bytes.now state ≡ refused state = ran_read c.args.client.0 c.args.bytes.now state (λ i. omega (arith, c.type_inv.bytes i)) ∙ no_operation c.args.client.0 (op_in c.args.bytes.now) state (rw c.in-Err-NotOp.field-0-is at c.in-Err-NotOp.ensures.exact) in
    rw is c.stay.ensures.reply

pub returns-in-Err-NotOp-clause-after : goal.returns-in-Err-NotOp-clause-after
returns-in-Err-NotOp-clause-after c =
    let state = c.args.self.now.state in
    let is : ran c.args.client.0 c.args.bytes.now state ≡ refused state = ran_read c.args.client.0 c.args.bytes.now state (λ i. omega (arith, c.type_inv.bytes i)) ∙ no_operation c.args.client.0 (op_in c.args.bytes.now) state (rw c.in-Err-NotOp.field-0-is at c.in-Err-NotOp.ensures.exact) in
    rw is c.stay.ensures.after
