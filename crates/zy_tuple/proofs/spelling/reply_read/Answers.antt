use Rattle.std.proofs.Common.{sym, subst, ap, ◌∙◌, arith}
use Rattle.std.specs.Prelude.{IsErr}
use Rattle.zy_tuple.specs.Bytes.{reply_in}
use Rattle.zy_tuple.proofs.BytesLaws.{reply_takes, reply_again}
use Rattle.zy_tuple.proofs.spelling.reply_read.Goals as goal

pub returns-in-Ok-clause-found : goal.returns-in-Ok-clause-found
returns-in-Ok-clause-found c = reply_takes c.args.bytes.now c.in-Ok.reply (λ i. omega (arith, c.type_inv.bytes i)) c.in-Ok.ensures

pub returns-in-Ok-clause-only : goal.returns-in-Ok-clause-only
returns-in-Ok-clause-only c = λ reply fits e. sym (ap reply_in e ∙ reply_again reply fits) ∙ c.in-Ok.ensures

pub returns-in-Err-NotOp-clause-only : goal.returns-in-Err-NotOp-clause-only
returns-in-Err-NotOp-clause-only c = λ reply fits e. subst (λ read. IsErr read) (ap reply_in e ∙ reply_again reply fits) (rw c.in-Err-NotOp.field-0-is at c.in-Err-NotOp.ensures)
