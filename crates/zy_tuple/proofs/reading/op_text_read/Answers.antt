use Rattle.std.proofs.Common.{◌≡◌, List, ℕ, Ok, Err, Result, subst, ap, ◌∙◌}
use Rattle.std.specs.Prelude.{IfOk}
use Rattle.zy_tuple.specs.declared.fault.LineFault.{LineFault}
use Rattle.zy_tuple.specs.declared.values.Op.{Op}
use Rattle.zy_tuple.specs.Values.{IsOp}
use Rattle.zy_tuple.specs.Texts.{op_text}
use Rattle.zy_tuple.specs.Reading.{Gives, op_read}
use Rattle.zy_tuple.proofs.OpLaws.{op_takes, op_again}
use Rattle.zy_tuple.proofs.reading.op_text_read.Goals as goal

is_found : (line : List ℕ) (r : Result Op LineFault) → Gives (λ x. x) r (op_read line) → IfOk r (λ op. IsOp op × (line ≡ op_text op))
is_found line (Ok op) h = let t = op_takes line op h in (t.1, t.0)
is_found line (Err e) h = tt

pub returns-clause-found : goal.returns-clause-found
returns-clause-found c = is_found c.args.line.now c.op_of.result c.op_of.ensures

pub returns-clause-only : goal.returns-clause-only
returns-clause-only c = λ op fits e. subst (λ read. Gives (λ x. x) c.op_of.result read) (ap op_read e ∙ op_again op fits) c.op_of.ensures
