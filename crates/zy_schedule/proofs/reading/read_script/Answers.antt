use Rattle.std.proofs.Common.{◌≡◌, List, ℕ, Ok, ap, ◌∙◌}
use Rattle.zy_tuple.specs.Reading.{op_read}
use Rattle.zy_tuple.specs.Values.{IsOp}
use Rattle.zy_tuple.specs.declared.values.Op.{Op}
use Rattle.zy_tuple.proofs.OpLaws.{op_again, op_takes}
use Rattle.zy_schedule.specs.Lines.{IsOpLine}
use Rattle.zy_schedule.proofs.TextLaws.{is_fit, is_found, is_only}
use Rattle.zy_schedule.proofs.reading.read_script.Goals as goal

takes : (line : List ℕ) (op : Op) → op_read line ≡ Ok op → IsOpLine op line
takes line op e = let t = op_takes line op e in (t.1, t.0)

again : (line : List ℕ) (op : Op) → IsOpLine op line → op_read line ≡ Ok op
again line op spelled = ap op_read spelled.1 ∙ op_again op spelled.0

pub returns-clause-found : goal.returns-clause-found
returns-clause-found c = is_found op_read IsOpLine takes c.args.bytes.now c.read_text.result c.read_text.ensures

pub returns-clause-only : goal.returns-clause-only
returns-clause-only c = is_only op_read IsOpLine again c.args.bytes.now c.read_text.result c.read_text.ensures

pub returns-clause-ops : goal.returns-clause-ops
returns-clause-ops c = is_fit op_read IsOpLine IsOp takes (λ op line spelled. spelled.0) c.args.bytes.now c.read_text.result c.read_text.ensures
