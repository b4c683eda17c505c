use Rattle.zy_schedule.specs.Reading.{line_read}
use Rattle.zy_schedule.specs.Texts.{IsSaid, IsScheduleLine}
use Rattle.zy_schedule.proofs.LineLaws.{line_takes, text_again}
use Rattle.zy_schedule.proofs.TextLaws.{is_fit, is_found, is_only}
use Rattle.zy_schedule.proofs.reading.read_schedule.Goals as goal

pub returns-clause-found : goal.returns-clause-found
returns-clause-found c = is_found line_read IsScheduleLine line_takes c.args.bytes.now c.read_text.result c.read_text.ensures

pub returns-clause-only : goal.returns-clause-only
returns-clause-only c = is_only line_read IsScheduleLine (λ text line spelled. text_again line text spelled) c.args.bytes.now c.read_text.result c.read_text.ensures

pub returns-clause-said : goal.returns-clause-said
returns-clause-said c = is_fit line_read IsScheduleLine IsSaid line_takes (λ line text spelled. (spelled.0, spelled.1)) c.args.bytes.now c.read_text.result c.read_text.ensures
