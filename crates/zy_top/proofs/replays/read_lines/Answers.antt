use Rattle.std.proofs.Common.{arith}
use Rattle.std.proofs.lemmas.Result.{err_from_is_err_and}
use Rattle.zy_edge.specs.Files.{Held, content_of}
use Rattle.zy_top.proofs.JudgeLaws.{schedule_read, schedule_spelled, schedule_unread}
use Rattle.zy_top.proofs.SaidLaws.{schedule_few}
use Rattle.zy_top.proofs.replays.read_lines.Goals as goal

pub returns-in_err-text-clause-told : goal.returns-in_err-text-clause-told
returns-in_err-text-clause-told g c =
    let p = err_from_is_err_and c.from_residual.result c.from_residual.ensures.1 in
    rw (p.1, p.2) (schedule_unread {A = Held} (g.F.Files.held c.args.files.now) (λ held. content_of held c.args.schedule.now) _ c.in_err-text.ensures.bytes)

pub returns-clause-told : goal.returns-clause-told
returns-clause-told g c =
    schedule_read {A = Held} (g.F.Files.held c.args.files.now) (λ held. content_of held c.args.schedule.now) c.in_ok-text.text c.in_ok-read_schedule.field-0 c.in_ok-text.ensures.bytes
    (rw c.deref.ensures.value at c.in_ok-read_schedule.ensures.exact)

pub returns-clause-spelled : goal.returns-clause-spelled
returns-clause-spelled g c =
    schedule_spelled {A = Held} (g.F.Files.held c.args.files.now) (λ held. content_of held c.args.schedule.now) c.in_ok-text.text c.in_ok-read_schedule.field-0 c.in_ok-text.ensures.bytes
    (rw c.deref.ensures.value at c.in_ok-read_schedule.ensures.exact)

pub returns-clause-few : goal.returns-clause-few
returns-clause-few g c =
    omega (arith, schedule_few c.in_ok-text.text.items c.in_ok-read_schedule.field-0.items (rw c.deref.ensures.value at c.in_ok-read_schedule.ensures.exact), c.in_ok-text.ensures.bytes.1)
