use Rattle.std.proofs.Common.{◌++◌, append_assoc, ap, sym, ◌∙◌}
use Rattle.std.specs.List.{flat_map, range_with_len}
use Rattle.zy_schedule.proofs.MadeLaws.{range_more}
use Rattle.zy_wide.specs.Calm.{job_lines}
use Rattle.zy_wide.proofs.lines.put_jobs.Goals as goal

pub loop-number-preserved : goal.loop-number-preserved
loop-number-preserved c =
    let before = c.args.lines.now.items in
    let n = c.args.n in
    let number = c.loop-number.number in
    c.in_ok-put_job.ensures ∙ ap (λ lines. lines ++ job_lines n number) c.loop-number.invariant
    ∙ append_assoc before (flat_map (job_lines n) (range_with_len 0 number)) (job_lines n number)
    ∙ ap (λ lines. before ++ lines) (sym (range_more (job_lines n) number))
