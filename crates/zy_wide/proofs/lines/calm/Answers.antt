use Rattle.std.proofs.Common.{◌-◌, ◌∙◌, ◌++◌, ap, arith}
use Rattle.std.specs.Prelude.{map}
use Rattle.std.specs.List.{flat_map, range_with_len}
use Rattle.std.proofs.lemmas.List.Elements.{All-append}
use Rattle.zy_schedule.specs.Texts.{IsSaid}
use Rattle.zy_wide.specs.Calm.{job_lines, mute_line}
use Rattle.zy_wide.proofs.CalmLemmas.{jobs_said, mutes_said}
use Rattle.zy_wide.proofs.lines.calm.Goals as goal

pub returns-clause-said : goal.returns-clause-said
returns-clause-said c =
    let n = c.args.counts.now.n in
    let silent = c.args.silent in
    let asks = c.args.asks in
    let same = c.in_ok-put_jobs.ensures ∙ ap (λ lines. lines ++ flat_map (job_lines n) (range_with_len 0 asks)) c.in_ok-put_mutes.ensures in
    rw (same, c.new-lines.ensures.items)
    (All-append IsSaid (map mute_line (range_with_len (n - silent) silent)) (flat_map (job_lines n) (range_with_len 0 asks))
    (mutes_said (n - silent) silent (omega arith))
    (jobs_said n 0 asks (omega arith) (omega arith)))
