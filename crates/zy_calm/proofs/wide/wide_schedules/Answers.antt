use Rattle.std.proofs.Common.{◌≡◌, ℕ, ◌-◌, List, [], ◌∷◌, ◌++◌, map, refl, ap, ◌∙◌}
use Rattle.std.specs.List.{flat_map, range_with_len}
use Rattle.zy_calm.specs.Asks.{lines_of, mute_line}
use Rattle.zy_calm.specs.Jobs.{job_ask}
use Rattle.zy_schedule.specs.declared.line.Line.{Line}
use Rattle.zy_table.specs.declared.client.Path.TheVariants.{Fast}
use Rattle.zy_wide.specs.Calm as wide
use Rattle.zy_calm.proofs.wide.wide_schedules.Goals as goal

same_mutes : (ids : List ℕ) → map wide.mute_line ids ≡ map mute_line ids
same_mutes [] = refl
same_mutes (id ∷ ids) = ap (λ (lines : List Line). mute_line id ∷ lines) (same_mutes ids)

same_jobs : (n : ℕ) (numbers : List ℕ) → flat_map (wide.job_lines n) numbers ≡ flat_map (lines_of Fast) (map (job_ask n) numbers)
same_jobs n [] = refl
same_jobs n (i ∷ numbers) = ap (λ (lines : List Line). wide.job_lines n i ++ lines) (same_jobs n numbers)

pub returns : goal.returns
returns c n silent asks =
    ap (λ (lines : List Line). lines ++ flat_map (wide.job_lines n) (range_with_len 0 asks)) (same_mutes (range_with_len (n - silent) silent))
    ∙ ap (λ (lines : List Line). map mute_line (range_with_len (n - silent) silent) ++ lines) (same_jobs n (range_with_len 0 asks))
