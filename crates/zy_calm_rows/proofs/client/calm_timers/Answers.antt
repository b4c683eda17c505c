use Rattle.zy_calm_rows.proofs.ClientRows.{certificate, commit_kept, timer_row}
use Rattle.zy_calm_rows.proofs.client.calm_timers.Goals as goal

pub returns : goal.returns
returns c = record { row = timer_row; certificate = certificate; commit = commit_kept }
