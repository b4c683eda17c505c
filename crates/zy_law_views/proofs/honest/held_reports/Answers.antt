use Rattle.zy_law_views.proofs.HonestTexts.{change_held}
use Rattle.zy_law_views.proofs.ProvenReports.{report_proven}
use Rattle.zy_law_views.proofs.honest.held_reports.Goals as goal

pub returns : goal.returns
returns c = record { proven = report_proven; held = change_held }
