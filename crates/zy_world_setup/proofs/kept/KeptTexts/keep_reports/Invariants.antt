use Rattle.std.proofs.Common.{take}
use Rattle.std.specs.List.{flat_map}
use Rattle.zy_world_law.specs.Texts.{report_texts}
use Rattle.zy_world_setup.specs.Kept.{Keeps}
use Rattle.zy_world_setup.proofs.kept.KeptTexts.keep_reports.Given as goal

abbrev pub invariant-loop-report : goal.invariant-loop-report
invariant-loop-report l = Keeps (flat_map report_texts (take l.report-index l.reports)) l.fn.self l.self
