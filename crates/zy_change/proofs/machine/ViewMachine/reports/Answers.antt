use Rattle.std.proofs.Common.{◌++◌, take, option_to_list, ap, ◌∙◌}
use Rattle.std.specs.Prelude.{option_copied}
use Rattle.zy_change.specs.Ahead.{report_ahead}
use Rattle.zy_change.specs.Views.{Views}
use Rattle.zy_change.proofs.IndexLemmas.{next_taken}
use Rattle.zy_change.proofs.machine.ViewMachine.reports.Goals as goal

pub loop-id-preserved : goal.loop-id-preserved
loop-id-preserved c =
    next_taken c.args.self.now.counts.change (report_ahead c.args.self.now c.args.view (option_copied c.args.heard) (option_copied c.args.own)) c.loop-id.id _ _ c.loop-id.invariant
    (c.in_ok-push_up_to.ensures
    ∙ ap (λ o. take c.self.inside.counts.change (c.loop-id.reports ++ option_to_list o)) c.in_ok-report.ensures
    ∙ ap (λ (v : Views). take v.counts.change (c.loop-id.reports ++ option_to_list (report_ahead c.args.self.now c.args.view (option_copied c.args.heard) (option_copied c.args.own) c.loop-id.id))) c.self.view_is)
