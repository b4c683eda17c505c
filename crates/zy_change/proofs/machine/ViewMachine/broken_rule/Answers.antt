use Rattle.std.proofs.Common.{◌≡◌, Option, Some, None, Ok, IfOk, refl, ap, ◌∙◌, subst}
use Rattle.zy_parts.specs.declared.signed.Signed.{Signed}
use Rattle.zy_parts.specs.declared.reports.Change.{Change}
use Rattle.zy_choose.specs.Reports.{PlainReport}
use Rattle.zy_evidence.specs.Rules.{rule_of, judged_by}
use Rattle.zy_evidence.specs.declared.rule.Rule.{Rule}
use Rattle.zy_change.specs.Views.{Views}
use Rattle.zy_change.proofs.machine.ViewMachine.broken_rule.Goals as goal

none_broken : (o : Option Rule) (c : Signed Change) (r : PlainReport) → judged_by o c ≡ Ok r → None ≡ o
none_broken None c r is = refl
none_broken (Some rule) c r is = absurd cc

pub returns-in-Ok : goal.returns-in-Ok
returns-in-Ok c =
    none_broken (rule_of c.self.inside.counts c.self.inside.interval c.args.vote.now.stmt) c.args.vote.now c.in-Ok.report c.in-Ok.ensures
    ∙ ap (λ (v : Views). rule_of v.counts v.interval c.args.vote.now.stmt) c.self.view_is

pub returns-in-Err : goal.returns-in-Err
returns-in-Err c =
    subst (λ (v : Views). IfOk c.rule_in.result (λ o. o ≡ rule_of v.counts v.interval c.args.vote.now.stmt)) c.self.view_is
    (c.rule_in.ensures (rule_of c.self.inside.counts c.self.inside.interval c.args.vote.now.stmt) c.args.vote.now c.in-Err.ensures)
