use Rattle.std.proofs.Common.{sym, ◌∙◌}
use Rattle.zy_change.proofs.JudgingLemmas.{read_well}
use Rattle.zy_change.proofs.judging.chosen_in.Goals as goal

pub choice_of-requires-clause-began : goal.choice_of-requires-clause-began
choice_of-requires-clause-began c =
    let v = c.args.machine.now in
    λ k d within. (read_well v.counts v.interval c.as_slice-changes.result.now c.in-Ok.reports c.as_slice.result.now (sym c.in-Ok.is ∙ c.in_ok-rule.ensures) c.as_slice.ensures.value k d within).began

pub choice_of-requires-clause-spec : goal.choice_of-requires-clause-spec
choice_of-requires-clause-spec c =
    let v = c.args.machine.now in
    λ k d within. (read_well v.counts v.interval c.as_slice-changes.result.now c.in-Ok.reports c.as_slice.result.now (sym c.in-Ok.is ∙ c.in_ok-rule.ensures) c.as_slice.ensures.value k d within).spec

pub returns-in-Ok-clause-place : goal.returns-in-Ok-clause-place
returns-in-Ok-clause-place c =
    let v = c.args.machine.now in
    c.chosen_by.ensures.place
    (c.choice_of.ensures.in_range v.interval
    (read_well v.counts v.interval c.as_slice-changes.result.now c.in-Ok.reports c.as_slice.result.now (sym c.in-Ok.is ∙ c.in_ok-rule.ensures) c.as_slice.ensures.value))
