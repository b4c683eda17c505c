use Rattle.std.proofs.Common.{◌≡◌, ◌++◌, All, take, option_to_list, sym, ap, ◌∙◌, subst, arith}
use Rattle.std.specs.List.{filter_map, range_with_len}
use Rattle.zy_parts.specs.Reports.{IsNewInRange}
use Rattle.zy_change.specs.Ahead.{kept_change}
use Rattle.zy_change.specs.Fit.{IsFit, IsGiven}
use Rattle.zy_change.specs.Owing.{gathered}
use Rattle.zy_change.specs.Views.{Views, change_for}
use Rattle.zy_change.proofs.GivingLemmas.{changes_by, given, new_in_range}
use Rattle.zy_change.proofs.IndexLemmas.{next_taken}
use Rattle.zy_change.proofs.machine.ViewMachine.gathered.Goals as goal

pub loop-id-preserved : goal.loop-id-preserved
loop-id-preserved c =
    next_taken c.args.self.now.counts.change (λ id. change_for c.args.view.0 (kept_change c.args.self.now id)) c.loop-id.id _ _ c.loop-id.invariant
    (c.in_ok-push_up_to.ensures
    ∙ ap (λ o. take c.self.inside.counts.change (c.loop-id.changes ++ option_to_list o)) c.change_for.ensures
    ∙ ap (λ (v : Views). take v.counts.change (c.loop-id.changes ++ option_to_list (change_for c.args.view.0 (kept_change c.args.self.now c.loop-id.id)))) c.self.view_is)

all : (c : goal.After-loop-id) → c.loop-id.changes ≡ gathered c.args.self.now c.args.view.0
all c =
    let v = c.args.self.now in
    let end : c.loop-id.id ≡ c.self.inside.counts.n = omega (arith, c.loop-id-test.false, c.loop-id.auto.id-end) in
    c.loop-id.invariant
    ∙ ap (λ k. take v.counts.change (filter_map (λ id. change_for c.args.view.0 (kept_change v id)) (range_with_len 0 k))) (end ∙ ap (λ (u : Views). u.counts.n) c.self.view_is)
    ∙ ap (take v.counts.change) (changes_by v c.args.view (subst IsFit c.self.view_is c.self.invariant))

pub returns-clause-new : goal.returns-clause-new
returns-clause-new c = ap (λ l. record { view = c.args.view; changes = l }) (all c)

pub returns-clause-in_range : goal.returns-clause-in_range
returns-clause-in_range c =
    subst (λ l. IsNewInRange (record { view = c.args.view; changes = l })) (sym (all c))
    (new_in_range c.args.self.now c.args.view (subst IsFit c.self.view_is c.self.invariant) c.requires.enough)

pub returns-clause-reports : goal.returns-clause-reports
returns-clause-reports c =
    let v = c.args.self.now in
    subst (λ l. All (IsGiven v.counts v.interval c.args.view) l) (sym (all c)) (given v c.args.view (subst IsFit c.self.view_is c.self.invariant))
