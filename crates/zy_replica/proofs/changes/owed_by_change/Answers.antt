use Rattle.std.proofs.Common.{◌≡◌, IfOk, ◌∙◌, ap, subst}
use Rattle.zy_parts.specs.declared.reports.Told.{Told}
use Rattle.zy_change.specs.declared.owed.Owed.{Owed}
use Rattle.zy_change.specs.Owing.{change_owes}
use Rattle.zy_change.specs.Views.{Views}
use Rattle.zy_change.specs.Fit.{IsFit, IsTrueReport}
use Rattle.zy_replica_views.specs.Follows.{IsChangeOwed}
use Rattle.zy_replica.specs.Judging.{CanAll}
use Rattle.zy_replica.proofs.EnterLemmas.{change_can}
use Rattle.zy_replica.proofs.JudgedLemmas.{owed_for_all, owed_so}
use Rattle.zy_replica.proofs.changes.owed_by_change.Goals as goal

pub returns-clause-owed : goal.returns-clause-owed
returns-clause-owed g c =
    owed_for_all _ c.change-owed.result
    (λ pens.
    subst (λ (x : Owed). IfOk c.change-owed.result (λ (o : Owed). o ≡ x))
    (ap (λ (v : Views). change_owes v c.args.vote.now c.in_ok-told.told pens) c.views-2.ensures.views
    ∙ ap (λ (t : Told). change_owes c.args.core.now.views c.args.vote.now t pens) c.in_ok-told.ensures.report)
    (c.change-owed.ensures.owed pens))

pub returns-clause-enters : goal.returns-clause-enters
returns-clause-enters g c =
    let s = c.args.core.now in
    let true_report = subst (IsTrueReport s.views) c.in_ok-told.ensures.report c.in_ok-told.ensures.keeps_rules in
    let fit = subst IsFit c.views.ensures.views c.view-view.ensures.fit in
    owed_so (IsChangeOwed s c.args.vote.now) (CanAll s) c.change-owed.result (λ owed is. change_can s fit true_report c.args.vote.now c.requires.replica c.requires.range owed is) (returns-clause-owed g c)
