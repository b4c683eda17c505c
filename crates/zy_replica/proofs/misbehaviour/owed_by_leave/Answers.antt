use Rattle.std.proofs.Common.{◌≡◌, IfOk, ◌∙◌, ap, subst}
use Rattle.zy_base.specs.declared.ids.View.{View}
use Rattle.zy_parts.specs.declared.reports.Told.{Told}
use Rattle.zy_change.specs.declared.owed.Owed.{Owed}
use Rattle.zy_change.specs.Owing.{leaving_owes, next_view}
use Rattle.zy_change.specs.Views.{Views}
use Rattle.zy_change.specs.Fit.{IsFit, IsTrueReport}
use Rattle.zy_replica_views.specs.Follows.{IsLeaveOwed}
use Rattle.zy_replica.specs.Judging.{CanAll}
use Rattle.zy_replica.proofs.EnterLemmas.{leave_can}
use Rattle.zy_replica.proofs.JudgedLemmas.{owed_for_all, owed_so}
use Rattle.zy_replica.proofs.misbehaviour.owed_by_leave.Goals as goal

pub returns-clause-owed : goal.returns-clause-owed
returns-clause-owed g c =
    owed_for_all _ c.leaving-owed.result
    (λ pens.
    subst (λ (x : Owed). IfOk c.leaving-owed.result (λ (o : Owed). o ≡ x))
    (ap (λ (v : Views). leaving_owes v c.next_view.result c.in_ok-told.told pens) c.views-2.ensures.views
    ∙ ap (λ (to : View). leaving_owes c.args.core.now.views to c.in_ok-told.told pens) c.next_view.ensures
    ∙ ap (λ (t : Told). leaving_owes c.args.core.now.views (next_view c.args.core.now.views) t pens) c.in_ok-told.ensures.report)
    (c.leaving-owed.ensures.owed pens))

pub returns-clause-enters : goal.returns-clause-enters
returns-clause-enters g c =
    let s = c.args.core.now in
    let true_report = subst (IsTrueReport s.views) c.in_ok-told.ensures.report c.in_ok-told.ensures.keeps_rules in
    let fit = subst IsFit c.views.ensures.views c.view-view.ensures.fit in
    owed_so (IsLeaveOwed s (next_view s.views)) (CanAll s) c.leaving-owed.result (λ owed is. leave_can s fit true_report owed is) (returns-clause-owed g c)
