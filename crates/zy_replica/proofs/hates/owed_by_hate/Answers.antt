use Rattle.std.proofs.Common.{◌≡◌, IfOk, ◌∙◌, ap, subst}
use Rattle.zy_parts.specs.declared.reports.Told.{Told}
use Rattle.zy_change.specs.declared.owed.Owed.{Owed}
use Rattle.zy_change.specs.Owing.{hate_owes}
use Rattle.zy_change.specs.Views.{Views}
use Rattle.zy_change.specs.Fit.{IsFit, IsTrueReport}
use Rattle.zy_replica_views.specs.Follows.{IsHateOwed}
use Rattle.zy_replica.specs.Judging.{CanAll, LeavesToEnter}
use Rattle.zy_replica.proofs.EnterLemmas.{hate_can, hate_leaves}
use Rattle.zy_replica.proofs.JudgedLemmas.{owed_for_all, owed_so}
use Rattle.zy_replica.proofs.hates.owed_by_hate.Goals as goal

pub returns-clause-owed : goal.returns-clause-owed
returns-clause-owed g c =
    owed_for_all _ c.hate-owed.result
    (λ pens.
    subst (λ (x : Owed). IfOk c.hate-owed.result (λ (o : Owed). o ≡ x))
    (ap (λ (v : Views). hate_owes v c.args.vote.now c.in_ok-told.told pens) c.views-2.ensures.views
    ∙ ap (λ (t : Told). hate_owes c.args.core.now.views c.args.vote.now t pens) c.in_ok-told.ensures.report)
    (c.hate-owed.ensures.owed pens))

pub returns-clause-enters : goal.returns-clause-enters
returns-clause-enters g c =
    let s = c.args.core.now in
    let true_report = subst (IsTrueReport s.views) c.in_ok-told.ensures.report c.in_ok-told.ensures.keeps_rules in
    let fit = subst IsFit c.views.ensures.views c.view-view.ensures.fit in
    owed_so (IsHateOwed s c.args.vote.now) (CanAll s) c.hate-owed.result (λ owed is. hate_can s fit true_report c.args.vote.now owed is) (returns-clause-owed g c)

pub returns-clause-leaves : goal.returns-clause-leaves
returns-clause-leaves g c =
    let s = c.args.core.now in
    let true_report = subst (IsTrueReport s.views) c.in_ok-told.ensures.report c.in_ok-told.ensures.keeps_rules in
    let fit = subst IsFit c.views.ensures.views c.view-view.ensures.fit in
    owed_so (IsHateOwed s c.args.vote.now) (LeavesToEnter s) c.hate-owed.result (λ owed is. hate_leaves s fit true_report c.args.vote.now owed is) (returns-clause-owed g c)
