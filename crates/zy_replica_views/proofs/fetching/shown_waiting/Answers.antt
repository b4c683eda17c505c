use Rattle.std.proofs.Common.{◌≡◌, ◌<◌, ◌%◌, ◌^◌, IfOk, None, sym, ap, ◌∙◌, subst}
use Rattle.std.specs.Prelude.{IsErrOf}
use Rattle.zy_change.specs.Fit.{IsFit}
use Rattle.zy_change.specs.Views.{Views}
use Rattle.zy_exec.specs.Showing.{point_in}
use Rattle.zy_exec.specs.declared.install_fault.InstallFault.TheVariants.{NotState}
use Rattle.zy_parts.specs.declared.reports.Told.{Told}
use Rattle.zy_replica_views.specs.Fetching.{IsShownAt}
use Rattle.zy_replica_views.proofs.StateLemmas.{awaited_told, waiting_multiple, waiting_small}
use Rattle.zy_replica_views.proofs.fetching.shown_waiting.Goals as goal

pub shown-requires-clause-multiple : goal.shown-requires-clause-multiple
shown-requires-clause-multiple g c =
    let s = c.args.core.now in
    let r = c.requires in
    let fit = subst IsFit c.views.ensures.views c.view-own.ensures.fit in
    let here = c.in-Some.ensures.waiting ∙ ap (λ (v : Views). v.waiting) c.views-2.ensures.views in
    let told = awaited_told s.views.waiting c.in-Some.waiting.now c.told_in.result.now here c.told_in.ensures r.w r.provider r.is in
    ap (λ (t : Told). t.stable_place.0 % s.kept.interval) told ∙ waiting_multiple s c.views.ensures.ready fit r.w r.is.waits r.provider r.is.given

pub shown-requires-clause-place : goal.shown-requires-clause-place
shown-requires-clause-place g c =
    let s = c.args.core.now in
    let r = c.requires in
    let fit = subst IsFit c.views.ensures.views c.view-own.ensures.fit in
    let here = c.in-Some.ensures.waiting ∙ ap (λ (v : Views). v.waiting) c.views-2.ensures.views in
    let told = awaited_told s.views.waiting c.in-Some.waiting.now c.told_in.result.now here c.told_in.ensures r.w r.provider r.is in
    subst (λ (t : Told). t.stable_place.0 < 2 ^ 62) (sym told) (waiting_small s c.views.ensures.ready fit r.w r.is.waits r.provider r.is.given)

pub returns-clause-shown : goal.returns-clause-shown
returns-clause-shown g c = λ w provider aw.
    let s = c.args.core.now in
    let here = c.in-Some.ensures.waiting ∙ ap (λ (v : Views). v.waiting) c.views-2.ensures.views in
    let told = awaited_told s.views.waiting c.in-Some.waiting.now c.told_in.result.now here c.told_in.ensures w provider aw in
    subst (λ (t : Told). IfOk c.shown.result (IsShownAt g.M.Machine.rules s.kept.interval t c.args.snapshot.now)) told c.shown.ensures.shown

pub returns-clause-not_state : goal.returns-clause-not_state
returns-clause-not_state g c = λ w provider aw.
    let s = c.args.core.now in
    let here = c.in-Some.ensures.waiting ∙ ap (λ (v : Views). v.waiting) c.views-2.ensures.views in
    let told = awaited_told s.views.waiting c.in-Some.waiting.now c.told_in.result.now here c.told_in.ensures w provider aw in
    subst (λ (t : Told). IsErrOf c.shown.result NotState → point_in g.M.Machine.rules t.stable_place t.stable_head c.args.snapshot.now ≡ None) told c.shown.ensures.not_state
