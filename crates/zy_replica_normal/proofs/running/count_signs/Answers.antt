use Rattle.std.proofs.Common.{Option, ◌∙◌, ap, subst, sym}
use Rattle.zy_base.specs.declared.ids.Digest.{Digest}
use Rattle.zy_parts.specs.declared.statements.Spec.{Spec}
use Rattle.zy_exec.specs.Kept.{Kept, longer}
use Rattle.zy_admit.specs.Judging.{entry_of}
use Rattle.zy_table.specs.State.{State}
use Rattle.zy_table.specs.Gathering.{state_in, signs_with}
use Rattle.zy_change.specs.Fit.{IsTrueReport}
use Rattle.zy_table.specs.Leaving.{report_of}
use Rattle.zy_table.proofs.ReportLemmas.{unrun-true}
use Rattle.zy_replica_normal.proofs.SignLemmas.{signs_counted, signs_longer}
use Rattle.zy_replica_normal.proofs.running.count_signs.Goals as goal

pub unrun-requires : goal.unrun-requires
unrun-requires g c k e is =
    let same = sym (ap (λ (s : State g.row.M-State.Denot). s.kept) c.in_ok-core.ensures.core) in
    subst (λ (s : State g.row.M-State.Denot). IsTrueReport s.views (report_of (record s { kept = k }))) (sym c.in_ok-core.ensures.core)
    (unrun-true c.args.core (entry_of c.args.ask.now) c.view-own_view.ensures.ready.report k e (same ∙ is))

pub returns-clause-signs : goal.returns-clause-signs
returns-clause-signs g c =
    let R = g.M.Machine.rules in
    let spec = c.spec_of-spec.result in
    let state = c.snapshot_digest_at-state.ensures ∙ ap (λ (k : Kept g.row.M-State.Denot). state_in R k spec.place.0) c.exec.ensures in
    c.signs_with-signs.ensures
    ∙ signs_counted R c.args.core c.in_ok-core.core c.args.ask.now c.view-own_view.result.0 c.in_ok-core.known spec c.snapshot_digest_at-state.result
    (λ (x : Spec) (st : Option Digest). ap (λ (s : State g.row.M-State.Denot). signs_with s x st) c.in_ok-core.ensures.core ∙ signs_longer c.args.core (longer c.args.core.kept (entry_of c.args.ask.now)) x st)
    (ap (λ (s : State g.row.M-State.Denot). s.kept) c.in_ok-core.ensures.core) c.view-own_view.ensures.view c.in_ok-core.ensures.known c.spec_of-spec.ensures state
