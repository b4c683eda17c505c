use Rattle.std.proofs.Common.{◌≡◌, Some, ap, subst, arith}
use Rattle.std.proofs.lemmas.Grind.{common_steps}
use Rattle.zy_change.proofs.AcceptedLemmas.{certified_from}
use Rattle.zy_change.specs.Fit.{IsFit}
use Rattle.zy_change.specs.Views.{certificate}
use Rattle.zy_replica_state.specs.Ready.{IsReady}
use Rattle.zy_table.specs.State.{State}
use Rattle.zy_replica_state.proofs.ReadyLemmas.{certificate_sends}
use Rattle.zy_replica_state.proofs.state.Core.certified.Goals as goal

pub returns-clause-certified : goal.returns-clause-certified
returns-clause-certified g c =
    let s = c.args.self.now in
    let cert = c.in_ok-certified-in-Some.field-0 in
    let chosen = c.in-Some.accepted.now.chosen in
    let fit = subst IsFit (ap (λ (x : State g.row.M-State.Denot). x.views) c.self.view_is) c.view-own.ensures.fit in
    let kept : s.views.accepted ≡ Some (record { new = cert.new; chosen = chosen }) = grind (arith, common_steps) in
    let is : certificate s.views ≡ Some cert = grind (arith, common_steps) in
    certified_from s.views cert chosen fit kept is

pub returns-clause-sends : goal.returns-clause-sends
returns-clause-sends g c =
    let s = c.args.self.now in
    let cert = c.in_ok-certified-in-Some.field-0 in
    let chosen = c.in-Some.accepted.now.chosen in
    let ready = subst IsReady c.self.view_is c.self.invariant in
    let fit = subst IsFit (ap (λ (x : State g.row.M-State.Denot). x.views) c.self.view_is) c.view-own.ensures.fit in
    let kept : s.views.accepted ≡ Some (record { new = cert.new; chosen = chosen }) = grind (arith, common_steps) in
    let is : certificate s.views ≡ Some cert = grind (arith, common_steps) in
    certificate_sends s ready cert chosen kept (certified_from s.views cert chosen fit kept is)
