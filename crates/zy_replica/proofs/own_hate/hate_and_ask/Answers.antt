use Rattle.std.proofs.Common.{◌≡◌, ◌≤◌, ◌+◌, IfOk, refl, ap, sym, ◌∙◌, subst, arith}
use Rattle.zy_table.specs.State.{State}
use Rattle.zy_table.specs.Deeds.{Going, Outcome, refused}
use Rattle.zy_table.specs.Hates.{hate_from, own_hate}
use Rattle.zy_replica_views.specs.Entering.{ending_of}
use Rattle.zy_replica_views.proofs.StepLemmas.{signs_within, step_refused}
use Rattle.zy_replica.specs.Judging.{CanAll, LeavesToEnter, IsOwnOwed, signs_of}
use Rattle.zy_replica.proofs.StepsLemmas.{counted, own_judged}
use Rattle.zy_replica.proofs.TimerLemmas.{own_asked, own_refused}
use Rattle.zy_replica.proofs.own_hate.hate_and_ask.Goals.{in-None, in-Some}
use Rattle.zy_replica.proofs.own_hate.hate_and_ask.Goals as goal

pub judge_owed-requires : goal.judge_owed-requires
judge_owed-requires g c = c.in_ok-own.ensures.enters

pub carry_own-requires-clause-left : goal.carry_own-requires-clause-left
carry_own-requires-clause-left g c =
    let R = g.M.Machine.rules in
    let p = c.args.progress in
    let more = c.match-own_hate.signs in
    let owed = c.in_ok-own.owed in
    let same : c.progress.inside.core ≡ p.state = ap (λ (x : Going g.row.M-State.Denot). x.state) c.progress.view_is in
    let is : more ≡ signs_of (own_hate c.progress.inside.core) =
    elim c.match-own_hate.branch [
      | in-None w ↦ (w.signs-is ∙ ap signs_of w.in-None.ensures.said)
      | in-Some w ↦ (w.signs-is ∙ ap signs_of w.in-Some.ensures.said)
    ] in
    let ends = ap (λ (s : State g.row.M-State.Denot). ending_of R s more owed) (sym same) ∙ sym c.in_ok-ending.ensures.ending ∙ c.in-Ok.is in
    let enough = signs_within R p.state (more + owed.signs) owed c.in-Ok.ending ends in
    let one = is ∙ ap (λ (s : State g.row.M-State.Denot). signs_of (own_hate s)) same in
    omega (arith, enough, one)

pub carry_own-requires-clause-judged : goal.carry_own-requires-clause-judged
carry_own-requires-clause-judged g c =
    let R = g.M.Machine.rules in
    let p = c.args.progress in
    let more = c.match-own_hate.signs in
    let owed = c.in_ok-own.owed in
    let same : c.progress.inside.core ≡ p.state = ap (λ (x : Going g.row.M-State.Denot). x.state) c.progress.view_is in
    let is : more ≡ signs_of (own_hate c.progress.inside.core) =
    elim c.match-own_hate.branch [
      | in-None w ↦ (w.signs-is ∙ ap signs_of w.in-None.ensures.said)
      | in-Some w ↦ (w.signs-is ∙ ap signs_of w.in-Some.ensures.said)
    ] in
    let step = own_judged R p owed c.requires c.progress.inside.core same more is c.judge_owed.ensures.signer c.judge_owed.ensures.ready c.in_ok-own.ensures.owed c.in_ok-own.ensures.enters in
    let ends = ap (λ (s : State g.row.M-State.Denot). ending_of R s more owed) (sym same) ∙ sym c.in_ok-ending.ensures.ending ∙ c.in-Ok.is in
    record { before = p.state; more = more; attempt = hate_from R p; step = step; ends = ends }

pub returns-in-Ok : goal.returns-in-Ok
returns-in-Ok g c =
    let R = g.M.Machine.rules in
    let p = c.args.progress in
    let more = c.match-own_hate.signs in
    let owed = c.in_ok-own.owed in
    let same : c.progress.inside.core ≡ p.state = ap (λ (x : Going g.row.M-State.Denot). x.state) c.progress.view_is in
    let is : more ≡ signs_of (own_hate c.progress.inside.core) =
    elim c.match-own_hate.branch [
      | in-None w ↦ (w.signs-is ∙ ap signs_of w.in-None.ensures.said)
      | in-Some w ↦ (w.signs-is ∙ ap signs_of w.in-Some.ensures.said)
    ] in
    let step = own_judged R p owed c.requires c.progress.inside.core same more is c.judge_owed.ensures.signer c.judge_owed.ensures.ready c.in_ok-own.ensures.owed c.in_ok-own.ensures.enters in
    let ends = ap (λ (s : State g.row.M-State.Denot). ending_of R s more owed) (sym same) ∙ sym c.in_ok-ending.ensures.ending ∙ c.in-Ok.is in
    let leaves = subst (λ (s : State g.row.M-State.Denot). LeavesToEnter s owed) same c.in_ok-own.ensures.leaves in
    let owes = subst (λ (s : State g.row.M-State.Denot). IsOwnOwed s owed) same c.in_ok-own.ensures.owed in
    subst (λ (o : Outcome g.row.M-State.Denot). IfOk c.carry_own.result (λ (m : Outcome g.row.M-State.Denot). m ≡ o))
    (own_asked R p c.requires (own_hate p.state) refl more owed step leaves owes c.in-Ok.ending ends) (c.carry_own.ensures p.state more (hate_from R p) step ends)

pub returns-in-Err : goal.returns-in-Err
returns-in-Err g c =
    let R = g.M.Machine.rules in
    let p = c.args.progress in
    let more = c.match-own_hate.signs in
    let owed = c.in_ok-own.owed in
    let same : c.progress.inside.core ≡ p.state = ap (λ (x : Going g.row.M-State.Denot). x.state) c.progress.view_is in
    let is : more ≡ signs_of (own_hate c.progress.inside.core) =
    elim c.match-own_hate.branch [
      | in-None w ↦ (w.signs-is ∙ ap signs_of w.in-None.ensures.said)
      | in-Some w ↦ (w.signs-is ∙ ap signs_of w.in-Some.ensures.said)
    ] in
    let step = own_judged R p owed c.requires c.progress.inside.core same more is c.judge_owed.ensures.signer c.judge_owed.ensures.ready c.in_ok-own.ensures.owed c.in_ok-own.ensures.enters in
    let ends = ap (λ (s : State g.row.M-State.Denot). ending_of R s more owed) (sym same) ∙ sym c.in_ok-ending.ensures.ending ∙ c.in-Err.is in
    let leaves = subst (λ (s : State g.row.M-State.Denot). LeavesToEnter s owed) same c.in_ok-own.ensures.leaves in
    let refuses = step_refused R p.state more (hate_from R p) owed (counted R p (own_hate p.state)) step c.in-Err.cause ends in
    c.refused.ensures ∙ ap (refused c.in-Err.cause) same ∙ sym (own_refused R p c.requires (own_hate p.state) refl more owed step leaves c.in-Err.cause refuses)
