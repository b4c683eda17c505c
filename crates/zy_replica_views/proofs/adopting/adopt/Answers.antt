use Rattle.std.proofs.Common.{◌≡◌, ℕ, ◌≤◌, Bool, if◌then◌else◌, length, sym, ap, ◌∙◌, subst, arith}
use Rattle.zy_base.specs.declared.step.Answer.TheVariants.{Taken, Held}
use Rattle.zy_change.proofs.AcceptedLemmas.{accepted_provider}
use Rattle.zy_change.specs.Fit.{IsFit}
use Rattle.zy_table.specs.declared.deeds.Verdict.TheVariants.{Take, Wait}
use Rattle.zy_table.specs.State.{signs_left}
use Rattle.zy_table.specs.Deeds.{Going, Outcome}
use Rattle.zy_table.specs.Adopting.{checkpoints_between, verdict_of}
use Rattle.zy_table.specs.Leaving.{goes}
use Rattle.zy_replica_state.specs.Ready.{IsReady}
use Rattle.zy_replica_views.specs.Signing.{signs_by}
use Rattle.zy_replica_views.proofs.SignLemmas.{begun_stable}
use Rattle.zy_replica_views.proofs.AdoptingLemmas.{adopts_as, can_take, waits_above}
use Rattle.zy_replica_views.proofs.adopting.adopt.Goals as goal

pub wait_for-requires-clause-ready : goal.wait_for-requires-clause-ready
wait_for-requires-clause-ready g c =
    let s = c.args.progress.state in
    record {
      sends = c.requires.sends;
      proven = λ p there.
          let wait = subst (λ (b : Bool). verdict_of g.M.Machine.rules s.kept s.board.stable p.stmt.told c.args.chosen.place c.args.chosen.head ≡ (if b then Wait else Take)) c.if-waits.true (c.requires.judged p there) in
          let above = waits_above g.M.Machine.rules s.kept s.board.stable p.stmt.told c.args.chosen.place c.args.chosen.head wait in
          omega (arith, above);
    }

pub wait_for-requires-clause-left : goal.wait_for-requires-clause-left
wait_for-requires-clause-left g c = λ p there.
    let s = c.args.progress.state in
    subst (λ (b : Bool). signs_by s c.args.cert.new.stmt.view p.stmt.told c.args.chosen.place b ≤ signs_left s) c.if-waits.true (c.requires.left p there)

pub take_up-requires-clause-takes : goal.take_up-requires-clause-takes
take_up-requires-clause-takes g c = λ p there.
    let s = c.args.progress.state in
    subst (λ (b : Bool). verdict_of g.M.Machine.rules s.kept s.board.stable p.stmt.told c.args.chosen.place c.args.chosen.head ≡ (if b then Wait else Take)) c.if-waits.false (c.requires.judged p there)

pub take_up-requires-clause-left : goal.take_up-requires-clause-left
take_up-requires-clause-left g c = λ p there.
    let R = g.M.Machine.rules in
    let s = c.args.progress.state in
    let takes = subst (λ (b : Bool). verdict_of R s.kept s.board.stable p.stmt.told c.args.chosen.place c.args.chosen.head ≡ (if b then Wait else Take)) c.if-waits.false (c.requires.judged p there) in
    let before : Going g.row.M-State.Denot = record { state = c.progress.inside.core; deeds = c.progress.inside.deeds } in
    let same : before ≡ c.args.progress = c.progress.view_is in
    let ready = subst (λ (x : Going g.row.M-State.Denot). IsReady x.state) same c.view_of-own.ensures.ready in
    let fit = subst (λ (x : Going g.row.M-State.Denot). IsFit x.state.views) same c.view_of-own.ensures.fit in
    let can = can_take R s ready fit c.args.cert c.args.chosen c.requires.certified c.requires.later p there takes in
    let signs = subst (λ (b : Bool). signs_by s c.args.cert.new.stmt.view p.stmt.told c.args.chosen.place b ≤ signs_left s) c.if-waits.false (c.requires.left p there) in
    subst (λ (stable : ℕ). length (checkpoints_between s.kept.interval stable c.args.chosen.place.0) ≤ signs_left s) (sym (begun_stable R c.args.progress c.args.cert c.args.chosen p.stmt.told can)) signs

pub returns-in_ok-wait_for : goal.returns-in_ok-wait_for
returns-in_ok-wait_for g c =
    let R = g.M.Machine.rules in
    let s = c.args.progress.state in
    let (p, there, head) = accepted_provider s.views.counts s.views.interval (record { new = c.args.cert.new; chosen = c.args.chosen }) c.requires.certified.accepted in
    let wait = subst (λ (b : Bool). verdict_of R s.kept s.board.stable p.stmt.told c.args.chosen.place c.args.chosen.head ≡ (if b then Wait else Take)) c.if-waits.true (c.requires.judged p there) in
    adopts_as R c.args.cert c.args.chosen p there c.args.progress Wait wait
    ∙ ap (goes Held) (sym (c.in_ok-wait_for.ensures p there))
    ∙ ap (λ (m : Outcome g.row.M-State.Denot). goes m.answer (record { state = m.state; deeds = m.deeds })) (sym c.ends.ensures)

pub returns-in_ok-take_up : goal.returns-in_ok-take_up
returns-in_ok-take_up g c =
    let R = g.M.Machine.rules in
    let s = c.args.progress.state in
    let (p, there, head) = accepted_provider s.views.counts s.views.interval (record { new = c.args.cert.new; chosen = c.args.chosen }) c.requires.certified.accepted in
    let takes = subst (λ (b : Bool). verdict_of R s.kept s.board.stable p.stmt.told c.args.chosen.place c.args.chosen.head ≡ (if b then Wait else Take)) c.if-waits.false (c.requires.judged p there) in
    adopts_as R c.args.cert c.args.chosen p there c.args.progress Take takes
    ∙ ap (goes Taken) (sym (c.in_ok-take_up.ensures p there))
    ∙ ap (λ (m : Outcome g.row.M-State.Denot). goes m.answer (record { state = m.state; deeds = m.deeds })) (sym c.ends-else-waits.ensures)
