-- The end of each row: what is confirmed enough is adopted, and then the leaves are judged.
use Rattle.std.proofs.Common.{◌≡◌, ◌⊎◌, inl, inr, ℕ, ◌<◌, ◌≤◌, Bool, true, false, cond, List, Option, Some, None, Ok, Err, refl, sym, ap, ◌∙◌, subst, arith}
use Rattle.std.specs.List.{list_any}
use Rattle.std.specs.Prelude.{IfSome, slice_get}
use Rattle.zy_base.specs.Machine.{Rules}
use Rattle.zy_base.specs.Step.{view_of}
use Rattle.zy_base.specs.declared.cause.Cause.{Cause}
use Rattle.zy_base.specs.declared.cause.Cause.TheVariants as causes
use Rattle.zy_base.specs.declared.step.Answer.{Answer}
use Rattle.zy_base.specs.declared.step.Mode.{Mode}
use Rattle.zy_base.specs.declared.step.Mode.TheVariants.{Active, Leaving}
use Rattle.zy_chain.specs.declared.entry.Entry.{Entry}
use Rattle.zy_change.specs.Views.{certificate_of, own_view}
use Rattle.zy_change.specs.declared.kept.Accepted.{Accepted}
use Rattle.zy_change.specs.declared.kept.Chosen.{Chosen}
use Rattle.zy_law.specs.World.{World}
use Rattle.zy_parts.specs.declared.reports.Change.{Change}
use Rattle.zy_parts.specs.declared.reports.New.{New}
use Rattle.zy_parts.specs.declared.signed.Signed.{Signed}
use Rattle.zy_table.specs.Adopting.{verdict_of}
use Rattle.zy_table.specs.Beginning.{adopt, adopt_as, adopt_from, adopt_if, begun, certify, certify_with, confirms, finished}
use Rattle.zy_table.specs.Deeds.{Going, ends, refused}
use Rattle.zy_table.specs.Leaving.{Attempt, concluded, is_overspent}
use Rattle.zy_table.specs.State.{State}
use Rattle.zy_table.specs.declared.deeds.Verdict.{Verdict}
use Rattle.zy_table.specs.declared.deeds.Verdict.TheVariants.{Refuse, Take, Wait}
use Rattle.zy_vframes.specs.declared.frame.ViewCert.{ViewCert}
use Rattle.zy_law_views.specs.Held.{IsProvidedBy, mark_at}
use Rattle.zy_law_views.specs.Texts.{Texts}
use Rattle.zy_law_views.specs.Tied.{IsAcceptedTied, IsAhead, IsChosenNew, IsTied, IsViewCert}
use Rattle.zy_law_views.proofs.Gathered.{gathered_cert}
use Rattle.zy_law_views.proofs.Leaves.{IsLawfulAttempt, IsOnWay}
use Rattle.zy_law_views.proofs.Verdicts.{not_refused}
use Rattle.zy_law_views.specs.Adoptions.{IsDue}
use Rattle.zy_law_views.specs.Cores.{core_of}
use Rattle.zy_law_views.specs.Work.{IsAtWork}
use Rattle.zy_law_views.specs.Rows.{IsReady, blames}
use Rattle.zy_law_views.proofs.Ending.{HasBegun, IsEnd}
use Rattle.zy_law_views.proofs.Taking.{ended, kept_now, takes_up}
use Rattle.zy_law_views.proofs.Waiting.{waits_for, waits_further}
use Rattle.zy_law_views.proofs.Worlds.{matching}
use Rattle.zy_law_views.specs.Steps.{IsLawfulStep, IsWorldOf}

module _ {S : Type 0} (R : Rules S) (interval : ℕ) (texts : Texts) (w : World) (r : ℕ) (s : State S) (from : List Entry) where
  abbrev pub IsEndedAttempt : Attempt S → Type 0
  IsEndedAttempt (Ok end) = IsEnd R interval texts w r s from end.1
  IsEndedAttempt (Err cause) = blames cause ≡ false

  -- what ends well is lawful, where it isn't refused
  pub ends_lawfully : (g : Going S) (answer : Answer) → IsEnd R interval texts w r s from g → IsLawfulStep R interval texts w r s from (ends answer g)
  ends_lawfully g answer is =
      record {
        may = is.lead.may;
        tied = subst (λ (l : List Entry). IsTied R interval _ r (core_of g.state) l) (sym is.lead.history) (subst (λ (u : World). IsTied R interval u r (core_of g.state) is.now) (sym is.lead.world) is.tied);
        world = subst (λ (u : World). IsWorldOf R interval u texts) (sym is.lead.world) is.kept;
        signer = is.signer;
        interval_is = is.interval_is;
        gained = is.gained;
        works = λ work. subst (λ (u : World). IsAtWork interval u r g.state) (sym is.lead.world) (is.works work);
      }

  -- it is so where a refusal is
  pub concludes : (attempt : Attempt S) → ((cause : Cause) → IsLawfulStep R interval texts w r s from (refused cause s)) → IsEndedAttempt attempt → IsLawfulStep R interval texts w r s from (concluded s attempt)
  concludes (Err cause) refusal is = refusal cause
  concludes (Ok end) refusal is = by (is_overspent end.1.state.sealer)
    where
      by : (b : Bool) → IsLawfulStep R interval texts w r s from (cond b (refused causes.KeySpent s) (ends end.0 end.1))
      by true = refusal causes.KeySpent
      by false = ends_lawfully end.1 end.0 is

  -- in a view that has begun nothing more is certified
  pub rests : (g : Going S) → HasBegun R interval texts w r s from g → (answer : Answer) → begun R (Ok (answer, g)) ≡ Ok (answer, g)
  rests g is answer = by (list_any confirms g.deeds.acts)
    where
      never : (accepted : Option Accepted) → IfSome accepted (IsAcceptedTied interval is.end.world g.state.views.mode) → certify_with R accepted answer g ≡ Ok (answer, g)
      never None none = refl
      never (Some a) some = let clash : Active is.view ≡ Leaving a.new.stmt.view = sym is.active ∙ some.leaving in absurd cc

      by : (b : Bool) → cond b (certify R answer g) (Ok (answer, g)) ≡ Ok (answer, g)
      by true = never g.state.views.accepted is.end.tied.hearing.accepted
      by false = refl

module _ {S : Type 0} (R : Rules S) (interval : ℕ) (texts : Texts) (w : World) (r : ℕ) (s : State S) (history : List Entry) (ready : IsReady R interval w r s history) (kept : IsWorldOf R interval w texts) where
  -- it is on its way still, or a view has begun
  abbrev pub IsDone : Going S → Type 0
  IsDone g = IsOnWay R interval w r s history ready g ⊎ HasBegun R interval texts w r s history g

  abbrev pub IsDoneAttempt : Attempt S → Type 0
  IsDoneAttempt (Ok end) = IsDone end.1
  IsDoneAttempt (Err cause) = blames cause ≡ false

  -- a refusal changes nothing
  pub refuses : (cause : Cause) → IsLawfulStep R interval texts w r s history (refused cause s)
  refuses cause = record { may = tt; tied = ready.tied; world = kept; signer = ready.signer; interval_is = ready.interval_is; gained = tt; works = λ work. work }

  done_ends : (attempt : Attempt S) → IsDoneAttempt attempt → IsEndedAttempt R interval texts w r s history attempt
  done_ends (Err cause) is = is
  done_ends (Ok end) (inl way) = ended R interval texts w r s history ready kept end.1 way
  done_ends (Ok end) (inr begun) = begun.end

  module _ (g : Going S) (way : IsOnWay R interval w r s history ready g) where
    -- ---- adopt

    -- it may begin the certificate's view with what that confirms
    pub record IsDueTo (cert : ViewCert) (chosen : Chosen) : Type 0 where
      pub own : own_view g.state.views ≤ cert.new.stmt.view.0
      pub later : g.state.views.last_view.0 < cert.new.stmt.view.0
      pub new : IsChosenNew interval way.world cert.new.stmt chosen
      pub begans : IsViewCert way.world cert.new.stmt chosen cert.begans

    module _ (cert : ViewCert) (chosen : Chosen) (due : IsDueTo cert chosen) where
      due_from : (p : Signed Change) → slice_get cert.new.stmt.changes chosen.provider ≡ Some p → IsDue interval way.world g.state cert chosen p
      due_from p there = record { own = due.own; later = due.later; new = due.new; begans = due.begans; there = there }

      adopts_as : (p : Signed Change) → slice_get cert.new.stmt.changes chosen.provider ≡ Some p → (v : Verdict) → verdict_of R g.state.kept g.state.board.stable p.stmt.told chosen.place chosen.head ≡ v
          → IsDoneAttempt (adopt_as R cert chosen p.stmt.told v g)
      adopts_as p there Take is = inr (takes_up R interval texts w r s history ready kept g way cert chosen p (due_from p there) is)
      adopts_as p there Wait is =
          let past = waits_further R g.state.kept g.state.board.stable p.stmt.told chosen.place chosen.head is in
          inl (waits_for R interval w r s history ready cert chosen p g way (due_from p there) (omega arith))
      adopts_as p there (Refuse cause) is =
          let here = matching R way.world (kept_now R interval texts w r s history ready kept g way).agrees in
          let given : IsProvidedBy way.world interval cert.new.stmt (mark_at chosen.place chosen.head) p = record { proper = due.new.proper; provider = chosen.provider; chosen = due.new.choice; there = there } in
          absurd (not_refused R interval way.world way.lawful here r way.correct (core_of g.state) history way.tied cert.new.stmt chosen.place chosen.head p given due.later cause is)

      adopts_from : (p : Option (Signed Change)) → slice_get cert.new.stmt.changes chosen.provider ≡ p → IsDoneAttempt (adopt_from R cert chosen p g)
      adopts_from None there = inl way
      adopts_from (Some p) there = adopts_as p there (verdict_of R g.state.kept g.state.board.stable p.stmt.told chosen.place chosen.head) refl

      pub adopts : IsDoneAttempt (adopt R cert chosen g)
      unfolding adopt
      adopts = adopts_from (slice_get cert.new.stmt.changes chosen.provider) refl

    -- ---- certify

    -- it leaves for the view of what it accepted
    later_than : (last : ℕ) (mode : Mode) (a : Accepted) → IsAhead last mode → mode ≡ Leaving a.new.stmt.view → ((view_of mode).0 ≡ a.new.stmt.view.0) × (last < a.new.stmt.view.0)
    later_than last mode a ahead leaving = (ap (λ (m : Mode). (view_of m).0) leaving, subst (λ (m : Mode). IsAhead last m) leaving ahead)

    certifies_if : (a : Accepted) → IsAcceptedTied interval way.world g.state.views.mode a → (cert : Option ViewCert) → certificate_of g.state.views a ≡ cert → (answer : Answer)
        → IsDoneAttempt (adopt_if R cert a.chosen answer g)
    certifies_if a is None there answer = inl way
    certifies_if a is (Some cert) there answer =
        let view = later_than g.state.views.last_view.0 g.state.views.mode a way.tied.quiet.ahead is.leaving in
        let made = gathered_cert interval way.world g.state.views a cert way.tied.hearing way.tied.standing.counts there in
        let due : IsDueTo (record { new = a.new; begans = cert.begans }) a.chosen =
        record { own = omega (arith, view.0); later = view.1; new = is.new; begans = made.1 } in
        adopts cert a.chosen (subst (λ (n : Signed New). IsDueTo (record { new = n; begans = cert.begans }) a.chosen) (sym made.0) due)

    certifies_with : (accepted : Option Accepted) → IfSome accepted (IsAcceptedTied interval way.world g.state.views.mode) → (answer : Answer) → IsDoneAttempt (certify_with R accepted answer g)
    certifies_with None is answer = inl way
    certifies_with (Some a) is answer = certifies_if a is (certificate_of g.state.views a) refl answer

    pub certifies : (answer : Answer) → IsDoneAttempt (certify R answer g)
    certifies answer = certifies_with g.state.views.accepted way.tied.hearing.accepted answer

  -- ---- the end of every row

  pub begins : (attempt : Attempt S) → IsDoneAttempt attempt → IsEndedAttempt R interval texts w r s history (begun R attempt)
  begins (Err cause) is = is
  begins (Ok end) (inr begun) = subst (λ (attempt : Attempt S). IsEndedAttempt R interval texts w r s history attempt) (sym (rests R interval texts w r s history end.1 begun end.0)) begun.end
  begins (Ok end) (inl way) = by (list_any confirms end.1.deeds.acts)
    where
      by : (b : Bool) → IsEndedAttempt R interval texts w r s history (cond b (certify R end.0 end.1) (Ok end))
      by true = done_ends (certify R end.0 end.1) (certifies end.1 way end.0)
      by false = ended R interval texts w r s history ready kept end.1 way

  pub finishes : (attempt : Attempt S) → IsDoneAttempt attempt → IsLawfulStep R interval texts w r s history (finished R s attempt)
  finishes attempt is = concludes R interval texts w r s history (begun R attempt) refuses (begins attempt is)

  leaving_done : (attempt : Attempt S) → IsLawfulAttempt R interval w r s history ready attempt → IsDoneAttempt attempt
  leaving_done (Err cause) is = is
  leaving_done (Ok end) way = inl way

  -- a row in which it leaves, or keeps what it hears
  pub finishes_leaving : (attempt : Attempt S) → IsLawfulAttempt R interval w r s history ready attempt → IsLawfulStep R interval texts w r s history (finished R s attempt)
  finishes_leaving attempt is = finishes attempt (leaving_done attempt is)

  -- what refuses a row blames nobody
  pub unblamed : (attempt : Attempt S) → IsDoneAttempt attempt → (cause : Cause) → begun R attempt ≡ Err cause → blames cause ≡ false
  unblamed attempt is cause = by (begun R attempt) (begins attempt is)
    where
      by : (last : Attempt S) → IsEndedAttempt R interval texts w r s history last → last ≡ Err cause → blames cause ≡ false
      by (Err other) free same = let is_cause : other ≡ cause = cc in subst (λ (c : Cause). blames c ≡ false) is_cause free
      by (Ok end) ended same = absurd cc

  pub unblamed_leaving : (attempt : Attempt S) → IsLawfulAttempt R interval w r s history ready attempt → (cause : Cause) → begun R attempt ≡ Err cause → blames cause ≡ false
  unblamed_leaving attempt is cause = unblamed attempt (leaving_done attempt is) cause
