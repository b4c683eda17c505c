-- The row of a view certificate comes to what was judged.
use Rattle.std.proofs.Common.{◌≡◌, ℕ, ◌+◌, ◌≤◌, Bool, true, false, if◌then◌else◌, All, Option, Some, None, Result, Ok, Err, refl, sym, ap, ◌∙◌, subst, arith}
use Rattle.std.specs.Prelude.{IfSome, IsSome, slice_get}
use Rattle.std.specs.Option.{ForSome}
use Rattle.std.proofs.lemmas.Option.{same_Some}
use Rattle.zy_base.specs.Machine.{Rules}
use Rattle.zy_base.specs.declared.cause.Cause.{Cause}
use Rattle.zy_base.specs.declared.cause.Cause.TheVariants as causes
use Rattle.zy_base.specs.declared.ids.Digest.{Digest}
use Rattle.zy_base.specs.declared.ids.Place.{Place}
use Rattle.zy_base.specs.declared.ids.View.{View}
use Rattle.zy_base.specs.declared.step.Answer.TheVariants.{Taken, Refused}
use Rattle.zy_parts.specs.Reports.{IsNewInRange}
use Rattle.zy_parts.specs.Signing.{IsSignedInRange}
use Rattle.zy_parts.specs.declared.signed.Signed.{Signed}
use Rattle.zy_parts.specs.declared.reports.Change.{Change}
use Rattle.zy_parts.specs.declared.reports.Told.{Told}
use Rattle.zy_vframes.specs.declared.frame.ViewCert.{ViewCert}
use Rattle.zy_cert.specs.Certificates.{certified}
use Rattle.zy_cert.specs.Equal.{same_began}
use Rattle.zy_cert.specs.Points.{point_of_began}
use Rattle.zy_evidence.specs.Reading.{IsReplica}
use Rattle.zy_evidence.specs.Rules.{is_certified_at}
use Rattle.zy_change.specs.declared.kept.Accepted.{Accepted}
use Rattle.zy_change.specs.declared.kept.Chosen.{Chosen}
use Rattle.zy_change.specs.declared.owed.Adoption.{Adoption}
use Rattle.zy_change.specs.declared.owed.Owed.{Owed}
use Rattle.zy_change.proofs.AcceptedLemmas.{accepted_provider}
use Rattle.zy_change.specs.Fit.{IsAccepted}
use Rattle.zy_change.specs.Owing.{adoption_by, nothing, provider_in, refused as refused_owed}
use Rattle.zy_change.proofs.JudgingLemmas.{accepted}
use Rattle.zy_change.specs.Confirming.{cert_compared, cert_judged, is_over, view_cert_owes}
use Rattle.zy_change.specs.Judging.{chosen_in}
use Rattle.zy_table.specs.State.{State, signs_left, own_view}
use Rattle.zy_table.specs.Deeds.{Outcome, begin, refused}
use Rattle.zy_table.specs.Adopting.{verdict_of}
use Rattle.zy_table.specs.Leaving.{goes}
use Rattle.zy_table.specs.Beginning.{adopt, finished}
use Rattle.zy_table.specs.Confirming.{view_certificate}
use Rattle.zy_replica_state.specs.Ready.{IsReady}
use Rattle.zy_replica_views.proofs.FollowLemmas.{for_none, for_some, none_spent}
use Rattle.zy_replica_views.specs.Follows.{IsSigner}
use Rattle.zy_replica_views.specs.Ending.{IsCertOwed, finished_by, outcome_of}
use Rattle.zy_replica_views.specs.Signing.{signs_by}
use Rattle.zy_replica_views.proofs.ConfirmLemmas.{certificate_ends, certificate_rests}
use Rattle.zy_replica_views.specs.declared.judging.Ending.{Ending}
use Rattle.zy_replica_views.specs.Entering.{CanEnter, ending_as, ending_of, is_waiting, view_after}
use Rattle.zy_replica_views.proofs.CarriedLemmas.{takes_up}
use Rattle.zy_replica_views.proofs.EndLemmas.{IsEnd, ending_if, ends_adopts, ends_refused, verdict_if}
use Rattle.zy_replica_views.proofs.EntryLemmas.{given_enters, not_over}

-- what is adopted by a certificate
record IsByCert {S : Type 0} (s : State S) (cert : ViewCert) (a : Adoption) : Type 0 where
  pub enters : CanEnter s None a
  pub view : cert.new.stmt.view ≡ a.view
  pub provider : Signed Change
  pub given : slice_get cert.new.stmt.changes a.chosen.provider ≡ Some provider
  pub told : provider.stmt.told ≡ a.told

-- and what else it owes
record IsCertStep {S : Type 0} (s : State S) (cert : ViewCert) (owed : Owed) : Type 0 where
  pub signs : owed.signs ≡ 0
  pub leave : owed.leave ≡ None
  pub adopts : ForSome owed.adopt (IsByCert s cert)
  pub refuses : owed.adopt ≡ None → (cause : Cause) × (owed.answer ≡ Refused cause)

module _ {S : Type 0} (s : State S) (cert : ViewCert) (signers : All (λ c. IsReplica c.by) cert.new.stmt.changes) (range : IsSignedInRange IsNewInRange cert.new) where
  abbrev Owes : Owed → Type 0
  Owes = IsCertStep s cert

  none_owed : (cause : Cause) → Owes (refused_owed cause)
  none_owed cause = record { signs = refl; leave = refl; adopts = for_none _; refuses = λ none. (cause, refl) }

  module _ (up : own_view s ≤ cert.new.stmt.view.0) (chosen : Chosen) (is : chosen_in s.views.counts s.views.interval cert.new.stmt ≡ Ok chosen) where
    abbrev a : Accepted
    a = record { new = cert.new; chosen = chosen }

    accepts : IsAccepted s.views.counts s.views.interval a
    accepts = accepted s.views.counts s.views.interval cert.new chosen signers range is

    provided : (o : Option (Signed Change)) → provider_in a ≡ o → Owes (record nothing { adopt = adoption_by a o })
    provided None none = let (c, there, head) = accepted_provider s.views.counts s.views.interval a accepts in let clash = sym none ∙ there in absurd cc
    provided (Some c) there =
        record {
          signs = refl;
          leave = refl;
          adopts = for_some _ _ (record { enters = given_enters s None a accepts up c there; view = refl; provider = c; given = there; told = refl });
          refuses = λ none. absurd cc;
        }

    compared : (found : Result (View × Place × Digest) Cause) → Owes (cert_compared found cert chosen)
    compared (Err cause) = none_owed cause
    compared (Ok point) = by (is_certified_at (cert.new.stmt.view, chosen.place, chosen.head) (Ok point))
      where
        by : (b : Bool) → Owes (if b then record nothing { adopt = adoption_by a (provider_in a) } else refused_owed causes.Unmatched)
        by true = provided (provider_in a) refl
        by false = none_owed causes.Unmatched

  judged : own_view s ≤ cert.new.stmt.view.0 → (chosen : Result Chosen Cause) → chosen_in s.views.counts s.views.interval cert.new.stmt ≡ chosen → Owes (cert_judged chosen s.views cert)
  judged up (Err cause) is = none_owed cause
  judged up (Ok chosen) is = compared up chosen is (certified same_began point_of_began s.views.counts.cert cert.begans)

  all_owed : Owes (view_cert_owes s.views cert)
  all_owed = by (is_over s.views cert.new.stmt.view.0) refl
    where
      by : (over : Bool) → is_over s.views cert.new.stmt.view.0 ≡ over → Owes (if over then refused_owed causes.OldView else cert_judged (chosen_in s.views.counts s.views.interval cert.new.stmt) s.views cert)
      by true over = none_owed causes.OldView
      by false over = judged (not_over s.views cert.new.stmt.view.0 over) (chosen_in s.views.counts s.views.interval cert.new.stmt) refl

-- what holds of each choice that is told holds of the one that is taken out
pub chosen_all : (o : Option Adoption) (Q : Chosen → Type 0) (chosen : Chosen) → IsSome o → IfSome o (λ a. Q a.chosen) → ((a : Adoption) → o ≡ Some a → chosen ≡ a.chosen) → Q chosen
chosen_all None Q chosen some holds is = absurd cc
chosen_all (Some a) Q chosen some holds is = subst Q (sym (is a refl)) holds

-- ---- the row

waits_then : (waits : Bool) (e : Ending) → e ≡ ending_if waits → is_waiting e ≡ waits
waits_then true e is = ap is_waiting is
waits_then false e is = ap is_waiting is

module _ {S : Type 0} (R : Rules S) (s : State S) (cert : ViewCert) (owed : Owed) (is : IsCertOwed s cert owed) (signers : All (λ c. IsReplica c.by) cert.new.stmt.changes) (range : IsSignedInRange IsNewInRange cert.new) where
  step : IsCertStep s cert owed
  step = subst (IsCertStep s cert) (sym is) (all_owed s cert signers range)

  pub cert_enters : ForSome owed.adopt (CanEnter s owed.leave)
  cert_enters = λ a some. subst (λ (leave : Option View). CanEnter s leave a) (sym step.leave) (step.adopts a some).enters

  cert_end : IsEnd s 0 owed (begin s)
  cert_end = record { far = record { sealer = none_spent s.sealer; kept = refl; stable = refl }; fetches = refl; view = ap (view_after s) (sym step.leave); enters = cert_enters }

  no_more : ending_of R s 0 owed ≡ ending_as R s 0 owed owed.answer
  no_more = let e : 0 + owed.signs ≡ 0 = let none = step.signs in omega (arith, none) in ap (λ (n : ℕ). ending_as R s n owed owed.answer) e

  -- it adopts, where it isn't refused
  pub cert_adopts : (e : Ending) → ending_of R s 0 owed ≡ Ok e → IsSome owed.adopt
  cert_adopts e same = by owed.adopt refl
    where
      by : (o : Option Adoption) → owed.adopt ≡ o → IsSome o
      by None none = let (cause, answer) = step.refuses none in let clash = sym (no_more ∙ ap (ending_as R s 0 owed) answer) ∙ same in absurd cc
      by (Some a) some = refl

  module _ (ready : IsReady s) (signer : IsSigner s) where
    cert_row : (a : Adoption) → owed.adopt ≡ Some a → finished R s (view_certificate R s cert) ≡ finished_by R s 0 owed (begin s) (adopt R cert a.chosen (begin s))
    cert_row a some = certificate_ends R s cert owed a signer is some (takes_up R s ready owed.leave a (cert_enters a some))

    pub cert_refused : (cause : Cause) → ending_of R s 0 owed ≡ Err cause → finished R s (view_certificate R s cert) ≡ refused cause s
    cert_refused cause same = by owed.adopt refl
      where
        by : (o : Option Adoption) → owed.adopt ≡ o → finished R s (view_certificate R s cert) ≡ refused cause s
        by None none = certificate_rests R s cert owed signer is none ∙ ends_refused R s 0 owed (begin s) cert_end (goes Taken (begin s)) cause (sym no_more ∙ same)
        by (Some a) some = cert_row a some ∙ ends_refused R s 0 owed (begin s) cert_end (adopt R cert a.chosen (begin s)) cause (sym no_more ∙ same)

    module _ (chosen : Chosen) (is_chosen : (a : Adoption) → owed.adopt ≡ Some a → chosen ≡ a.chosen) (e : Ending) (same : ending_of R s 0 owed ≡ Ok e) where
      pub record Does : Type 0 where
        pub judged : (provider : Signed Change) → slice_get cert.new.stmt.changes chosen.provider ≡ Some provider → verdict_of R s.kept s.board.stable provider.stmt.told chosen.place chosen.head ≡ verdict_if (is_waiting e)
        pub left : (provider : Signed Change) → slice_get cert.new.stmt.changes chosen.provider ≡ Some provider → signs_by s cert.new.stmt.view provider.stmt.told chosen.place (is_waiting e) ≤ signs_left s
        pub later : own_view s ≤ cert.new.stmt.view.0
        pub comes : (m : Outcome S) → adopt R cert chosen (begin s) ≡ goes m.answer (record { state = m.state; deeds = m.deeds }) → m ≡ finished R s (view_certificate R s cert)

      does_by : (o : Option Adoption) → owed.adopt ≡ o → IsSome o → Does
      does_by None none some = absurd cc
      does_by (Some a) some there =
          let by = step.adopts a some in
          let here : chosen ≡ a.chosen = is_chosen a some in
          let does = ends_adopts R s 0 owed (begin s) cert_end (adopt R cert a.chosen (begin s)) a some e (sym no_more ∙ same) in
          let waits : does.waits ≡ is_waiting e = sym (waits_then does.waits e does.ends_so) in
          record {
            judged = λ provider given.
                let one : by.provider ≡ provider = same_Some by.provider provider (sym by.given ∙ ap (λ (c : Chosen). slice_get cert.new.stmt.changes c.provider) (sym here) ∙ given) in
                ap (λ (c : Chosen). verdict_of R s.kept s.board.stable provider.stmt.told c.place c.head) here
                ∙ ap (λ (p : Signed Change). verdict_of R s.kept s.board.stable p.stmt.told a.chosen.place a.chosen.head) (sym one)
                ∙ ap (λ (t : Told). verdict_of R s.kept s.board.stable t a.chosen.place a.chosen.head) by.told
                ∙ does.judged ∙ ap verdict_if waits;
            left = λ provider given.
                let one : by.provider ≡ provider = same_Some by.provider provider (sym by.given ∙ ap (λ (c : Chosen). slice_get cert.new.stmt.changes c.provider) (sym here) ∙ given) in
                let counts : signs_by s cert.new.stmt.view provider.stmt.told chosen.place (is_waiting e) ≡ signs_by s a.view a.told a.chosen.place does.waits =
                ap (λ (c : Chosen). signs_by s cert.new.stmt.view provider.stmt.told c.place (is_waiting e)) here
                ∙ ap (λ (p : Signed Change). signs_by s cert.new.stmt.view p.stmt.told a.chosen.place (is_waiting e)) (sym one)
                ∙ ap (λ (t : Told). signs_by s cert.new.stmt.view t a.chosen.place (is_waiting e)) by.told
                ∙ ap (λ (v : View). signs_by s v a.told a.chosen.place (is_waiting e)) by.view
                ∙ ap (signs_by s a.view a.told a.chosen.place) (sym waits) in
                let few = does.enough in
                omega (arith, counts, few);
            later = let later = by.enters.later in let view : cert.new.stmt.view.0 ≡ a.view.0 = ap (λ (v : View). v.0) by.view in omega (arith, later, view);
            comes = λ m adopted.
                let there : adopt R cert a.chosen (begin s) ≡ goes m.answer (record { state = m.state; deeds = m.deeds }) = ap (λ (c : Chosen). adopt R cert c (begin s)) (sym here) ∙ adopted in
                sym (cert_row a some ∙ does.comes ∙ ap (outcome_of s) there);
          }

      pub cert_does : Does
      cert_does = does_by owed.adopt refl (cert_adopts e same)
