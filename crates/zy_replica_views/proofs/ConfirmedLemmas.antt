-- The rows of another's confirmation and of a new view come to what was judged.
use Rattle.std.proofs.Common.{◌≡◌, ℕ, ◌+◌, Option, Ok, Err, refl, sym, ap, ◌∙◌, subst, arith}
use Rattle.std.specs.Option.{ForSome}
use Rattle.zy_base.specs.Machine.{Rules}
use Rattle.zy_base.specs.declared.cause.Cause.{Cause}
use Rattle.zy_base.specs.declared.ids.View.{View}
use Rattle.zy_base.specs.declared.step.Answer.TheVariants.{Taken}
use Rattle.zy_parts.specs.declared.signed.Signed.{Signed}
use Rattle.zy_parts.specs.declared.reports.Began.{Began}
use Rattle.zy_change.specs.Fit.{IsFit}
use Rattle.zy_change.specs.Views.{with_began}
use Rattle.zy_change.specs.declared.owed.Owed.{Owed}
use Rattle.zy_table.specs.State.{State}
use Rattle.zy_table.specs.Deeds.{Going, Outcome, begin, refused}
use Rattle.zy_table.specs.Beginning.{certify, finished}
use Rattle.zy_table.specs.Confirming.{confirmation, with_confirmation}
use Rattle.zy_replica_state.specs.Ready.{IsReady}
use Rattle.zy_replica_views.proofs.FollowLemmas.{none_spent}
use Rattle.zy_replica_views.specs.Follows.{IsSigner}
use Rattle.zy_replica_views.specs.Ending.{IsBeganOwed, finished_by}
use Rattle.zy_replica_views.proofs.ConfirmLemmas.{confirmation_ends}
use Rattle.zy_replica_views.specs.declared.judging.Ending.{Ending}
use Rattle.zy_replica_views.specs.Entering.{CanEnd, CanEnter, EndsAs, ending_as, ending_of, view_after}
use Rattle.zy_replica_views.proofs.CarriedLemmas.{takes_up}
use Rattle.zy_replica_views.proofs.EndLemmas.{IsEnd, ends_as, ends_can, ends_refused}
use Rattle.zy_replica_views.proofs.EntryLemmas.{IsVoteOwed, vote_owes}

-- ---- another's confirmation

module _ {S : Type 0} (R : Rules S) (s : State S) (vote : Signed Began) (owed : Owed) (is : IsBeganOwed s vote owed) (fit : IsFit s.views) where
  abbrev kept : Going S
  kept = begin (with_confirmation vote s)

  owes : IsVoteOwed s (with_began vote s.views) owed
  owes = subst (IsVoteOwed s (with_began vote s.views)) (sym is) (vote_owes s fit vote)

  pub vote_enters : ForSome owed.adopt (CanEnter s owed.leave)
  vote_enters = subst (λ (leave : Option View). ForSome owed.adopt (CanEnter s leave)) (sym owes.leave) owes.enters

  vote_end : IsEnd s 0 owed kept
  vote_end =
      record {
        far = record { sealer = none_spent s.sealer; kept = refl; stable = refl };
        fetches = refl;
        view = ap (view_after s) (sym owes.leave);
        enters = vote_enters;
      }

  no_more : ending_of R s 0 owed ≡ ending_as R s 0 owed owed.answer
  no_more = let e : 0 + owed.signs ≡ 0 = let none = owes.signs in omega (arith, none) in ap (λ (n : ℕ). ending_as R s n owed owed.answer) e

  module _ (ready : IsReady s) (signer : IsSigner s) where
    vote_row : finished R s (confirmation R s vote) ≡ finished_by R s 0 owed kept (certify R Taken kept)
    vote_row = confirmation_ends R s vote owed signer is (λ a some. takes_up R s ready owed.leave a (vote_enters a some))

    pub vote_refused : (cause : Cause) → ending_of R s 0 owed ≡ Err cause → finished R s (confirmation R s vote) ≡ refused cause s
    vote_refused cause same = vote_row ∙ ends_refused R s 0 owed kept vote_end (certify R Taken kept) cause (sym no_more ∙ same)

    pub vote_can : (e : Ending) → ending_of R s 0 owed ≡ Ok e → CanEnd R e kept
    vote_can e same = ends_can R s 0 owed kept vote_end owes.entry e (sym no_more ∙ same)

    pub vote_ends : (e : Ending) → ending_of R s 0 owed ≡ Ok e → (m : Outcome S) → EndsAs R owed.answer e kept m → m ≡ finished R s (confirmation R s vote)
    vote_ends e same m does = ends_as R s 0 owed kept vote_end owes.entry e (sym no_more ∙ same) m does ∙ sym vote_row
