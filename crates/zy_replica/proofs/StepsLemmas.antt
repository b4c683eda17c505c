-- The steps of the rows in which a replica leaves its view.
use Rattle.std.proofs.Common.{◌≡◌, ◌<◌, ℕ, false, [], Option, Some, None, refl, subst, arith}
use Rattle.zy_base.specs.Machine.{Rules}
use Rattle.zy_base.specs.declared.ids.Party.TheVariants.{Replica}
use Rattle.zy_base.specs.declared.ids.ReplicaId.{ReplicaId}
use Rattle.zy_parts.specs.declared.signed.Signed.{Signed}
use Rattle.zy_parts.specs.declared.statements.Hate.{Hate}
use Rattle.zy_parts.specs.declared.statements.Order.{Order}
use Rattle.zy_parts.specs.declared.reports.Change.{Change}
use Rattle.zy_frames.specs.declared.frame.Frame.TheVariants as frames
use Rattle.zy_evidence.specs.Reading.{IsReplica}
use Rattle.zy_change.specs.declared.owed.Owed.{Owed}
use Rattle.zy_change.specs.Owing.{next_view}
use Rattle.zy_table.specs.declared.deeds.To.TheVariants.{All}
use Rattle.zy_table.specs.State.{State, own_view}
use Rattle.zy_table.specs.Deeds.{Going, begin, send}
use Rattle.zy_table.specs.Leaving.{leave}
use Rattle.zy_table.specs.Hates.{hate, hate_from, own_hate, say_hate, with_hate_of}
use Rattle.zy_table.specs.Changes.{change}
use Rattle.zy_replica_state.specs.Ready.{IsReady}
use Rattle.zy_replica_views.proofs.FollowLemmas.{change_follows, hate_follows, leave_follows, none_spent}
use Rattle.zy_replica_views.specs.Carrying.{kept_unless}
use Rattle.zy_replica_views.specs.Follows.{IsChangeOwed, IsHateOwed, IsLeaveOwed, IsSigner}
use Rattle.zy_replica_views.specs.Ending.{IsSoFar}
use Rattle.zy_replica_views.specs.Entering.{IsStep}
use Rattle.zy_replica.specs.Judging.{CanAll, IsOwnOwed, signs_of}
use Rattle.zy_replica.proofs.OwnHateLemmas.{own_follows, said_only, spends_so_far}

-- the own hate, said and counted
abbrev pub counted : {S : Type 0} → Rules S → Going S → Option (Signed Hate) → Going S
counted R g said = with_hate_of (Replica g.state.me) (say_hate R said g)

module _ {S : Type 0} (R : Rules S) (s : State S) (signer : IsSigner s) (ready : IsReady s) (owed : Owed) (can : CanAll s owed) where
  pub hate_step : (vote : Signed Hate) → IsHateOwed s vote owed → IsStep R s 0 (hate R s vote) owed (with_hate_of vote.by (begin s))
  hate_step vote is =
      record {
        signer = signer;
        ready = ready;
        so_far = record { sealer = none_spent s.sealer; kept = refl; stable = refl };
        fetches = refl;
        view = refl;
        unconfirmed = refl;
        follows = hate_follows R s vote owed signer.by is;
        enters = can;
      }

  pub leave_step : IsLeaveOwed s (next_view s.views) owed → IsStep R s 0 (leave R (next_view s.views) (begin s)) owed (begin s)
  leave_step is =
      record {
        signer = signer;
        ready = ready;
        so_far = record { sealer = none_spent s.sealer; kept = refl; stable = refl };
        fetches = refl;
        view = refl;
        unconfirmed = refl;
        follows = leave_follows R (begin s) (next_view s.views) owed signer.by (omega arith) is;
        enters = can;
      }

  -- all are told of both orders first
  pub blame_step : (kept order : Signed Order) → IsLeaveOwed s (next_view s.views) owed
      → IsStep R s 0 (leave R (next_view s.views) (send All (frames.Pom kept order) (begin s))) owed (send All (frames.Pom kept order) (begin s))
  blame_step kept order is =
      record {
        signer = signer;
        ready = ready;
        so_far = record { sealer = none_spent s.sealer; kept = refl; stable = refl };
        fetches = refl;
        view = refl;
        unconfirmed = refl;
        follows = leave_follows R (send All (frames.Pom kept order) (begin s)) (next_view s.views) owed signer.by (omega arith) is;
        enters = can;
      }

  kept_far : (send : Option ReplicaId) (vote : Signed Change) → IsSoFar s 0 (begin (kept_unless send vote s))
  kept_far None vote = record { sealer = none_spent s.sealer; kept = refl; stable = refl }
  kept_far (Some id) vote = record { sealer = none_spent s.sealer; kept = refl; stable = refl }

  kept_fetches : (send : Option ReplicaId) (vote : Signed Change) → (kept_unless send vote s).fetches ≡ s.fetches
  kept_fetches None vote = refl
  kept_fetches (Some id) vote = refl

  kept_view : (send : Option ReplicaId) (vote : Signed Change) → own_view (kept_unless send vote s) ≡ own_view s
  kept_view None vote = refl
  kept_view (Some id) vote = refl

  pub change_step : (vote : Signed Change) → IsReplica vote.by → IsChangeOwed s vote owed → IsStep R s 0 (change R s vote) owed (begin (kept_unless owed.send vote s))
  change_step vote replica is =
      record {
        signer = signer;
        ready = ready;
        so_far = kept_far owed.send vote;
        fetches = kept_fetches owed.send vote;
        view = kept_view owed.send vote;
        unconfirmed = refl;
        follows = change_follows R s vote signer.by replica owed is;
        enters = can;
      }

-- ---- the own hate, in a step that signed nothing so far

module _ {S : Type 0} (R : Rules S) (g : Going S) (signer : IsSigner g.state) (ready : IsReady g.state) (owed : Owed) (can : CanAll g.state owed) where
  abbrev s : State S
  s = g.state

  own_far : (said : Option (Signed Hate)) (more : ℕ) → more ≡ signs_of said → IsSoFar s more (counted R g said)
  own_far None more is = record { sealer = spends_so_far R g None more is; kept = refl; stable = refl }
  own_far (Some one) more is = record { sealer = spends_so_far R g (Some one) more is; kept = refl; stable = refl }

  own_fetches : (said : Option (Signed Hate)) → (counted R g said).state.fetches ≡ s.fetches
  own_fetches None = refl
  own_fetches (Some one) = refl

  own_same : (said : Option (Signed Hate)) → own_view (counted R g said).state ≡ own_view s
  own_same None = refl
  own_same (Some one) = refl

  pub own_step : g.deeds.acts ≡ [] → (said : Option (Signed Hate)) (more : ℕ) → more ≡ signs_of said → said ≡ own_hate s → IsOwnOwed s owed
      → IsStep R s more (hate_from R g) owed (counted R g said)
  own_step silent said more is own owes =
      record {
        signer = signer;
        ready = ready;
        so_far = own_far said more is;
        fetches = own_fetches said;
        view = own_same said;
        unconfirmed = said_only R g silent said;
        follows = own_follows R g said owed own signer.by owes;
        enters = can;
      }

-- the same, of the state as it lies in the step
pub own_judged : {S : Type 0} (R : Rules S) (g : Going S) (owed : Owed) → g.deeds.acts ≡ [] → (t : State S) → t ≡ g.state → (more : ℕ) → more ≡ signs_of (own_hate t)
    → IsSigner t → IsReady t → IsOwnOwed t owed → CanAll t owed → IsStep R g.state more (hate_from R g) owed (counted R g (own_hate g.state))
own_judged {S = S} R g owed silent t same more is signer ready owes can =
    own_step R g (subst (λ (x : State S). IsSigner x) same signer) (subst (λ (x : State S). IsReady x) same ready) owed (subst (λ (x : State S). CanAll x owed) same can) silent (own_hate g.state) more
    (subst (λ (x : State S). more ≡ signs_of (own_hate x)) same is) refl (subst (λ (x : State S). IsOwnOwed x owed) same owes)
