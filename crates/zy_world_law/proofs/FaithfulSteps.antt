-- Where nobody lies, a step of a correct party keeps a faithful world faithful.
use Rattle.std.proofs.Common.{◌≡◌, ◌⊎◌, inl, inr, ℕ, ◌+◌, ◌-◌, ◌<◌, zero, suc, List, [], ◌∷◌, ◌++◌, length, map, Some, Result, Ok, Err, refl, sym, ap, ◌∙◌, subst, arith}
use Rattle.std.specs.Prelude.{slice_get}
use Rattle.std.specs.List.{AllByRecursion}
use Rattle.std.proofs.lemmas.Bool.{cases_eq}
use Rattle.std.proofs.lemmas.Option.{same_Some}
use Rattle.zy_base.specs.Machine.{Rules}
use Rattle.zy_base.specs.declared.ids.ClientId.{ClientId}
use Rattle.zy_base.specs.declared.ids.Digest.{Digest}
use Rattle.zy_base.specs.declared.ids.Party.{Party}
use Rattle.zy_base.specs.declared.ids.ReplicaId.{ReplicaId}
use Rattle.zy_base.specs.declared.step.Event.{Event}
use Rattle.zy_base.specs.declared.step.Event.TheVariants.{Heard}
use Rattle.zy_base.specs.declared.step.Spoken.{Spoken}
use Rattle.zy_law_normal.proofs.Goes.{all_of_both, all_of_front, all_of_rest}
use Rattle.zy_law_steps.specs.Signs.{AreOfTexts, ArePassed, OfClient, OfHeard, OfState, OfTexts}
use Rattle.zy_law_steps.specs.Whole.{IsEventHonest}
use Rattle.zy_law_views.proofs.IdleFrames.{IsIdle}
use Rattle.zy_table.specs.ClientState.{ClientOutcome, client_outgoing, spoken_of}
use Rattle.zy_table.specs.Deeds.{Outcome, others, outgoing_of, said_from}
use Rattle.zy_table.specs.Whole.{whole_step}
use Rattle.zy_world_law.specs.Events.{Happened, client_goes, client_note, client_stepped, completed_by, go_with, replica_goes, replica_note, stepped, with_client, with_done, with_replica}
use Rattle.zy_world_law.specs.Events.Broken.{Forged, Clash}
use Rattle.zy_world_law.specs.Events.Happened.{Goes, Breaks}
use Rattle.zy_world_law.specs.Faithful.{IsFaithful, PassesSaid}
use Rattle.zy_world_law.specs.Good.{IsGood, IsKept, IsTied}
use Rattle.zy_world_law.specs.Seen.{seen}
use Rattle.zy_world_law.specs.Texts.{keep_all, step_texts}
use Rattle.zy_world_law.specs.World.{World, Client, Mail, Replica, Texts, client_at, mail_to, replica_at, with_sent}
use Rattle.zy_world_law.proofs.FineSteps.{IsFine, step_fine}
use Rattle.zy_world_law.proofs.KeptTexts.{IsKeeping, all_kept}
use Rattle.zy_world_law.proofs.OwnSaid.{replica_more, replica_passes}
use Rattle.zy_world_law.proofs.PassLaws.{PassLaws, Test}
use Rattle.zy_world_law.proofs.StepLaws.{StepLaws}
use Rattle.zy_world_law.proofs.TextsStay.{texts_good}
use Rattle.zy_world_law.proofs.WorldSaid.{SaysMore, client_says_more, other_client, other_replica, own_client, own_replica, passes_before}

-- a mail is as the bytes that it carries
abbrev pub OfMail : Test → Mail → Type 0
OfMail test mail = OfHeard (OfTexts test) (Heard mail.bytes)

mailed : (test : Test) (out : List (Party × List ℕ)) → AreOfTexts test out → AllByRecursion (OfMail test) (map mail_to out)
mailed test [] all = tt
mailed test (one ∷ out) all = (all.0, mailed test out all.1)

pub seat_within : {A : Type 0} (xs : List A) (i : ℕ) (x : A) → slice_get xs i ≡ Some x → i < length xs
seat_within [] i x is = absurd cc
seat_within (first ∷ xs) zero x is = omega arith
seat_within (first ∷ xs) (suc i) x is = let below = seat_within xs i x is in omega arith

module _ {S : Type 0} (ok : S → Type 0) where
  -- so is the world that an event led to, and the event isn't forged
  abbrev pub Fair : Happened S → Type 0
  Fair (Goes v note) = IsFaithful ok v
  Fair (Breaks (Forged by)) = ⊥
  Fair (Breaks (Clash d)) = Unit {0}

module _ {S : Type 0} (R : Rules S) (ok : S → Type 0) (steps : StepLaws R) (pass : PassLaws ok R) (w : World S) (good : IsGood R w) (is : IsFaithful ok w) where
  -- ---- a replica

  module _ (id : ReplicaId) (x : Replica S) (at : replica_at w id.0 ≡ Some x) (texts : List (List ℕ)) (event : Event)
      (honest : (more : Texts) → AllByRecursion (IsKept more) texts → IsGood R (record w { texts = more }) → IsEventHonest (seen R (record w { texts = more })) more x.state event ⊎ IsIdle x.state (whole_step R x.state event))
      (heard : (test : Test) → PassesSaid w test → OfHeard (OfTexts test) event) where
    abbrev o : Outcome S
    o = whole_step R x.state event

    tie : IsTied R w id.0 x
    tie = good.tied id.0 x at

    module _ (more : Texts) (keeping : IsKeeping w.texts (texts ++ step_texts o.deeds.acts) more) where
      abbrev w1 : World S
      w1 = record w { texts = more }

      good1 : IsGood R w1
      good1 = texts_good R w more keeping.stay good

      fine : IsFine R steps w1 good1 id.0 x at event
      fine =
          step_fine R steps w1 good1 id.0 x at event (honest more (all_of_front (IsKept more) texts (step_texts o.deeds.acts) keeping.kept) good1)
          (all_of_rest (IsKept more) texts (step_texts o.deeds.acts) keeping.kept)

      abbrev x' : Replica S
      x' = stepped more event x o

      abbrev w2 : World S
      w2 = with_replica w1 id x'

      abbrev out : List (Party × List ℕ)
      out = outgoing_of o.state.me.0 o.state.counts.n o.deeds.sent

      abbrev v : World S
      v = with_sent w2 out

      module _ (test : Test) (passes : PassesSaid v test) where
        before : PassesSaid w test
        before = passes_before w v test (replica_more R w good id x at event (pass.me x.state event) more) passes

        said_passes : ArePassed test x.state.sealer.me (said_from x.state.sealer.me 0 o.deeds.acts)
        said_passes = replica_passes R w good id x at event (pass.me x.state event) more test passes

        own : OfState ok (OfTexts test) o.state
        own = pass.keeps test x.state event tie.spelled.signer (is.replicas test before id.0 x at) (heard test before) fine.step.fit said_passes

        replicas_after : (q : ℕ) (y : Replica S) → replica_at v q ≡ Some y → OfState ok (OfTexts test) y.state
        replicas_after q y y_at = elim (cases_eq q id.0) [
          | inl same ↦
              let this : x' ≡ y = same_Some x' y (sym (own_replica w1 id x at x') ∙ ap (replica_at v) (sym same) ∙ y_at) in
              subst (λ (z : Replica S). OfState ok (OfTexts test) z.state) this own
          | inr other ↦ is.replicas test before q y (sym (other_replica w1 id x at x' q other) ∙ y_at)
        ]

        sent_after : AllByRecursion (OfMail test) v.bag
        sent_after =
            all_of_both (OfMail test) w.bag (map mail_to out) (is.sent test before)
            (mailed test out (pass.sends test x.state event tie.spelled.signer (is.replicas test before id.0 x at) (heard test before) fine.step.fit said_passes (others o.state.me.0 o.state.counts.n)))

      faithful : IsFaithful ok v
      faithful = record { replicas = replicas_after; clients = λ test passes q y y_at. is.clients test (before test passes) q y y_at; sent = sent_after }

    abbrev change : World S → World S
    change v = with_sent (with_replica v id (stepped v.texts event x o)) (outgoing_of o.state.me.0 o.state.counts.n o.deeds.sent)

    by : (r : Result Texts Digest) → keep_all (texts ++ step_texts o.deeds.acts) w.texts ≡ r → Fair ok (go_with w change (replica_note id o.answer) r)
    by (Err d) e = tt
    by (Ok more) e = faithful more (all_kept (texts ++ step_texts o.deeds.acts) w.texts more e)

    pub replica_fair : Fair ok (replica_goes w id x texts event o)
    replica_fair = by (keep_all (texts ++ step_texts o.deeds.acts) w.texts) refl

  -- ---- a client

  module _ (id : ClientId) (x : Client) (at : client_at w id.0 ≡ Some x) (texts : List (List ℕ)) (o : ClientOutcome)
      (own : (test : Test) → PassesSaid (with_client w id (client_stepped x o)) test → PassesSaid w test → OfClient (OfTexts test) o.state × AreOfTexts test (client_outgoing o.state.counts.n o.sent)) where
    abbrev y' : Client
    y' = client_stepped x o

    module _ (more : Texts) where
      abbrev u1 : World S
      u1 = record w { texts = more }

      abbrev sent : List (Party × List ℕ)
      sent = client_outgoing o.state.counts.n o.sent

      abbrev u : World S
      u = with_done (with_sent (with_client u1 id y') sent) id (completed_by x.state o.state)

      said_more : SaysMore w u
      said_more = client_says_more u1 id x at y' (map (λ (spoken : Spoken). spoken.text) (map (spoken_of o.state.me) o.said)) refl

      module _ (test : Test) (passes : PassesSaid u test) where
        passed : PassesSaid w test
        passed = passes_before w u test said_more passes

        clients_after : (q : ℕ) (y : Client) → client_at u q ≡ Some y → OfClient (OfTexts test) y.state
        clients_after q y y_at = elim (cases_eq q id.0) [
          | inl same ↦
              let this : y' ≡ y = same_Some y' y (sym (own_client u1 id x at y') ∙ ap (client_at u) (sym same) ∙ y_at) in
              subst (λ (z : Client). OfClient (OfTexts test) z.state) this (own test passes passed).0
          | inr other ↦ is.clients test passed q y (sym (other_client u1 id x at y' q other) ∙ y_at)
        ]

        mails_after : AllByRecursion (OfMail test) u.bag
        mails_after = all_of_both (OfMail test) w.bag (map mail_to sent) (is.sent test passed) (mailed test sent (own test passes passed).1)

      client_faithful : IsFaithful ok u
      client_faithful = record { replicas = λ test passes q y y_at. is.replicas test (passed test passes) q y y_at; clients = clients_after; sent = mails_after }

    abbrev client_change : World S → World S
    client_change v = with_done (with_sent (with_client v id y') (client_outgoing o.state.counts.n o.sent)) id (completed_by x.state o.state)

    client_by : (r : Result Texts Digest) → Fair ok (go_with w client_change (client_note id (completed_by x.state o.state) o.answer) r)
    client_by (Err d) = tt
    client_by (Ok more) = client_faithful more

    pub client_fair : Fair ok (client_goes w id x texts o)
    client_fair = client_by (keep_all texts w.texts)
