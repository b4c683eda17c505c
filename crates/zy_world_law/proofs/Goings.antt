-- An event that goes on led to this world.
use Rattle.zy_world_law.specs.Safe.{completion_of}
use Rattle.zy_law.specs.Completed.{IsCompleted}
use Rattle.std.specs.List.{AllByRecursion}
use Rattle.std.specs.Prelude.{option_map, option_to_list}
use Rattle.std.proofs.Common.{append-nil, [], ◌≡◌, ◌⊎◌, ℕ, List, ◌++◌, Option, Some, Result, Ok, Err, refl, sym, ap, subst}
use Rattle.zy_base.specs.Machine.{Rules}
use Rattle.zy_base.specs.declared.ids.ClientId.{ClientId}
use Rattle.zy_base.specs.declared.ids.Digest.{Digest}
use Rattle.zy_base.specs.declared.ids.ReplicaId.{ReplicaId}
use Rattle.zy_base.specs.declared.step.Event.{Event}
use Rattle.zy_client.specs.Held.{Holds}
use Rattle.zy_law_steps.specs.Whole.{IsEventHonest}
use Rattle.zy_parts.specs.declared.signed.Signed.{Signed}
use Rattle.zy_parts.specs.declared.statements.Ask.{Ask}
use Rattle.zy_law_normal.proofs.Goes.{all_of_front, all_of_rest}
use Rattle.zy_table.specs.ClientRows.{kept_of}
use Rattle.zy_table.specs.ClientState.{ClientOutcome, client_outgoing}
use Rattle.zy_table.specs.Deeds.{outgoing_of}
use Rattle.zy_table.specs.Whole.{whole_step}
use Rattle.zy_table.specs.declared.client.Commit.{Commit}
use Rattle.zy_table.specs.declared.client.Done.{Done}
use Rattle.zy_table.specs.declared.client.Response.{Response}
use Rattle.zy_world_law.specs.Events.{Happened, go_with, keeping, replica_goes, client_goes, stepped, client_stepped, with_replica, with_client, with_done, completed_by, replica_note, client_note}
use Rattle.zy_world_law.specs.Events.Happened.{Goes, Breaks}
use Rattle.zy_world_law.specs.Good.{IsGood, IsBackedBy, IsCommitBacked, IsDone, IsKept}
use Rattle.zy_world_law.specs.Seen.{seen}
use Rattle.zy_world_law.specs.Texts.{step_texts, keep_all}
use Rattle.zy_world_law.specs.World.{World, Replica, Client, Completed, Texts, replica_at, client_at, with_sent}
use Rattle.zy_world_law.specs.declared.note.Note.{Note}
use Rattle.zy_world_law.proofs.BagStays.{bag_good}
use Rattle.zy_world_law.proofs.ClientStep.{client_good, own_seat, completed_after}
use Rattle.zy_world_law.proofs.DoneStays.{done_good}
use Rattle.zy_world_law.proofs.FineSteps.{step_fine}
use Rattle.zy_law_views.proofs.IdleFrames.{IsIdle}
use Rattle.zy_world_law.proofs.StepLaws.{StepLaws}
use Rattle.zy_world_law.proofs.KeptOrHeard.{IsSame}
use Rattle.zy_world_law.proofs.KeptTexts.{IsKeeping, Stay, all_kept}
use Rattle.zy_world_law.proofs.ReplicaStep.{replica_good}
use Rattle.zy_world_law.proofs.TextsStay.{texts_good}

abbrev world_in : {S : Type 0} → World S → Happened S → World S
world_in w (Goes v note) = v
world_in w (Breaks broken) = w

pub goes_is : {S : Type 0} (v u : World S) (n m : Note) → Goes v n ≡ Goes u m → v ≡ u
goes_is v u n m is = ap (λ (h : Happened _). world_in v h) is

pub record Kept {S : Type 0} (w : World S) (texts : List (List ℕ)) (change : World S → World S) (v : World S) : Type 0 where
  pub texts' : Texts
  pub keeping : IsKeeping w.texts texts texts'
  pub world : change (record w { texts = texts' }) ≡ v

gone : {S : Type 0} (w v : World S) (texts : List (List ℕ)) (change : World S → World S) (n m : Note) (r : Result Texts Digest) → keep_all texts w.texts ≡ r → go_with w change n r ≡ Goes v m → Kept w texts change v
gone w v texts change n m (Err d) kept is = absurd cc
gone w v texts change n m (Ok texts') kept is =
    record { texts' = texts'; keeping = all_kept texts w.texts texts' kept; world = goes_is (change (record w { texts = texts' })) v n m is }

pub kept_goes : {S : Type 0} (w v : World S) (texts : List (List ℕ)) (change : World S → World S) (n m : Note) → keeping w texts change n ≡ Goes v m → Kept w texts change v
kept_goes w v texts change n m is = gone w v texts change n m (keep_all texts w.texts) refl is

-- a good world later on: its kept texts stay, and its completions are a front of the later ones
pub record IsAfter {S : Type 0} (R : Rules S) (w v : World S) : Type 0 where
  pub good : IsGood R v
  pub texts : Stay w.texts v.texts
  pub more : List Completed
  pub done : v.done ≡ w.done ++ more

-- what a client counts as complete is so, and its reply is kept
pub record IsEnd {S : Type 0} (R : Rules S) (w : World S) (id : ClientId) (d : Done) : Type 0 where
  pub completed : IsCompleted (seen R w) (completion_of (record { client = id; done = d }))
  pub reply : IsKept w.texts d.reply

module _ {S : Type 0} (R : Rules S) (steps : StepLaws R) (w : World S) (good : IsGood R w) where
  -- ---- a replica's step

  pub replica_goes_good : (id : ReplicaId) (x : Replica S) (texts : List (List ℕ)) (event : Event) (v : World S) (note : Note) → replica_at w id.0 ≡ Some x
      → ((more : Texts) → AllByRecursion (IsKept more) texts → IsGood R (record w { texts = more }) → IsEventHonest (seen R (record w { texts = more })) more x.state event ⊎ IsIdle x.state (whole_step R x.state event))
      → replica_goes w id x texts event (whole_step R x.state event) ≡ Goes v note → IsAfter R w v
  replica_goes_good id x texts event v note at honest is =
      let o = whole_step R x.state event in
      let k = kept_goes w v (texts ++ step_texts o.deeds.acts)
      (λ v. with_sent (with_replica v id (stepped v.texts event x o)) (outgoing_of o.state.me.0 o.state.counts.n o.deeds.sent)) (replica_note id o.answer) note is in
      let w1 : World S = record w { texts = k.texts' } in
      let good1 : IsGood R w1 = texts_good R w k.texts' k.keeping.stay good in
      let fine = step_fine R steps w1 good1 id.0 x at event (honest k.texts' (all_of_front (IsKept k.texts') texts (step_texts o.deeds.acts) k.keeping.kept) good1)
      (all_of_rest (IsKept k.texts') texts (step_texts o.deeds.acts) k.keeping.kept) in
      let w2 : World S = with_replica w1 id (stepped k.texts' event x o) in
      let good2 : IsGood R w2 = replica_good R steps.back w1 good1 id x at event fine.history o fine.step in
      let good3 : IsGood R (with_sent w2 (outgoing_of o.state.me.0 o.state.counts.n o.deeds.sent)) = bag_good R w2 w2.used _ w2.muted good2 in
      subst (λ (u : World S). IsAfter R w u) k.world (record { good = good3; texts = k.keeping.stay; more = []; done = sym (append-nil w.done) })

module _ {S : Type 0} (R : Rules S) (w : World S) (good : IsGood R w) where
  -- ---- a client's step

  pub client_goes_good : (id : ClientId) (x : Client) (texts : List (List ℕ)) (o : ClientOutcome) (v : World S) (note : Note) → client_at w id.0 ≡ Some x → IsSame x.state o.state → Holds o.state
      → ((more : Texts) → IsKeeping w.texts texts more → IsGood R (record w { texts = more }) → (number : ℕ) (r : Response) → kept_of o.state number ≡ Some r → IsBackedBy (record w { texts = more }) number r)
      → ((more : Texts) → IsKeeping w.texts texts more → IsGood R (record w { texts = more }) → (waiting : Signed Ask) (c : Commit) → o.state.waiting ≡ Some waiting → o.state.commit ≡ Some c
      → IsCommitBacked (seen R (record w { texts = more })) more c)
      → ((more : Texts) → IsKeeping w.texts texts more → IsGood R (record w { texts = more }) → (d : Done) → completed_by x.state o.state ≡ Some d → IsEnd R (record w { texts = more }) id d)
      → client_goes w id x texts o ≡ Goes v note → IsAfter R w v
  client_goes_good id x texts o v note at same holds backed committed ends is =
      let done : Option Done = completed_by x.state o.state in
      let k = kept_goes w v texts
      (λ v. with_done (with_sent (with_client v id (client_stepped x o)) (client_outgoing o.state.counts.n o.sent)) id done) (client_note id done o.answer) note is in
      let w1 : World S = record w { texts = k.texts' } in
      let good1 : IsGood R w1 = texts_good R w k.texts' k.keeping.stay good in
      let backed1 = backed k.texts' k.keeping good1 in
      let committed1 = committed k.texts' k.keeping good1 in
      let w2 : World S = with_client w1 id (client_stepped x o) in
      let good2 : IsGood R w2 = client_good R w1 good1 id x at o same holds backed1 committed1 in
      let w3 : World S = with_sent w2 (client_outgoing o.state.counts.n o.sent) in
      let good3 : IsGood R w3 = bag_good R w2 w2.used _ w2.muted good2 in
      let seat : client_at w3 id.0 ≡ Some (client_stepped x o) = own_seat R w1 good1 id x at o same holds backed1 committed1 in
      let is_done : (d : Done) → done ≡ Some d → IsDone R w3 (record { client = id; done = d }) =
      λ d told.
      let e = ends k.texts' k.keeping good1 d told in
      record {
        client = client_stepped x o;
        correct = seat;
        completed = completed_after R w1 good1 id x at o same holds backed1 committed1 (completion_of (record { client = id; done = d })) e.completed;
        reply = e.reply;
      } in
      subst (λ (u : World S). IsAfter R w u) k.world
      (record {
        good = done_good R w3 good3 id done is_done;
        texts = k.keeping.stay;
        more = option_to_list (option_map (λ (d : Done). let c : Completed = record { client = id; done = d } in c) done);
        done = refl;
      })
