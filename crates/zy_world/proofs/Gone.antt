-- A party made a step, and the world goes on.
use Rattle.std.proofs.Common.{◌≡◌, ℕ, List, [], ◌∷◌, ◌++◌, map, Option, Ok, Err, refl, sym, ap, ap₂, ◌∙◌}
use Rattle.std.specs.List.{flat_map}
use Rattle.std.proofs.lemmas.List.{map-append}
use Rattle.zy_base.specs.declared.ids.ClientId.{ClientId}
use Rattle.zy_base.specs.declared.ids.Digest.{Digest}
use Rattle.zy_base.specs.declared.ids.Party.{Party}
use Rattle.zy_base.specs.declared.ids.Party.TheVariants as parties
use Rattle.zy_base.specs.declared.ids.ReplicaId.{ReplicaId}
use Rattle.zy_base.specs.declared.step.Answer.{Answer}
use Rattle.zy_base.specs.declared.step.Event.{Event}
use Rattle.zy_base.specs.declared.step.Spoken.{Spoken}
use Rattle.zy_chain.specs.Stretch.{Mark}
use Rattle.zy_law.specs.World.{Stand}
use Rattle.zy_table.specs.ClientState.{ClientOutcome, client_outgoing}
use Rattle.zy_table.specs.Deeds.{Outcome, outgoing_of, said_from}
use Rattle.zy_table.specs.declared.client.Done.{Done}
use Rattle.zy_world_setup.specs.Kept.{Pairs, Keeps, Clashes}
use Rattle.zy_world_setup.specs.Said.{Told, AreShown, also_said}
use Rattle.zy_world_setup.specs.declared.fault.TextFault.{TextFault}
use Rattle.zy_world_setup.specs.declared.fault.TextFault.TheVariants as text_faults
use Rattle.zy_world.specs.Answered.{GoesTo, IsBrokenBy, world_fault}
use Rattle.zy_world.specs.Passed.{AreWithin}
use Rattle.zy_world.specs.Shown.{Shown, Posted, mark_after}
use Rattle.zy_world.specs.Shows.{Shows, texts_of}
use Rattle.zy_world.specs.Stepping.{HasReplicaStepped, HasClientStepped}
use Rattle.zy_world.specs.declared.step.ClientStep.{ClientStep}
use Rattle.zy_world.specs.declared.step.ReplicaStep.{ReplicaStep}
use Rattle.zy_world_law.specs.Events.{Happened, go_with, stepped, client_stepped, remark_after, with_replica, with_client, with_done, replica_goes, client_goes, replica_note, client_note, completed_by}
use Rattle.zy_world_law.specs.Events.Broken.{Clash}
use Rattle.zy_world_law.specs.Events.Happened.{Goes, Breaks}
use Rattle.zy_world_law.specs.Texts.{got_texts, step_texts, keep_all}
use Rattle.zy_world_law.specs.World.{World, Replica, Client, Texts, mail_to, with_sent}
use Rattle.zy_world_law.specs.declared.note.Note.{Note}
use Rattle.zy_world.proofs.Changes.{with_texts, shows_sent, shows_done}
use Rattle.zy_world.proofs.Stepped.{shows_replica, shows_client}

-- what was said is what a step said, whoever was told since when
remarks : (past : List Stand) (said : List Spoken) → map (λ remark. remark.text) (map (remark_after past) said) ≡ map (λ spoken. spoken.text) said
remarks past [] = refl
remarks past (spoken ∷ said) = ap (λ (texts : List (List ℕ)). spoken.text ∷ texts) (remarks past said)

-- also said by the party, for all that may have been said before
abbrev pub Says : Party → List Spoken → Told → Told → Type 0
Says party said old new = (before : Party → Option (List (List ℕ))) → AreShown before old → AreShown (also_said before party (map (λ spoken. spoken.text) said)) new

module _ {S : Type 0} (w : World S) (id : ReplicaId) (x : Replica S) (event : Event) (o : Outcome S) (r : ReplicaStep) (v : Shown S) (has : HasReplicaStepped w id x o r v) where
  says : (texts : Texts) → map (λ remark. remark.text) (stepped texts event x o).said ≡ map (λ remark. remark.text) x.said ++ map (λ spoken. spoken.text) r.said
  says texts =
      let said = said_from (parties.Replica o.state.me) 0 o.deeds.acts in
      map-append (λ remark. remark.text) x.said (map (remark_after x.past) said)
      ∙ ap (λ (texts : List (List ℕ)). map (λ remark. remark.text) x.said ++ texts)
      (remarks x.past said ∙ ap (map (λ spoken. spoken.text)) (sym has.step.said))

  brings : flat_map got_texts r.got ≡ step_texts o.deeds.acts
  brings = ap (flat_map got_texts) has.step.got

  pub replica_gone : (pairs : Pairs) (told : Told) (bag : Posted) (note : Note) → Keeps (flat_map got_texts r.got) v.texts pairs → Says (parties.Replica id) r.said v.said told
      → AreWithin v.bag → bag ≡ record { mails = v.bag.mails ++ map mail_to r.out; passed = v.bag.passed } → note ≡ replica_note id r.answer
      → GoesTo (replica_goes w id x [] event o) note (record v { texts = pairs; said = told; bag = bag })
  replica_gone pairs told bag note keeps more within sent noted =
      let kept = keeps w.texts has.shows.texts in
      let all : keep_all (step_texts o.deeds.acts) w.texts ≡ Ok kept.0 = ap (λ (texts : List (List ℕ)). keep_all texts w.texts) (sym brings) ∙ kept.1 in
      let w1 : World S = record w { texts = kept.0 } in
      let v1 : Shown S = record v { seats = has.before; texts = pairs } in
      let s1 : Shows w1 v1 = with_texts w (record v { seats = has.before }) kept.0 pairs has.shows kept.2 in
      let s2 : Shows (with_replica w1 id (stepped kept.0 event x o)) (record v1 { seats = v.seats; said = told }) =
      shows_replica w1 v1 id x (stepped kept.0 event x o) (map (λ spoken. spoken.text) r.said) v.seats told s1 has.there (says kept.0) has.after (more (texts_of w.replicas w.clients) has.shows.said) in
      let out = outgoing_of o.state.me.0 o.state.counts.n o.deeds.sent in
      let put : bag ≡ record { mails = v.bag.mails ++ map mail_to out; passed = v.bag.passed } =
      sent ∙ ap (λ (frames : List (Party × List ℕ)). record { mails = v.bag.mails ++ map mail_to frames; passed = v.bag.passed }) has.step.out in
      record {
        world = with_sent (with_replica w1 id (stepped kept.0 event x o)) out;
        goes = ap (go_with w (λ u. with_sent (with_replica u id (stepped u.texts event x o)) out) (replica_note id o.answer)) all
            ∙ ap (λ (n : Note). Goes (with_sent (with_replica w1 id (stepped kept.0 event x o)) out) n) (ap (replica_note id) (sym has.step.answer) ∙ sym noted);
        shows = shows_sent (with_replica w1 id (stepped kept.0 event x o)) (record v1 { seats = v.seats; said = told }) out bag s2 within put;
      }

  pub replica_clashes : (d : Digest) → Clashes (flat_map got_texts r.got) v.texts d → replica_goes w id x [] event o ≡ Breaks (Clash d)
  replica_clashes d clash =
      let all : keep_all (step_texts o.deeds.acts) w.texts ≡ Err d = ap (λ (texts : List (List ℕ)). keep_all texts w.texts) (sym brings) ∙ clash w.texts has.shows.texts in
      let out = outgoing_of o.state.me.0 o.state.counts.n o.deeds.sent in
      ap (go_with w (λ u. with_sent (with_replica u id (stepped u.texts event x o)) out) (replica_note id o.answer)) all

module _ {S : Type 0} (w : World S) (id : ClientId) (x : Client) (o : ClientOutcome) (r : ClientStep) (v : Shown S) (has : HasClientStepped w id x o r v) where
  client_says : (client_stepped x o).said ≡ x.said ++ map (λ spoken. spoken.text) r.said
  client_says = ap (λ (said : List Spoken). x.said ++ map (λ spoken. spoken.text) said) (sym has.step.said)

  pub client_gone : (told : Told) (bag : Posted) (mark : Mark) (note : Note) → Says (parties.Client id) r.said v.said told
      → AreWithin v.bag → bag ≡ record { mails = v.bag.mails ++ map mail_to r.out; passed = v.bag.passed } → mark ≡ mark_after v.agreed r.done → note ≡ client_note id r.done r.answer
      → GoesTo (client_goes w id x [] o) note (record v { said = told; bag = bag; agreed = mark })
  client_gone told bag mark note more within sent further noted =
      let v1 : Shown S = record v { seats = has.before } in
      let s1 : Shows (with_client w id (client_stepped x o)) (record v { said = told }) =
      shows_client w v1 id x (client_stepped x o) (map (λ spoken. spoken.text) r.said) v.seats told has.shows has.there client_says has.after (more (texts_of w.replicas w.clients) has.shows.said) in
      let out = client_outgoing o.state.counts.n o.sent in
      let put : bag ≡ record { mails = v.bag.mails ++ map mail_to out; passed = v.bag.passed } =
      sent ∙ ap (λ (frames : List (Party × List ℕ)). record { mails = v.bag.mails ++ map mail_to frames; passed = v.bag.passed }) has.step.out in
      let s2 : Shows (with_sent (with_client w id (client_stepped x o)) out) (record v { said = told; bag = bag }) =
      shows_sent (with_client w id (client_stepped x o)) (record v { said = told }) out bag s1 within put in
      let done = completed_by x.state o.state in
      let w3 : World S = with_done (with_sent (with_client w id (client_stepped x o)) out) id done in
      record {
        world = w3;
        goes = ap₂ (λ (d : Option Done) (a : Answer). Goes w3 (client_note id d a)) (sym has.step.done) (sym has.step.answer) ∙ ap (λ (n : Note). Goes w3 n) (sym noted);
        shows = shows_done (with_sent (with_client w id (client_stepped x o)) out) (record v { said = told; bag = bag }) id done mark s2
            (further ∙ ap (mark_after v.agreed) has.step.done);
      }

-- a text that clashed is told as the fault of the world
pub broken_by_text : {S : Type 0} (happened : Happened S) (fault : TextFault) → ((d : Digest) → fault ≡ text_faults.Clash d → happened ≡ Breaks (Clash d)) → IsBrokenBy happened (world_fault fault)
broken_by_text happened (text_faults.Clash d) breaks = breaks d refl
broken_by_text happened text_faults.Want breaks = tt
