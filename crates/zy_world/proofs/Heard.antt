-- A frame is heard, and what it brings to a party.
use Rattle.std.proofs.Common.{◌≡◌, ℕ, ◌-◌, true, false, List, [], ◌++◌, Option, Some, None, Result, Ok, Err, refl, sym, ap, ap₂, ◌∙◌}
use Rattle.std.specs.Prelude.{slice_get, slice_set, option_map, unwrap_or}
use Rattle.std.specs.List.{find}
use Rattle.std.proofs.lemmas.List.{append-nil}
use Rattle.zy_base.specs.Machine.{Rules}
use Rattle.zy_base.specs.declared.ids.ClientId.{ClientId}
use Rattle.zy_base.specs.declared.ids.Digest.{Digest}
use Rattle.zy_base.specs.declared.ids.Party.{Party}
use Rattle.zy_base.specs.declared.ids.Party.TheVariants as parties
use Rattle.zy_base.specs.declared.ids.ReplicaId.{ReplicaId}
use Rattle.zy_base.specs.declared.step.Event.TheVariants.{Heard, Timer}
use Rattle.zy_base.specs.declared.step.TimerKind.{TimerKind}
use Rattle.zy_base.specs.declared.step.TimerKind.TheVariants as timers
use Rattle.zy_seal.specs.Keys.{Keys}
use Rattle.zy_table.specs.ClientRows.{client_step}
use Rattle.zy_table.specs.ClientState.{client_outgoing}
use Rattle.zy_table.specs.Deeds.{outgoing_of}
use Rattle.zy_table.specs.Whole.{whole_step}
use Rattle.zy_table.specs.declared.deeds.AnyFrame.{AnyFrame}
use Rattle.zy_world_setup.proofs.KeptLemmas.{keep_all-append}
use Rattle.zy_world_setup.proofs.SaidLemmas.{same_shown}
use Rattle.zy_world_setup.specs.Kept.{Pairs, Keeps, Clashes}
use Rattle.zy_world_setup.specs.Said.{AreShown, forger_among}
use Rattle.zy_world_setup.specs.declared.fault.TextFault.{TextFault}
use Rattle.zy_world_setup.specs.declared.fault.TextFault.TheVariants as text_faults
use Rattle.zy_world.specs.Answered.{HeardTo, IsBrokenBy, IsUnheardBy, world_fault, heard, heard_of, steps, replica_steps, client_steps, has_timer}
use Rattle.zy_world.specs.Shown.{Shown, seat_in}
use Rattle.zy_world.specs.Shows.{Shows, texts_of}
use Rattle.zy_world.specs.declared.fault.WorldFault.{WorldFault}
use Rattle.zy_world.specs.declared.fault.WorldFault.TheVariants as faults
use Rattle.zy_world.specs.declared.seat.Seat.TheVariants as sat
use Rattle.zy_world_law.specs.Events.{Broken, Happened, no_subject, go_with, keeping, unless_forged, stepped, client_stepped, with_replica, with_client, with_done, replica_note, client_note, completed_by, bring, bring_to_replica, bring_to_client, timer_of, replica_timer_in, client_timer_in}
use Rattle.zy_world_law.specs.Events.Broken.{Forged, Clash}
use Rattle.zy_world_law.specs.Events.Happened.{Goes, Breaks}
use Rattle.zy_world_law.specs.Honest.{forger_in, is_forged}
use Rattle.zy_world_law.specs.Reading.{any_frame_in, parts_of}
use Rattle.zy_world_law.specs.Setup.{keys_of}
use Rattle.zy_world_law.specs.Texts.{texts_in, texts_of as texts_in_frame, step_texts, keep_all, and_then}
use Rattle.zy_world_law.specs.World.{World, Replica, Client, Mail, Texts, texts_said, with_sent, delivered}
use Rattle.zy_world_law.specs.declared.note.Note.{Note}
use Rattle.zy_world_law.specs.declared.note.Note.TheVariants.{Quiet}
use Rattle.zy_world.proofs.Changes.{with_texts}
use Rattle.zy_world.proofs.ShownSeats.{said_is, whole_seat}

-- ---- hearing

-- bytes that are no frame
pub heard_nothing : {S : Type 0} (w : World S) (bytes : List ℕ) → any_frame_in bytes ≡ None → heard w bytes ≡ Ok w.texts
unfolding heard
heard_nothing w bytes is =
    ap (λ (f : Option AnyFrame). heard_of (option_map (λ part. part.by) (find (is_forged w) (unwrap_or (option_map parts_of f) []))) (keep_all (unwrap_or (option_map texts_in_frame f) []) w.texts)) is

heard_frame_is : {S : Type 0} (w : World S) (bytes : List ℕ) (frame : AnyFrame) → any_frame_in bytes ≡ Some frame
    → heard w bytes ≡ heard_of (forger_among (keys_of w.setup) (texts_said w) (parts_of frame)) (keep_all (texts_in_frame frame) w.texts)
unfolding heard
heard_frame_is w bytes frame is =
    ap (λ (f : Option AnyFrame). heard_of (option_map (λ part. part.by) (find (is_forged w) (unwrap_or (option_map parts_of f) []))) (keep_all (unwrap_or (option_map texts_in_frame f) []) w.texts)) is

module _ {S : Type 0} (w : World S) (v : Shown S) (s : Shows w v) (bytes : List ℕ) (frame : AnyFrame) (is : any_frame_in bytes ≡ Some frame) where
  -- the first that is named by everything that may have been said
  abbrev pub IsNamed : Option Party → Type 0
  IsNamed by = (said : Party → Option (List (List ℕ))) → AreShown said v.said → by ≡ forger_among v.keys said (parts_of frame)

  named : (by : Option Party) → IsNamed by → forger_among (keys_of w.setup) (texts_said w) (parts_of frame) ≡ by
  named by names =
      ap (λ (keys : Keys). forger_among keys (texts_said w) (parts_of frame)) s.keys
      ∙ sym (names (texts_said w) (same_shown (texts_of w.replicas w.clients) (texts_said w) v.said (said_is w) s.said))

  pub heard_frame : (pairs : Pairs) → IsNamed None → Keeps (texts_in_frame frame) v.texts pairs → HeardTo w bytes (record v { texts = pairs })
  heard_frame pairs none keeps =
      let kept = keeps w.texts s.texts in
      record {
        texts = kept.0;
        kept = heard_frame_is w bytes frame is ∙ ap₂ heard_of (named None none) kept.1;
        shows = with_texts w v kept.0 pairs s kept.2;
      }

  pub frame_forged : (by : Party) → IsNamed (Some by) → heard w bytes ≡ Err (Forged by)
  frame_forged by names = heard_frame_is w bytes frame is ∙ ap (λ (f : Option Party). heard_of f (keep_all (texts_in_frame frame) w.texts)) (named (Some by) names)

  pub frame_clashes : (d : Digest) → IsNamed None → Clashes (texts_in_frame frame) v.texts d → heard w bytes ≡ Err (Clash d)
  frame_clashes d none clash = heard_frame_is w bytes frame is ∙ ap₂ heard_of (named None none) (clash w.texts s.texts)

-- a text that clashed is told as the fault of the world
pub unheard_by_text : {S : Type 0} (w : World S) (bytes : List ℕ) (fault : TextFault) → ((d : Digest) → fault ≡ text_faults.Clash d → heard w bytes ≡ Err (Clash d)) → IsUnheardBy w bytes (world_fault fault)
unheard_by_text w bytes (text_faults.Clash d) breaks = breaks d refl
unheard_by_text w bytes text_faults.Want breaks = tt

-- ---- what is heard comes to a party

-- what is heard, and then what happens
abbrev pub carried : {S : Type 0} → Result Texts Broken → (Texts → Happened S) → Happened S
carried (Err broken) next = Breaks broken
carried (Ok texts) next = next texts

gone_with : {S : Type 0} (w : World S) (texts : Texts) (change : World S → World S) (note : Note) (r : Result Texts Digest) → go_with w change note r ≡ go_with (record w { texts = texts }) change note r
gone_with w texts change note (Ok kept) = refl
gone_with w texts change note (Err d) = refl

kept_then : {S : Type 0} (w : World S) (more : List (List ℕ)) (change : World S → World S) (note : Note) (k : Result Texts Digest)
    → go_with w change note (and_then k (keep_all more)) ≡ carried (heard_of None k) (λ texts. keeping (record w { texts = texts }) more change note)
kept_then w more change note (Err d) = refl
kept_then w more change note (Ok texts) = gone_with w texts change note (keep_all more texts)

heard_then : {S : Type 0} (w : World S) (texts more : List (List ℕ)) (change : World S → World S) (note : Note) (f : Option Party)
    → unless_forged f (keeping w (texts ++ more) change note) ≡ carried (heard_of f (keep_all texts w.texts)) (λ kept. keeping (record w { texts = kept }) more change note)
heard_then w texts more change note (Some by) = refl
heard_then w texts more change note None = ap (go_with w change note) (keep_all-append texts more w.texts) ∙ kept_then w more change note (keep_all texts w.texts)

to_replica : {S : Type 0} (R : Rules S) (w : World S) (bag : List Mail) (id : ReplicaId) (bytes : List ℕ) (o : Option (Option (Replica S))) → seat_in o ≡ sat.Correct
    → bring_to_replica R w (record w { bag = bag }) id bytes o ≡ carried (heard (record w { bag = bag }) bytes) (λ texts. replica_steps R (record w { bag = bag; texts = texts }) id (Heard bytes) o)
unfolding heard replica_steps
to_replica {S = S} R w bag id bytes (Some (Some x)) is =
    let o = whole_step R x.state (Heard bytes) in
    let m : World S = record w { bag = bag } in
    heard_then m (texts_in bytes) (step_texts o.deeds.acts)
    (λ v. with_sent (with_replica v id (stepped v.texts (Heard bytes) x o)) (outgoing_of o.state.me.0 o.state.counts.n o.deeds.sent))
    (replica_note id o.answer) (forger_in m bytes)
to_replica R w bag id bytes (Some None) is = absurd cc
to_replica R w bag id bytes None is = absurd cc

to_client : {S : Type 0} (w : World S) (bag : List Mail) (id : ClientId) (bytes : List ℕ) (o : Option (Option Client)) → seat_in o ≡ sat.Correct
    → bring_to_client w (record w { bag = bag }) id bytes o ≡ carried (heard (record w { bag = bag }) bytes) (λ texts. client_steps (record w { bag = bag; texts = texts }) id (Heard bytes) o)
unfolding heard client_steps
to_client {S = S} w bag id bytes (Some (Some x)) is =
    let o = client_step x.state (Heard bytes) in
    let m : World S = record w { bag = bag } in
    let done = completed_by x.state o.state in
    let change : World S → World S = λ v. with_done (with_sent (with_client v id (client_stepped x o)) (client_outgoing o.state.counts.n o.sent)) id done in
    let note = client_note id done o.answer in
    ap (λ (texts : List (List ℕ)). unless_forged (forger_in m bytes) (keeping m texts change note)) (sym (append-nil (texts_in bytes)))
    ∙ heard_then m (texts_in bytes) [] change note (forger_in m bytes)
to_client w bag id bytes (Some None) is = absurd cc
to_client w bag id bytes None is = absurd cc

brought_marked : {S : Type 0} (R : Rules S) (w : World S) (bag : List Mail) (party : Party) (bytes : List ℕ) → whole_seat w party ≡ sat.Correct
    → bring R w (record w { bag = bag }) party bytes ≡ carried (heard (record w { bag = bag }) bytes) (λ texts. steps R (record w { bag = bag; texts = texts }) party (Heard bytes))
unfolding steps
brought_marked R w bag (parties.Replica id) bytes is = to_replica R w bag id bytes (slice_get w.replicas id.0) is
brought_marked R w bag (parties.Client id) bytes is = to_client w bag id bytes (slice_get w.clients id.0) is

module _ {S : Type 0} (R : Rules S) (w : World S) (number : ℕ) (mail : Mail) (party : Party) (bytes : List ℕ) (correct : whole_seat w party ≡ sat.Correct) where
  brought : bring R w (delivered w number mail) party bytes
      ≡ carried (heard (delivered w number mail) bytes) (λ texts. steps R (record (delivered w number mail) { texts = texts }) party (Heard bytes))
  brought = brought_marked R w (slice_set w.bag (number - 1) (record mail { delivered = true })) party bytes correct

  -- what is heard is kept, and the party makes its step
  pub brought_heard : (v : Shown S) (h : HeardTo (delivered w number mail) bytes v)
      → bring R w (delivered w number mail) party bytes ≡ steps R (record (delivered w number mail) { texts = h.texts }) party (Heard bytes)
  brought_heard v h = brought ∙ ap (λ (r : Result Texts Broken). carried r (λ texts. steps R (record (delivered w number mail) { texts = texts }) party (Heard bytes))) h.kept

  pub brought_unheard : (fault : WorldFault) → IsUnheardBy (delivered w number mail) bytes fault → IsBrokenBy (bring R w (delivered w number mail) party bytes) fault
  brought_unheard (faults.Forged by) is = brought ∙ ap (λ (r : Result Texts Broken). carried r (λ texts. steps R (record (delivered w number mail) { texts = texts }) party (Heard bytes))) is
  brought_unheard (faults.Clash d) is = brought ∙ ap (λ (r : Result Texts Broken). carried r (λ texts. steps R (record (delivered w number mail) { texts = texts }) party (Heard bytes))) is
  brought_unheard faults.Want is = tt

replica_liar : {S : Type 0} (R : Rules S) (w marked : World S) (id : ReplicaId) (bytes : List ℕ) (o : Option (Option (Replica S))) → seat_in o ≡ sat.Liar → bring_to_replica R w marked id bytes o ≡ Goes marked Quiet
replica_liar R w marked id bytes (Some (Some x)) is = absurd cc
replica_liar R w marked id bytes (Some None) is = refl
replica_liar R w marked id bytes None is = absurd cc

client_liar : {S : Type 0} (w marked : World S) (id : ClientId) (bytes : List ℕ) (o : Option (Option Client)) → seat_in o ≡ sat.Liar → bring_to_client w marked id bytes o ≡ Goes marked Quiet
client_liar w marked id bytes (Some (Some x)) is = absurd cc
client_liar w marked id bytes (Some None) is = refl
client_liar w marked id bytes None is = absurd cc

pub brought_liar : {S : Type 0} (R : Rules S) (w marked : World S) (party : Party) (bytes : List ℕ) → whole_seat w party ≡ sat.Liar → bring R w marked party bytes ≡ Goes marked Quiet
brought_liar R w marked (parties.Replica id) bytes is = replica_liar R w marked id bytes (slice_get w.replicas id.0) is
brought_liar R w marked (parties.Client id) bytes is = client_liar w marked id bytes (slice_get w.clients id.0) is

replica_nobody : {S : Type 0} (R : Rules S) (w marked : World S) (id : ReplicaId) (bytes : List ℕ) (o : Option (Option (Replica S))) → seat_in o ≡ sat.Nobody → bring_to_replica R w marked id bytes o ≡ no_subject w
replica_nobody R w marked id bytes (Some (Some x)) is = absurd cc
replica_nobody R w marked id bytes (Some None) is = absurd cc
replica_nobody R w marked id bytes None is = refl

client_nobody : {S : Type 0} (w marked : World S) (id : ClientId) (bytes : List ℕ) (o : Option (Option Client)) → seat_in o ≡ sat.Nobody → bring_to_client w marked id bytes o ≡ no_subject w
client_nobody w marked id bytes (Some (Some x)) is = absurd cc
client_nobody w marked id bytes (Some None) is = absurd cc
client_nobody w marked id bytes None is = refl

pub brought_nobody : {S : Type 0} (R : Rules S) (w marked : World S) (party : Party) (bytes : List ℕ) → whole_seat w party ≡ sat.Nobody → bring R w marked party bytes ≡ no_subject w
brought_nobody R w marked (parties.Replica id) bytes is = replica_nobody R w marked id bytes (slice_get w.replicas id.0) is
brought_nobody R w marked (parties.Client id) bytes is = client_nobody w marked id bytes (slice_get w.clients id.0) is

-- ---- timers

replica_timed : {S : Type 0} (R : Rules S) (w : World S) (id : ReplicaId) (kind : TimerKind) (o : Option (Option (Replica S))) → has_timer (parties.Replica id) kind ≡ true
    → replica_timer_in R w id kind o ≡ replica_steps R w id (Timer kind) o
unfolding replica_steps
replica_timed R w id timers.Request (Some (Some x)) is = refl
replica_timed R w id timers.Change (Some (Some x)) is = refl
replica_timed R w id timers.Answer (Some (Some x)) is = absurd cc
replica_timed R w id kind (Some None) is = refl
replica_timed R w id kind None is = refl

client_timed : {S : Type 0} (w : World S) (id : ClientId) (kind : TimerKind) (o : Option (Option Client)) → has_timer (parties.Client id) kind ≡ true
    → client_timer_in w id kind o ≡ client_steps w id (Timer kind) o
unfolding client_steps
client_timed w id timers.Answer (Some (Some x)) is = refl
client_timed w id timers.Request (Some (Some x)) is = absurd cc
client_timed w id timers.Change (Some (Some x)) is = absurd cc
client_timed w id kind (Some None) is = refl
client_timed w id kind None is = refl

pub timed : {S : Type 0} (R : Rules S) (w : World S) (party : Party) (kind : TimerKind) → has_timer party kind ≡ true → timer_of R w party kind ≡ steps R w party (Timer kind)
unfolding steps
timed R w (parties.Replica id) kind is = replica_timed R w id kind (slice_get w.replicas id.0) is
timed R w (parties.Client id) kind is = client_timed w id kind (slice_get w.clients id.0) is

replica_untimed : {S : Type 0} (R : Rules S) (w : World S) (id : ReplicaId) (kind : TimerKind) (o : Option (Option (Replica S))) → has_timer (parties.Replica id) kind ≡ false
    → replica_timer_in R w id kind o ≡ no_subject w
replica_untimed R w id timers.Request (Some (Some x)) is = absurd cc
replica_untimed R w id timers.Change (Some (Some x)) is = absurd cc
replica_untimed R w id timers.Answer (Some (Some x)) is = refl
replica_untimed R w id kind (Some None) is = refl
replica_untimed R w id kind None is = refl

client_untimed : {S : Type 0} (w : World S) (id : ClientId) (kind : TimerKind) (o : Option (Option Client)) → has_timer (parties.Client id) kind ≡ false
    → client_timer_in w id kind o ≡ no_subject w
client_untimed w id timers.Answer (Some (Some x)) is = absurd cc
client_untimed w id timers.Request (Some (Some x)) is = refl
client_untimed w id timers.Change (Some (Some x)) is = refl
client_untimed w id kind (Some None) is = refl
client_untimed w id kind None is = refl

pub untimed : {S : Type 0} (R : Rules S) (w : World S) (party : Party) (kind : TimerKind) → has_timer party kind ≡ false → timer_of R w party kind ≡ no_subject w
untimed R w (parties.Replica id) kind is = replica_untimed R w id kind (slice_get w.replicas id.0) is
untimed R w (parties.Client id) kind is = client_untimed w id kind (slice_get w.clients id.0) is
