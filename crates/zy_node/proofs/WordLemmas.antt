-- Nothing is sent before it is stored.
use Rattle.std.proofs.Common.{◌≡◌, inl, inr, ℕ, ◌+◌, ◌≤◌, List, [], ◌++◌, length, map, take, Option, Some, None, IfSome, is_some, Result, Ok, Err, refl, sym, ap, subst, ◌∙◌, append_assoc, length-append, arith}
use Rattle.std.proofs.lemmas.Grind.{flat_map-append}
use Rattle.std.proofs.lemmas.List.{append-nil, length-map, map-append, take_all}
use Rattle.std.proofs.Math.Seq.{take-append_seam, take-append-add}
use Rattle.zy_base.specs.declared.step.Event.{Event}
use Rattle.zy_edge.specs.Link.{Mail, Parcel, StaysAsTold}
use Rattle.zy_journal.specs.Disk.{LeavesOnly}
use Rattle.zy_journal.specs.Journal.{IsAtEnd, StandsFor}
use Rattle.zy_node.specs.Events.{SuitsJournal, after, event_bytes, events_of, events_of_all, kept, sent_by}
use Rattle.zy_node.specs.Keeping.{HasAll, HasFront, KeptState, StoresFront}
use Rattle.zy_node.specs.Rules.{Rules}
use Rattle.zy_node.specs.Serving.{FrontSent, HasLeast, IsCutOff, IsHalfGiven, IsKeptRun, KeepsRun, KeepsWord}
use Rattle.zy_node.specs.Told.{Moves, MovesAll, MovesFront, Outside}
use Rattle.zy_node.specs.Turn.{HostState, Turn, all_parcels, parcels_of, run, turned}
use Rattle.zy_node.specs.declared.fault.TakeFault.{TakeFault}
use Rattle.zy_node.specs.declared.fault.TakeFault.TheVariants as take_faults
use Rattle.zy_node.proofs.EventLemmas.{does_turn, kept_sent, same_as_kept, sent-append}
use Rattle.zy_node.proofs.StoreLemmas.{stored_after}

-- ---- what is sent

all_sent : (turns : List Turn) (all owed : List Parcel) (before later : Option Mail) → all ≡ owed → MovesAll turns all before later → IfSome before (λ mail. FrontSent owed mail later)
all_sent turns all owed None later is moves = tt
all_sent turns all owed (Some mail) later is moves = record {
  later = _;
  told = moves.1;
  front = all;
  rest = [];
  parts = sym is ∙ sym (append-nil all);
  sent = refl;
}

then_front : (turns : List Turn) (heard : Option (List ℕ)) (all more owed : List Parcel) (before between later : Option Mail) → owed ≡ all ++ more
    → MovesAll turns all before between → MovesFront heard more between later → IfSome before (λ mail. FrontSent owed mail later)
then_front turns heard all more owed None between later is one two = tt
then_front turns heard all more owed (Some mail) between later is one two =
    let there = subst (λ (m : Option Mail). Moves heard two.front m later) one.1 two.mail in record {
      later = _;
      told = there.1;
      front = all ++ two.front;
      rest = two.rest;
      parts = is ∙ ap (λ (l : List Parcel). all ++ l) two.parts ∙ sym (append_assoc all two.front two.rest);
      sent = append_assoc mail.sent all two.front;
    }

then_quiet : (owed : List Parcel) (before between later : Option Mail) → IfSome before (λ mail. FrontSent owed mail between) → StaysAsTold between later → IfSome before (λ mail. FrontSent owed mail later)
then_quiet owed None between later sent same = tt
then_quiet owed (Some mail) None later sent same = (let none : None ≡ Some sent.later = sent.told in absurd cc)
then_quiet owed (Some mail) (Some between) later sent same = record { later = sent.later; told = same ∙ sent.told; front = sent.front; rest = sent.rest; parts = sent.parts; sent = sent.sent }

-- ---- what is held

all_held : (file now : List ℕ) (least : ℕ) (pieces : List (List ℕ)) → least ≡ length pieces → HasAll file pieces now → HasLeast least file pieces now
all_held file now least pieces is has identity earlier stands = (
  length pieces,
  omega (arith, is),
  omega arith,
  subst (λ (l : List (List ℕ)). StandsFor identity now (earlier ++ l)) (sym (take_all (length pieces) pieces (omega arith))) (has identity earlier stands),
)

more_held : (file mid : List ℕ) (least : ℕ) (pieces more : List (List ℕ)) (image : List ℕ) → least ≡ length pieces → HasAll file pieces mid → HasFront mid more image → HasLeast least file (pieces ++ more) image
more_held file mid least pieces more image is has front identity earlier stands =
    let some = front identity (earlier ++ pieces) (has identity earlier stands) in
    let same : (earlier ++ pieces) ++ take some.0 more ≡ earlier ++ take (length pieces + some.0) (pieces ++ more) =
    append_assoc earlier pieces (take some.0 more) ∙ ap (λ (l : List (List ℕ)). earlier ++ l) (sym (take-append-add pieces more some.0)) in (
      length pieces + some.0,
      omega (arith, is),
      omega (arith, some.1, length-append pieces more),
      subst (StandsFor identity image) same some.2,
    )

module _ {S D : Type 0} (contents : D → Option (List ℕ)) (may_leave : D → List ℕ → Type 0) (moment : D → ℕ) (left_since : D → ℕ → List ℕ → Type 0) (R : Rules S) where
  -- all are stored
  stored_held : (images : List ℕ → Type 0) (least next : ℕ) (pieces : List (List ℕ)) (a b : Option (List ℕ)) → least ≡ length pieces → is_some b ≡ is_some a → IfSome a (λ file. IfSome b (HasAll file pieces)) → IsAtEnd b images next
      → IfSome a (λ file. (image : List ℕ) → images image → HasLeast least file pieces image)
  stored_held images least next pieces None b is stays has end = tt
  stored_held images least next pieces (Some file) None is stays has end = absurd cc
  stored_held images least next pieces (Some file) (Some now) is stays has end = λ image left. subst (HasLeast least file pieces) (sym (end.1 image left)) (all_held file now least pieces is has)

  -- and a front of some more
  front_held : (mid new : D) (least : ℕ) (pieces more : List (List ℕ)) (a b : Option (List ℕ)) → ((image : List ℕ) → moment mid ≤ moment new → may_leave new image → left_since new (moment mid) image) → least ≡ length pieces → is_some b ≡ is_some a
      → IfSome a (λ file. IfSome b (HasAll file pieces)) → IfSome b (λ file. LeavesOnly moment left_since mid new (HasFront file more))
      → IfSome a (λ file. (image : List ℕ) → may_leave new image → HasLeast least file (pieces ++ more) image)
  front_held mid new least pieces more None b counts is stays has front = tt
  front_held mid new least pieces more (Some file) None counts is stays has front = absurd cc
  front_held mid new least pieces more (Some file) (Some between) counts is stays has front =
      λ image left. more_held file between least pieces more image is has (front.each image (counts image front.later left))

  -- ---- a run

  abbrev pub Word : S → Option Mail → Option Mail → D → D → Type 0
  Word core before later old new = KeepsWord contents may_leave R core before later old new

  abbrev pub Ran : ℕ → KeptState S → KeptState S → Outside → Outside → D → D → Type 0
  Ran many before last from to old new = IsKeptRun contents may_leave moment left_since R many before last from to old new

  -- the events of the run that were stored, and those of a turn behind it
  abbrev pub run_kept : List Turn → HostState S → List Event
  run_kept turns host = kept R (events_of_all R turns host) host.core

  abbrev pub turn_kept : Turn → HostState S → List Event
  turn_kept t host = kept R (events_of R t host) host.core

  pub word_of_run : (many : ℕ) (before last : KeptState S) (from to : Outside) (old new : D) → SuitsJournal R → Ran many before last from to old new → Word before.host.core from.mail to.mail old new
  word_of_run many before last from to old new suits ran =
      let host = before.host in
      let turns = ran.run.turns in
      let es = run_kept turns host in record {
        events = es;
        given = length es;
        part = omega arith;
        sent = all_sent turns (run R turns host).sent (all_parcels (sent_by R (take (length es) es) host.core)) from.mail to.mail
            ((same_as_kept R turns host suits).sent ∙ ap (λ (l : List Event). all_parcels (sent_by R l host.core)) (sym (take_all (length es) es (omega arith)))) ran.run.mail;
        held = stored_held (may_leave new) (length es) last.gate (map event_bytes es) (contents old) (contents new) (sym (length-map es event_bytes)) ran.stored.told ran.stored.has ran.stored.end;
      }

  -- what the run's events and a turn's owe together
  both_owed : (turns : List Turn) (t : Turn) (host last : HostState S) → SuitsJournal R → last ≡ (run R turns host).host
      → all_parcels (sent_by R (run_kept turns host ++ turn_kept t last) host.core) ≡ (run R turns host).sent ++ (turned R t last).sent
  both_owed turns t host last suits is =
      let es = run_kept turns host in
      let more = turn_kept t last in
      let same = same_as_kept R turns host suits in
      let core : after R es host.core ≡ last.core = sym same.core ∙ ap (λ (h : HostState S). h.core) (sym is) in
      let turn_sent : all_parcels (sent_by R more last.core) ≡ (turned R t last).sent =
      ap all_parcels (kept_sent R (events_of R t last) last.core suits) ∙ sym (does_turn R t last).1 in
      ap all_parcels (sent-append R es more host.core) ∙ flat_map-append parcels_of (sent_by R es host.core) (sent_by R more (after R es host.core))
      ∙ ap (λ (l : List Parcel). l ++ all_parcels (sent_by R more (after R es host.core))) (sym same.sent)
      ∙ ap (λ (l : List Parcel). (run R turns host).sent ++ l) (ap (λ (s : S). all_parcels (sent_by R more s)) core ∙ turn_sent)

  word_of_half : (many : ℕ) (before last : KeptState S) (from between to : Outside) (old mid new : D) → SuitsJournal R → Ran many before last from between old mid
      → IsHalfGiven contents may_leave moment left_since R last between to mid new → Word before.host.core from.mail to.mail old new
  word_of_half many before last from between to old mid new suits ran half =
      let host = before.host in
      let turns = ran.run.turns in
      let es = run_kept turns host ++ turn_kept half.turn last.host in
      let stored = stored_after contents may_leave moment left_since old mid new before.gate last.gate half.next (map event_bytes (run_kept turns host)) (map event_bytes (turn_kept half.turn last.host)) ran.stored half.stored in
      let held = stored_held (may_leave new) (length es) half.next (map event_bytes (run_kept turns host) ++ map event_bytes (turn_kept half.turn last.host)) (contents old) (contents new)
      (sym (length-map es event_bytes) ∙ ap length (map-append event_bytes (run_kept turns host) (turn_kept half.turn last.host))) stored.told stored.has stored.end in
      record {
        events = es;
        given = length es;
        part = omega arith;
        sent = then_front turns half.turn.heard (run R turns host).sent (turned R half.turn last.host).sent (all_parcels (sent_by R (take (length es) es) host.core)) from.mail between.mail to.mail
            (ap (λ (l : List Event). all_parcels (sent_by R l host.core)) (take_all (length es) es (omega arith)) ∙ both_owed turns half.turn host last.host suits ran.run.host) ran.run.mail half.mail;
        held = subst (λ (ps : List (List ℕ)). IfSome (contents old) (λ file. (image : List ℕ) → may_leave new image → HasLeast (length es) file ps image)) (sym (map-append event_bytes (run_kept turns host) (turn_kept half.turn last.host))) held;
      }

  word_of_taking : (many : ℕ) (before last : KeptState S) (from between to : Outside) (old mid new : D) (t : Turn) → ((image : List ℕ) → moment mid ≤ moment new → may_leave new image → left_since new (moment mid) image) → SuitsJournal R
      → Ran many before last from between old mid → Moves t.heard [] between.mail to.mail → StoresFront contents moment left_since (map event_bytes (turn_kept t last.host)) mid new → Word before.host.core from.mail to.mail old new
  word_of_taking many before last from between to old mid new t counts suits ran moves front =
      let host = before.host in
      let turns = ran.run.turns in
      let first = run_kept turns host in
      let more = turn_kept t last.host in
      let held = front_held mid new (length first) (map event_bytes first) (map event_bytes more) (contents old) (contents mid) counts (sym (length-map first event_bytes)) ran.stored.told ran.stored.has front in
      record {
        events = first ++ more;
        given = length first;
        part = omega (arith, length-append first more);
        sent = then_front turns t.heard (run R turns host).sent [] (all_parcels (sent_by R (take (length first) (first ++ more)) host.core)) from.mail between.mail to.mail
            (ap (λ (l : List Event). all_parcels (sent_by R l host.core)) (take-append_seam first more) ∙ sym (same_as_kept R turns host suits).sent ∙ sym (append-nil (run R turns host).sent)) ran.run.mail
            (record { front = []; rest = []; parts = refl; mail = moves });
        held = subst (λ (ps : List (List ℕ)). IfSome (contents old) (λ file. (image : List ℕ) → may_leave new image → HasLeast (length first) file ps image)) (sym (map-append event_bytes first more)) held;
      }

  -- the link failed before anything was heard
  word_of_unheard : (core : S) (before between later : Option Mail) (old mid new : D) → Word core before between old mid → StaysAsTold between later → new ≡ mid → Word core before later old new
  word_of_unheard core before between later old mid new word same is = subst (λ (d : D). Word core before later old d) (sym is) (record {
    events = word.events;
    given = word.given;
    part = word.part;
    sent = then_quiet (all_parcels (sent_by R (take word.given word.events) core)) before between later word.sent same;
    held = word.held;
  })

  word_of_cut : (many : ℕ) (before last : KeptState S) (fault : TakeFault) (from between to : Outside) (old mid new : D) → ((image : List ℕ) → moment mid ≤ moment new → may_leave new image → left_since new (moment mid) image) → SuitsJournal R
      → Ran many before last from between old mid → IsCutOff contents may_leave moment left_since R last fault between to mid new → Word before.host.core from.mail to.mail old new
  word_of_cut many before last take_faults.Disk from between to old mid new counts suits ran cut = word_of_taking many before last from between to old mid new cut.turn counts suits ran cut.outside.mail cut.stored
  word_of_cut many before last take_faults.Full from between to old mid new counts suits ran cut = word_of_taking many before last from between to old mid new cut.turn counts suits ran cut.outside.mail cut.stored.1
  word_of_cut many before last take_faults.Want from between to old mid new counts suits ran cut = word_of_taking many before last from between to old mid new cut.turn counts suits ran cut.outside.mail cut.stored
  word_of_cut many before last take_faults.Link from between to old mid new counts suits ran (inl unheard) =
      word_of_unheard before.host.core from.mail between.mail to.mail old mid new (word_of_run many before last from between old mid suits ran) unheard.mail unheard.disk
  word_of_cut many before last take_faults.Link from between to old mid new counts suits ran (inr half) = word_of_half many before last from between to old mid new suits ran half

  pub word_of : (most : ℕ) (before : KeptState S) (result : Result (KeptState S) TakeFault) (from to : Outside) (old new : D) → ((disk : D) (t : ℕ) (image : List ℕ) → t ≤ moment disk → may_leave disk image → left_since disk t image) → SuitsJournal R
      → KeepsRun contents may_leave moment left_since R most before result from to old new → Word before.host.core from.mail to.mail old new
  word_of most before (Ok last) from to old new counts suits ran = word_of_run most before last from to old new suits ran
  word_of most before (Err fault) from to old new counts suits cut =
      word_of_cut cut.many before cut.last fault from cut.between to old cut.mid new (λ image later left. counts new (moment cut.mid) image later left) suits cut.run cut.cut
