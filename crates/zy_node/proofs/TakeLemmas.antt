-- What a turn hears is stored, then the timers that fire: together a turn.
use Rattle.std.proofs.Common.{◌≡◌, ℕ, Bool, true, false, List, [], ◌∷◌, ◌++◌, Option, Some, None, IfOk, Result, Ok, Err, refl, sym, ap, subst, ◌∙◌}
use Rattle.std.proofs.lemmas.Bool.{cond-true, cond-false}
use Rattle.std.proofs.lemmas.List.{append-nil}
use Rattle.zy_base.specs.declared.step.Event.{Event}
use Rattle.zy_base.specs.declared.step.Event.TheVariants as events
use Rattle.zy_base.specs.declared.step.TimerKind.{TimerKind}
use Rattle.zy_base.specs.declared.step.TimerKind.TheVariants as kinds
use Rattle.zy_edge.specs.Link.{Parcel}
use Rattle.zy_journal.specs.Journal.{IsAtEnd}
use Rattle.zy_pieces.specs.Gathering.{added}
use Rattle.zy_pieces.specs.declared.gather.Gathered.{Gathered}
use Rattle.zy_pieces.specs.declared.gather.Gathered.TheVariants.{Whole, Part, Refused}
use Rattle.zy_pieces.specs.declared.piece.PieceFault.{PieceFault}
use Rattle.zy_node.specs.Events.{SuitsJournal, event_bytes, event_due, events_due, events_heard, events_in, records}
use Rattle.zy_node.specs.Keeping.{IsUnsent, KeepsAs, TakesTo, UnsentState, turn_records}
use Rattle.zy_node.specs.Rules.{Rules}
use Rattle.zy_node.specs.Timing.{again_at, is_reached, moment_of}
use Rattle.zy_node.specs.Told.{Outside}
use Rattle.zy_node.specs.Turn.{HostState, Reached, Turn, fires, fires_to, gathers, hears, reads, stays, steps, turned}
use Rattle.zy_node.specs.declared.fault.TakeFault.{TakeFault}
use Rattle.zy_node.specs.declared.fault.TakeFault.TheVariants as take_faults
use Rattle.zy_node.proofs.EventLemmas.{does_due, does_heard, events_short, one_kept, one_refused, reads_core, records-append, short_turn, silent_turn, turned_short}
use Rattle.zy_node.proofs.StepLemmas.{fires-later, fires-now}
use Rattle.zy_node.proofs.StoreLemmas.{fails_first, nothing_to_store, then_keeps}

module _ {S D : Type 0} (contents : D → Option (List ℕ)) (may_leave : D → List ℕ → Type 0) (moment : D → ℕ) (left_since : D → ℕ → List ℕ → Type 0) (R : Rules S) where
  abbrev pub Keeps : Reached S → List (List ℕ) → UnsentState S → Result (UnsentState S) TakeFault → D → D → Type 0
  Keeps r pieces before result old new = KeepsAs contents may_leave moment left_since r pieces before result old new

  -- what is owed and stored tells of the gate and of what was owed alone
  same_before : (r : Reached S) (pieces : List (List ℕ)) (host : HostState S) (before : UnsentState S) (result : Result (UnsentState S) TakeFault) (old new : D)
      → Keeps r pieces (record { host = host; gate = before.gate; owed = before.owed }) result old new → Keeps r pieces before result old new
  same_before r pieces host before (Ok after) old new keeps = keeps
  same_before r pieces host before (Err fault) old new keeps = keeps

  -- ---- a step

  -- with a step's datagrams behind those that were owed
  abbrev pub after_step : Event → UnsentState S → UnsentState S
  after_step event before = record { host = (steps R event before.host).host; gate = before.gate; owed = before.owed ++ (steps R event before.host).sent }

  -- nothing is stored of an event that is refused
  pub refused_keeps : (event : Event) (before after : UnsentState S) (refused : Bool) (disk : D) → ((image : List ℕ) → left_since disk (moment disk) image → may_leave disk image) → IsAtEnd (contents disk) (may_leave disk) before.gate
      → after ≡ after_step event before → refused ≡ (R.step event before.host.core).refused → refused ≡ true
      → Keeps (steps R event before.host) (records R (event ∷ []) before.host.core) before (Ok after) disk disk
  refused_keeps event before after refused disk only end is tells so =
      subst (λ (u : UnsentState S). Keeps (steps R event before.host) (records R (event ∷ []) before.host.core) before (Ok u) disk disk) (sym is)
      (subst (λ (ps : List (List ℕ)). Keeps (steps R event before.host) ps before (Ok (after_step event before)) disk disk) (sym (one_refused R event before.host.core refused tells so))
      (refl, refl, nothing_to_store contents may_leave moment left_since disk before.gate only end))

  -- and the record of one that isn't
  pub taken_keeps : (event : Event) (before middle : UnsentState S) (refused : Bool) (piece : List ℕ) (result : Result (UnsentState S) TakeFault) (old new : D)
      → middle ≡ after_step event before → refused ≡ (R.step event before.host.core).refused → refused ≡ false → piece ≡ event_bytes event
      → Keeps (stays middle.host) (piece ∷ []) middle result old new → Keeps (steps R event before.host) (records R (event ∷ []) before.host.core) before result old new
  taken_keeps event before middle refused piece result old new is tells so spelled keeps =
      subst (λ (ps : List (List ℕ)). Keeps (steps R event before.host) ps before result old new)
      (ap (λ (p : List ℕ). p ∷ []) spelled ∙ sym (one_kept R event before.host.core refused tells so))
      (by result (subst (λ (u : UnsentState S). Keeps (stays u.host) (piece ∷ []) u result old new) is keeps))
    where
      by : (r : Result (UnsentState S) TakeFault) → Keeps (stays (steps R event before.host).host) (piece ∷ []) (after_step event before) r old new → Keeps (steps R event before.host) (piece ∷ []) before r old new
      by (Ok after) k = (k.0, k.1 ∙ append-nil (before.owed ++ (steps R event before.host).sent), k.2)
      by (Err fault) k = k

  -- ---- a timer

  pub due_keeps : (kind : TimerKind) (now : ℕ) (before again : UnsentState S) (result : Result (UnsentState S) TakeFault) (old new : D) → is_reached now (moment_of kind before.host.due) ≡ true
      → again ≡ record { host = record before.host { due = again_at now kind before.host.due }; gate = before.gate; owed = before.owed }
      → Keeps (steps R (events.Timer kind) again.host) (records R (events.Timer kind ∷ []) again.host.core) again result old new
      → Keeps (fires R kind now before.host) (records R (event_due kind now before.host) before.host.core) before result old new
  due_keeps kind now before again result old new due is keeps =
      let there : HostState S = record before.host { due = again_at now kind before.host.due } in
      let here = same_before (steps R (events.Timer kind) there) (records R (events.Timer kind ∷ []) before.host.core) there before result old new
      (subst (λ (u : UnsentState S). Keeps (steps R (events.Timer kind) u.host) (records R (events.Timer kind ∷ []) u.host.core) u result old new) is keeps) in
      let one : event_due kind now before.host ≡ events.Timer kind ∷ [] = cond-true (is_reached now (moment_of kind before.host.due)) (events.Timer kind ∷ []) [] due in
      subst (λ (r : Reached S). Keeps r (records R (event_due kind now before.host) before.host.core) before result old new) (sym (fires-now R kind now before.host due))
      (subst (λ (es : List Event). Keeps (steps R (events.Timer kind) there) (records R es before.host.core) before result old new) (sym one) here)

  pub not_due_keeps : (kind : TimerKind) (now : ℕ) (before : UnsentState S) (disk : D) → ((image : List ℕ) → left_since disk (moment disk) image → may_leave disk image) → IsAtEnd (contents disk) (may_leave disk) before.gate
      → is_reached now (moment_of kind before.host.due) ≡ false → Keeps (fires R kind now before.host) (records R (event_due kind now before.host) before.host.core) before (Ok before) disk disk
  not_due_keeps kind now before disk only end later =
      let none : event_due kind now before.host ≡ [] = cond-false (is_reached now (moment_of kind before.host.due)) (events.Timer kind ∷ []) [] later in
      subst (λ (r : Reached S). Keeps r (records R (event_due kind now before.host) before.host.core) before (Ok before) disk disk) (sym (fires-later R kind now before.host later))
      (subst (λ (es : List Event). Keeps (stays before.host) (records R es before.host.core) before (Ok before) disk disk) (sym none)
      (refl, sym (append-nil before.owed), nothing_to_store contents may_leave moment left_since disk before.gate only end))

  -- ---- a datagram

  -- the node once a datagram was gathered
  abbrev pub gathered : List ℕ → UnsentState S → UnsentState S
  gathered datagram before = record { host = record before.host { frames = (added before.host.frames datagram).frames }; gate = before.gate; owed = before.owed }

  pub whole_keeps : (datagram : List ℕ) (before next : UnsentState S) (answer : Gathered) (frame : List ℕ) (result : Result (UnsentState S) TakeFault) (old new : D)
      → answer ≡ (added before.host.frames datagram).answer → next ≡ gathered datagram before → answer ≡ Whole frame
      → Keeps (steps R (events.Heard frame) next.host) (records R (events.Heard frame ∷ []) next.host.core) next result old new
      → Keeps (hears R (Some datagram) before.host) (records R (events_heard (Some datagram) before.host) before.host.core) before result old new
  whole_keeps datagram before next answer frame result old new gives is whole keeps =
      let here = same_before (steps R (events.Heard frame) (gathered datagram before).host) (records R (events.Heard frame ∷ []) before.host.core) (gathered datagram before).host before result old new
      (subst (λ (u : UnsentState S). Keeps (steps R (events.Heard frame) u.host) (records R (events.Heard frame ∷ []) u.host.core) u result old new) is keeps) in
      subst (λ (a : Gathered). Keeps (gathers R a (gathered datagram before).host) (records R (events_in a) before.host.core) before result old new) (sym whole ∙ gives) here

  part_of_frame : (datagram : List ℕ) (before next : UnsentState S) (answer : Gathered) (disk : D) → ((image : List ℕ) → left_since disk (moment disk) image → may_leave disk image) → IsAtEnd (contents disk) (may_leave disk) before.gate
      → next ≡ gathered datagram before → events_in answer ≡ [] → gathers R answer (gathered datagram before).host ≡ stays (gathered datagram before).host
      → Keeps (gathers R answer (gathered datagram before).host) (records R (events_in answer) before.host.core) before (Ok next) disk disk
  part_of_frame datagram before next answer disk only end is none stays_there =
      subst (λ (u : UnsentState S). Keeps (gathers R answer (gathered datagram before).host) (records R (events_in answer) before.host.core) before (Ok u) disk disk) (sym is)
      (subst (λ (es : List Event). Keeps (gathers R answer (gathered datagram before).host) (records R es before.host.core) before (Ok (gathered datagram before)) disk disk) (sym none)
      (subst (λ (r : Reached S). Keeps r [] before (Ok (gathered datagram before)) disk disk) (sym stays_there)
      (refl, sym (append-nil before.owed), nothing_to_store contents may_leave moment left_since disk before.gate only end)))

  pub part_keeps : (datagram : List ℕ) (before next : UnsentState S) (answer : Gathered) (disk : D) → ((image : List ℕ) → left_since disk (moment disk) image → may_leave disk image) → IsAtEnd (contents disk) (may_leave disk) before.gate
      → answer ≡ (added before.host.frames datagram).answer → next ≡ gathered datagram before → answer ≡ Part
      → Keeps (hears R (Some datagram) before.host) (records R (events_heard (Some datagram) before.host) before.host.core) before (Ok next) disk disk
  part_keeps datagram before next answer disk only end gives is part =
      subst (λ (a : Gathered). Keeps (gathers R a (gathered datagram before).host) (records R (events_in a) before.host.core) before (Ok next) disk disk) (sym part ∙ gives)
      (part_of_frame datagram before next Part disk only end is refl refl)

  pub refused_frame_keeps : (datagram : List ℕ) (before next : UnsentState S) (answer : Gathered) (fault : PieceFault) (disk : D) → ((image : List ℕ) → left_since disk (moment disk) image → may_leave disk image) → IsAtEnd (contents disk) (may_leave disk) before.gate
      → answer ≡ (added before.host.frames datagram).answer → next ≡ gathered datagram before → answer ≡ Refused fault
      → Keeps (hears R (Some datagram) before.host) (records R (events_heard (Some datagram) before.host) before.host.core) before (Ok next) disk disk
  refused_frame_keeps datagram before next answer fault disk only end gives is refused =
      subst (λ (a : Gathered). Keeps (gathers R a (gathered datagram before).host) (records R (events_in a) before.host.core) before (Ok next) disk disk) (sym refused ∙ gives)
      (part_of_frame datagram before next (Refused fault) disk only end is refl refl)

  -- ---- the timers

  due_records : (now : ℕ) (host : HostState S)
      → records R (event_due kinds.Request now host) host.core ++ records R (event_due kinds.Change now (fires R kinds.Request now host).host) (fires R kinds.Request now host).host.core ≡ records R (events_due R kinds.Change now host) host.core
  due_records now host =
      ap (λ (s : S). records R (event_due kinds.Request now host) host.core ++ records R (event_due kinds.Change now (fires R kinds.Request now host).host) s) (does_due R kinds.Request now host).0
      ∙ sym (records-append R (event_due kinds.Request now host) (event_due kinds.Change now (fires R kinds.Request now host).host) host.core)

  pub both_due : (now : ℕ) (host : HostState S) (before middle : UnsentState S) (result : Result (UnsentState S) TakeFault) (old mid new : D)
      → Keeps (fires R kinds.Request now host) (records R (event_due kinds.Request now host) host.core) before (Ok middle) old mid
      → Keeps (fires R kinds.Change now middle.host) (records R (event_due kinds.Change now middle.host) middle.host.core) middle result mid new
      → Keeps (fires_to R kinds.Change now host) (records R (events_due R kinds.Change now host) host.core) before result old new
  both_due now host before middle result old mid new one two =
      let first = fires R kinds.Request now host in
      let there = subst (λ (h : HostState S). Keeps (fires R kinds.Change now h) (records R (event_due kinds.Change now h) h.core) middle result mid new) one.0 two in
      let all = then_keeps contents may_leave moment left_since first (fires R kinds.Change now) (records R (event_due kinds.Request now host) host.core) (records R (event_due kinds.Change now first.host) first.host.core) before middle result old mid new one there in
      subst (λ (ps : List (List ℕ)). Keeps (fires_to R kinds.Change now host) ps before result old new) (due_records now host) all

  pub first_due_fails : (now : ℕ) (host : HostState S) (before : UnsentState S) (fault : TakeFault) (old new : D)
      → Keeps (fires R kinds.Request now host) (records R (event_due kinds.Request now host) host.core) before (Err fault) old new
      → Keeps (fires_to R kinds.Change now host) (records R (events_due R kinds.Change now host) host.core) before (Err fault) old new
  first_due_fails now host before fault old new one =
      let first = fires R kinds.Request now host in
      let all = fails_first contents may_leave moment left_since first (fires R kinds.Change now) (records R (event_due kinds.Request now host) host.core) (records R (event_due kinds.Change now first.host) first.host.core) before fault old new one in
      subst (λ (ps : List (List ℕ)). Keeps (fires_to R kinds.Change now host) ps before (Err fault) old new) (due_records now host) all

  -- ---- the whole turn

  abbrev pub heard_of : Turn → HostState S → HostState S
  heard_of t host = (hears R t.heard host).host

  abbrev pub due_of : Turn → HostState S → List (List ℕ)
  due_of t host = records R (events_due R kinds.Change t.now (reads R t.now (heard_of t host))) (reads R t.now (heard_of t host)).core

  all_records : (t : Turn) (host : HostState S) → SuitsJournal R → host.due.answer ≡ None → records R (events_heard t.heard host) host.core ++ due_of t host ≡ turn_records R t host
  all_records t host suits none =
      ap (λ (s : S). records R (events_heard t.heard host) host.core ++ records R (events_due R kinds.Change t.now (reads R t.now (heard_of t host))) s) (reads_core R t.now (heard_of t host) ∙ (does_heard R t.heard host).0)
      ∙ sym (records-append R (events_heard t.heard host) (events_due R kinds.Change t.now (reads R t.now (heard_of t host))) host.core)
      ∙ ap (λ (es : List Event). records R es host.core) (sym (events_short R t host suits none))

  as_turn : (t : Turn) (before : UnsentState S) (result : Result (UnsentState S) TakeFault) (old new : D) → SuitsJournal R → before.host.due.answer ≡ None
      → Keeps (short_turn R t before.host) (records R (events_heard t.heard before.host) before.host.core ++ due_of t before.host) before result old new
      → Keeps (turned R t before.host) (turn_records R t before.host) before result old new
  as_turn t before result old new suits none keeps =
      subst (λ (r : Reached S). Keeps r (turn_records R t before.host) before result old new) (sym (turned_short R t before.host suits none))
      (subst (λ (ps : List (List ℕ)). Keeps (short_turn R t before.host) ps before result old new) (all_records t before.host suits none) keeps)

  abbrev pub with_reading : ℕ → UnsentState S → UnsentState S
  with_reading now middle = record { host = reads R now middle.host; gate = middle.gate; owed = middle.owed }

  pub heard_then_due : (t : Turn) (before middle read : UnsentState S) (result : Result (UnsentState S) TakeFault) (old mid new : D) → SuitsJournal R → before.host.due.answer ≡ None
      → Keeps (hears R t.heard before.host) (records R (events_heard t.heard before.host) before.host.core) before (Ok middle) old mid → read ≡ with_reading t.now middle
      → Keeps (fires_to R kinds.Change t.now read.host) (records R (events_due R kinds.Change t.now read.host) read.host.core) read result mid new
      → Keeps (turned R t before.host) (turn_records R t before.host) before result old new
  heard_then_due t before middle read result old mid new suits none one is two =
      let here = subst (λ (u : UnsentState S). Keeps (fires_to R kinds.Change t.now u.host) (records R (events_due R kinds.Change t.now u.host) u.host.core) u result mid new) is two in
      let there = subst (λ (h : HostState S). Keeps (fires_to R kinds.Change t.now (reads R t.now h)) (records R (events_due R kinds.Change t.now (reads R t.now h)) (reads R t.now h).core) middle result mid new) one.0
      (same_before (fires_to R kinds.Change t.now (reads R t.now middle.host)) (records R (events_due R kinds.Change t.now (reads R t.now middle.host)) (reads R t.now middle.host).core) (reads R t.now middle.host) middle result mid new here) in
      as_turn t before result old new suits none
      (then_keeps contents may_leave moment left_since (hears R t.heard before.host) (λ heard. fires_to R kinds.Change t.now (reads R t.now heard)) (records R (events_heard t.heard before.host) before.host.core) (due_of t before.host) before middle result old mid new one there)

  -- nothing was heard
  pub quiet_then_due : (now : ℕ) (before read : UnsentState S) (result : Result (UnsentState S) TakeFault) (old new : D) → SuitsJournal R → before.host.due.answer ≡ None
      → ((image : List ℕ) → left_since old (moment old) image → may_leave old image) → IsAtEnd (contents old) (may_leave old) before.gate → read ≡ with_reading now before
      → Keeps (fires_to R kinds.Change now read.host) (records R (events_due R kinds.Change now read.host) read.host.core) read result old new
      → Keeps (turned R (record { heard = None; now = now }) before.host) (turn_records R (record { heard = None; now = now }) before.host) before result old new
  quiet_then_due now before read result old new suits none only end is two =
      heard_then_due (record { heard = None; now = now }) before before read result old old new suits none
      (refl, sym (append-nil before.owed), nothing_to_store contents may_leave moment left_since old before.gate only end) is two

  pub hearing_fails : (t : Turn) (before : UnsentState S) (fault : TakeFault) (old new : D) → SuitsJournal R → before.host.due.answer ≡ None
      → Keeps (hears R t.heard before.host) (records R (events_heard t.heard before.host) before.host.core) before (Err fault) old new
      → Keeps (turned R t before.host) (turn_records R t before.host) before (Err fault) old new
  hearing_fails t before fault old new suits none one =
      as_turn t before (Err fault) old new suits none
      (fails_first contents may_leave moment left_since (hears R t.heard before.host) (λ heard. fires_to R kinds.Change t.now (reads R t.now heard)) (records R (events_heard t.heard before.host) before.host.core) (due_of t before.host) before fault old new one)

  -- ---- what is told of it

  pub taken_to : (t : Turn) (before : UnsentState S) (result : Result (UnsentState S) TakeFault) (from to : Outside) (old new : D) → before.owed ≡ [] → IsUnsent t from to
      → Keeps (turned R t before.host) (turn_records R t before.host) before result old new
      → TakesTo contents may_leave moment left_since R (record { host = before.host; gate = before.gate }) result from to old new
  taken_to t before (Ok after) from to old new free outside keeps = record {
    turn = t;
    outside = outside;
    host = keeps.0;
    owed = keeps.1 ∙ ap (λ (l : List Parcel). l ++ (turned R t before.host).sent) free;
    stored = keeps.2;
  }
  taken_to t before (Err take_faults.Disk) from to old new free outside keeps = record { turn = t; outside = outside; stored = keeps }
  taken_to t before (Err take_faults.Link) from to old new free outside keeps = absurd keeps
  taken_to t before (Err take_faults.Full) from to old new free outside keeps = record { turn = t; outside = outside; stored = keeps }
  taken_to t before (Err take_faults.Want) from to old new free outside keeps = record { turn = t; outside = outside; stored = keeps }

  pub stays_silent : (t : Turn) (before : UnsentState S) (result : Result (UnsentState S) TakeFault) (old new : D) → SuitsJournal R → before.host.due.answer ≡ None
      → Keeps (turned R t before.host) (turn_records R t before.host) before result old new → IfOk result (λ after. after.host.due.answer ≡ None)
  stays_silent t before (Ok after) old new suits none keeps = ap (λ (h : HostState S). h.due.answer) keeps.0 ∙ silent_turn R t before.host suits none
  stays_silent t before (Err fault) old new suits none keeps = tt
