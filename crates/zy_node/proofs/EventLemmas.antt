-- A turn is what its events do, and what isn't refused does the same.
use Rattle.std.proofs.Common.{◌≡◌, inl, inr, ℕ, ◌+◌, ◌≤◌, Bool, true, false, List, [], ◌∷◌, ◌++◌, length, map, Option, Some, None, refl, sym, ap, subst, ◌∙◌, append_assoc, arith}
use Rattle.std.proofs.lemmas.Bool.{cases_lt, cond-true, cond-false}
use Rattle.std.proofs.lemmas.Grind.{flat_map-append}
use Rattle.std.proofs.lemmas.List.{append-nil, map-append}
use Rattle.zy_base.specs.declared.ids.Party.{Party}
use Rattle.zy_base.specs.declared.step.Event.{Event}
use Rattle.zy_base.specs.declared.step.Event.TheVariants as events
use Rattle.zy_base.specs.declared.step.TimerKind.{TimerKind}
use Rattle.zy_base.specs.declared.step.TimerKind.TheVariants as kinds
use Rattle.zy_edge.specs.Link.{Parcel}
use Rattle.zy_journal.specs.Journal.{IsPiece}
use Rattle.zy_pieces.specs.Gathering.{added}
use Rattle.zy_pieces.specs.declared.gather.Gathered.{Gathered}
use Rattle.zy_pieces.specs.declared.gather.Gathered.TheVariants.{Whole, Part, Refused}
use Rattle.zy_node.specs.Events.{IsSameAsKept, SuitsJournal, after, event_bytes, event_due, events_due, events_heard, events_in, events_of, events_of_all, kept, records, sent_by, unless_refused}
use Rattle.zy_node.specs.Rules.{Rules}
use Rattle.zy_node.specs.Timing as timing
use Rattle.zy_node.specs.Timing.{begun_at, is_reached, kept_for, moment_of}
use Rattle.zy_node.specs.Turn.{HostState, Reached, Turn, all_parcels, fires, fires_to, gathers, hears, onward, parcels_of, reads, run, stays, steps, turned}
use Rattle.zy_node.proofs.SendLemmas.{reached_with}
use Rattle.zy_node.proofs.StepLemmas.{fires-later, fires-now}

module _ {S : Type 0} (R : Rules S) where
  -- ---- one after another

  pub after-append : (es fs : List Event) (core : S) → after R (es ++ fs) core ≡ after R fs (after R es core)
  after-append [] fs core = refl
  after-append (e ∷ es) fs core = after-append es fs (R.step e core).state

  pub sent-append : (es fs : List Event) (core : S) → sent_by R (es ++ fs) core ≡ sent_by R es core ++ sent_by R fs (after R es core)
  sent-append [] fs core = refl
  sent-append (e ∷ es) fs core = ap (λ (l : List (Party × List ℕ)). (R.step e core).sent ++ l) (sent-append es fs (R.step e core).state) ∙ sym (append_assoc (R.step e core).sent _ _)

  unless-append : (refused : Bool) (e : Event) (es fs : List Event) → unless_refused refused e (es ++ fs) ≡ unless_refused refused e es ++ fs
  unless-append true e es fs = refl
  unless-append false e es fs = refl

  pub kept-append : (es fs : List Event) (core : S) → kept R (es ++ fs) core ≡ kept R es core ++ kept R fs (after R es core)
  kept-append [] fs core = refl
  kept-append (e ∷ es) fs core =
      ap (unless_refused (R.step e core).refused e) (kept-append es fs (R.step e core).state)
      ∙ unless-append (R.step e core).refused e (kept R es (R.step e core).state) (kept R fs (after R es (R.step e core).state))

  pub records-append : (es fs : List Event) (core : S) → records R (es ++ fs) core ≡ records R es core ++ records R fs (after R es core)
  records-append es fs core = ap (map event_bytes) (kept-append es fs core) ∙ map-append event_bytes (kept R es core) (kept R fs (after R es core))

  -- ---- a turn is what its events do

  -- a part of a turn is
  abbrev pub Does : List Event → HostState S → Reached S → Type 0
  Does es host r = (r.host.core ≡ after R es host.core) × (r.sent ≡ all_parcels (sent_by R es host.core))

  does_nothing : (host : HostState S) → Does [] host (stays host)
  does_nothing host = (refl, refl)

  does_step : (e : Event) (host : HostState S) → Does (e ∷ []) host (steps R e host)
  unfolding steps
  does_step e host = (refl, ap all_parcels (sym (append-nil (R.step e host.core).sent)))

  does_both : (es fs : List Event) (host : HostState S) (r : Reached S) (next : HostState S → Reached S) → Does es host r → Does fs r.host (next r.host) → Does (es ++ fs) host (onward r next)
  does_both es fs host r next one two = (
    two.0 ∙ ap (after R fs) one.0 ∙ sym (after-append es fs host.core),
    ap (λ (l : List Parcel). l ++ (next r.host).sent) one.1 ∙ ap (λ (l : List Parcel). all_parcels (sent_by R es host.core) ++ l) (two.1 ∙ ap (λ (s : S). all_parcels (sent_by R fs s)) one.0)
        ∙ sym (flat_map-append parcels_of (sent_by R es host.core) (sent_by R fs (after R es host.core))) ∙ ap all_parcels (sym (sent-append es fs host.core)),
  )

  does_frame : (answer : Gathered) (host : HostState S) → Does (events_in answer) host (gathers R answer host)
  does_frame (Whole frame) host = does_step (events.Heard frame) host
  does_frame Part host = does_nothing host
  does_frame (Refused fault) host = does_nothing host

  pub does_heard : (heard : Option (List ℕ)) (host : HostState S) → Does (events_heard heard host) host (hears R heard host)
  does_heard None host = does_nothing host
  does_heard (Some datagram) host = does_frame (added host.frames datagram).answer (record host { frames = (added host.frames datagram).frames })

  pub does_due : (kind : TimerKind) (now : ℕ) (host : HostState S) → Does (event_due kind now host) host (fires R kind now host)
  does_due kind now host = by (is_reached now (moment_of kind host.due)) refl
    where
      by : (b : Bool) → is_reached now (moment_of kind host.due) ≡ b → Does (event_due kind now host) host (fires R kind now host)
      by true is = subst (λ (es : List Event). Does es host (fires R kind now host)) (sym (cond-true (is_reached now (moment_of kind host.due)) (events.Timer kind ∷ []) [] is))
          (subst (Does (events.Timer kind ∷ []) host) (sym (fires-now R kind now host is)) (does_step (events.Timer kind) _))
      by false is = subst (λ (es : List Event). Does es host (fires R kind now host)) (sym (cond-false (is_reached now (moment_of kind host.due)) (events.Timer kind ∷ []) [] is))
          (subst (Does [] host) (sym (fires-later R kind now host is)) (does_nothing host))

  does_change : (now : ℕ) (host : HostState S) → Does (events_due R kinds.Change now host) host (fires_to R kinds.Change now host)
  does_change now host = does_both (event_due kinds.Request now host) _ host (fires R kinds.Request now host) (fires R kinds.Change now) (does_due kinds.Request now host) (does_due kinds.Change now _)

  pub does_fires : (kind : TimerKind) (now : ℕ) (host : HostState S) → Does (events_due R kind now host) host (fires_to R kind now host)
  does_fires kinds.Request now host = does_due kinds.Request now host
  does_fires kinds.Change now host = does_change now host
  does_fires kinds.Answer now host = does_both (events_due R kinds.Change now host) _ host (fires_to R kinds.Change now host) (fires R kinds.Answer now) (does_change now host) (does_due kinds.Answer now _)

  pub reads_core : (now : ℕ) (host : HostState S) → (reads R now host).core ≡ host.core
  unfolding reads
  reads_core now host = refl

  -- a reading changes no core
  does_read : (es : List Event) (now : ℕ) (host : HostState S) (r : Reached S) → Does es (reads R now host) r → Does es host r
  unfolding reads
  does_read es now host r does = does

  pub does_turn : (t : Turn) (host : HostState S) → Does (events_of R t host) host (turned R t host)
  unfolding turned
  does_turn t host =
      let heard = (hears R t.heard host).host in
      let due = events_due R kinds.Answer t.now (reads R t.now heard) in
      does_both (events_heard t.heard host) due host (hears R t.heard host) (λ next. fires_to R kinds.Answer t.now (reads R t.now next)) (does_heard t.heard host)
      (does_read due t.now heard (fires_to R kinds.Answer t.now (reads R t.now heard)) (does_fires kinds.Answer t.now (reads R t.now heard)))

  pub does_run : (turns : List Turn) (host : HostState S) → Does (events_of_all R turns host) host (run R turns host)
  does_run [] host = does_nothing host
  does_run (t ∷ turns) host = does_both (events_of R t host) (events_of_all R turns (turned R t host).host) host (turned R t host) (run R turns) (does_turn t host) (does_run turns (turned R t host).host)

  -- ---- what isn't refused does the same

  after_kept : (e : Event) (es : List Event) (core : S) (b : Bool) → SuitsJournal R → (R.step e core).refused ≡ b → after R (kept R es (R.step e core).state) (R.step e core).state ≡ after R es (R.step e core).state
      → after R (unless_refused b e (kept R es (R.step e core).state)) core ≡ after R es (R.step e core).state
  after_kept e es core true suits is rest = ap (λ (s : S). after R (kept R es (R.step e core).state) s) (sym (suits.still e core is).0) ∙ rest
  after_kept e es core false suits is rest = rest

  pub kept_after : (es : List Event) (core : S) → SuitsJournal R → after R (kept R es core) core ≡ after R es core
  kept_after [] core suits = refl
  kept_after (e ∷ es) core suits = after_kept e es core (R.step e core).refused suits refl (kept_after es (R.step e core).state suits)

  sent_kept : (e : Event) (es : List Event) (core : S) (b : Bool) → SuitsJournal R → (R.step e core).refused ≡ b → sent_by R (kept R es (R.step e core).state) (R.step e core).state ≡ sent_by R es (R.step e core).state
      → sent_by R (unless_refused b e (kept R es (R.step e core).state)) core ≡ (R.step e core).sent ++ sent_by R es (R.step e core).state
  sent_kept e es core true suits is rest =
      let still = suits.still e core is in
      ap (λ (s : S). sent_by R (kept R es (R.step e core).state) s) (sym still.0) ∙ rest ∙ ap (λ (l : List (Party × List ℕ)). l ++ sent_by R es (R.step e core).state) (sym still.1)
  sent_kept e es core false suits is rest = ap (λ (l : List (Party × List ℕ)). (R.step e core).sent ++ l) rest

  pub kept_sent : (es : List Event) (core : S) → SuitsJournal R → sent_by R (kept R es core) core ≡ sent_by R es core
  kept_sent [] core suits = refl
  kept_sent (e ∷ es) core suits = sent_kept e es core (R.step e core).refused suits refl (kept_sent es (R.step e core).state suits)

  pub same_as_kept : (turns : List Turn) (host : HostState S) → SuitsJournal R → IsSameAsKept R turns host
  same_as_kept turns host suits =
      let does = does_run turns host in
      let es = events_of_all R turns host in record {
        core = does.0 ∙ sym (kept_after es host.core suits);
        sent = does.1 ∙ ap all_parcels (sym (kept_sent es host.core suits));
      }

  -- ---- no timer for answers

  silent_steps : (e : Event) (host : HostState S) → SuitsJournal R → (steps R e host).host.due.answer ≡ None
  unfolding steps
  silent_steps e host suits = ap (λ (b : Bool). timing.kept b host.due.answer) (suits.unanswered (R.step e host.core).state)

  silent_reads : (now : ℕ) (host : HostState S) → SuitsJournal R → host.due.answer ≡ None → (reads R now host).due.answer ≡ None
  unfolding reads
  silent_reads now host suits none = ap (λ (b : Bool). timing.begun (now + 400) b host.due.answer) (suits.unanswered host.core) ∙ ap (timing.begun (now + 400) false) none

  silent_fires : (kind : TimerKind) (now : ℕ) (host : HostState S) → SuitsJournal R → host.due.answer ≡ None → (fires R kind now host).host.due.answer ≡ None
  silent_fires kind now host suits none = by (is_reached now (moment_of kind host.due)) refl
    where
      by : (b : Bool) → is_reached now (moment_of kind host.due) ≡ b → (fires R kind now host).host.due.answer ≡ None
      by true is = ap (λ (r : Reached S). r.host.due.answer) (fires-now R kind now host is) ∙ silent_steps (events.Timer kind) _ suits
      by false is = ap (λ (r : Reached S). r.host.due.answer) (fires-later R kind now host is) ∙ none

  silent_frame : (answer : Gathered) (host : HostState S) → SuitsJournal R → host.due.answer ≡ None → (gathers R answer host).host.due.answer ≡ None
  silent_frame (Whole frame) host suits none = silent_steps (events.Heard frame) host suits
  silent_frame Part host suits none = none
  silent_frame (Refused fault) host suits none = none

  silent_hears : (heard : Option (List ℕ)) (host : HostState S) → SuitsJournal R → host.due.answer ≡ None → (hears R heard host).host.due.answer ≡ None
  silent_hears None host suits none = none
  silent_hears (Some datagram) host suits none = silent_frame (added host.frames datagram).answer (record host { frames = (added host.frames datagram).frames }) suits none

  -- the last timer, where it has no moment
  never : (now : ℕ) (host : HostState S) → host.due.answer ≡ None → is_reached now (moment_of kinds.Answer host.due) ≡ false
  never now host none = ap (is_reached now) none

  onward_stays : (r : Reached S) (next : HostState S → Reached S) → next r.host ≡ stays r.host → onward r next ≡ r
  onward_stays r next is = ap (λ (n : Reached S). reached_with n.host (r.sent ++ n.sent)) is ∙ ap (reached_with r.host) (append-nil r.sent)

  -- a turn without that timer
  abbrev pub short_turn : Turn → HostState S → Reached S
  short_turn t host = onward (hears R t.heard host) (λ heard. fires_to R kinds.Change t.now (reads R t.now heard))

  silent_short : (t : Turn) (host : HostState S) → SuitsJournal R → host.due.answer ≡ None → (short_turn t host).host.due.answer ≡ None
  silent_short t host suits none =
      silent_fires kinds.Change t.now _ suits (silent_fires kinds.Request t.now _ suits (silent_reads t.now _ suits (silent_hears t.heard host suits none)))

  -- is the whole turn
  pub turned_short : (t : Turn) (host : HostState S) → SuitsJournal R → host.due.answer ≡ None → turned R t host ≡ short_turn t host
  unfolding turned
  turned_short t host suits none =
      let heard = (hears R t.heard host).host in
      let due = fires_to R kinds.Change t.now (reads R t.now heard) in
      let last : onward due (fires R kinds.Answer t.now) ≡ due = onward_stays due (fires R kinds.Answer t.now) (fires-later R kinds.Answer t.now due.host (never t.now due.host (silent_short t host suits none))) in
      ap (λ (r : Reached S). reached_with r.host ((hears R t.heard host).sent ++ r.sent)) last

  pub events_short : (t : Turn) (host : HostState S) → SuitsJournal R → host.due.answer ≡ None
      → events_of R t host ≡ events_heard t.heard host ++ events_due R kinds.Change t.now (reads R t.now (hears R t.heard host).host)
  events_short t host suits none =
      let heard = (hears R t.heard host).host in
      let due = fires_to R kinds.Change t.now (reads R t.now heard) in
      let es = events_due R kinds.Change t.now (reads R t.now heard) in
      let none_due : event_due kinds.Answer t.now due.host ≡ [] =
      cond-false (is_reached t.now (moment_of kinds.Answer due.host.due)) (events.Timer kinds.Answer ∷ []) [] (never t.now due.host (silent_short t host suits none)) in
      ap (λ (l : List Event). events_heard t.heard host ++ (es ++ l)) none_due ∙ ap (λ (l : List Event). events_heard t.heard host ++ l) (append-nil es)

  pub silent_turn : (t : Turn) (host : HostState S) → SuitsJournal R → host.due.answer ≡ None → (turned R t host).host.due.answer ≡ None
  silent_turn t host suits none = ap (λ (r : Reached S). r.host.due.answer) (turned_short t host suits none) ∙ silent_short t host suits none

  -- ---- records

  pub one_refused : (e : Event) (core : S) (refused : Bool) → refused ≡ (R.step e core).refused → refused ≡ true → records R (e ∷ []) core ≡ []
  one_refused e core refused is so = ap (λ (b : Bool). map event_bytes (unless_refused b e [])) (sym is ∙ so)

  pub one_kept : (e : Event) (core : S) (refused : Bool) → refused ≡ (R.step e core).refused → refused ≡ false → records R (e ∷ []) core ≡ event_bytes e ∷ []
  one_kept e core refused is so = ap (λ (b : Bool). map event_bytes (unless_refused b e [])) (sym is ∙ so)

  -- a frame that isn't refused has a record
  pub heard_fits : (frame : List ℕ) (core : S) → SuitsJournal R → (R.step (events.Heard frame) core).refused ≡ false → IsPiece (event_bytes (events.Heard frame))
  heard_fits frame core suits taken = elim (cases_lt 8388608 (length frame)) [
    | inl long ↦ (let refused = suits.short frame core long in absurd cc)
    | inr fits ↦ (omega arith, omega (arith, fits))
  ]

-- so has a timer of a replica
pub timer_fits : (kind : TimerKind) → 1 ≤ length (event_bytes (events.Timer kind)) → IsPiece (event_bytes (events.Timer kind))
timer_fits kinds.Request some = (omega arith, omega arith)
timer_fits kinds.Change some = (omega arith, omega arith)
timer_fits kinds.Answer none = absurd (omega (arith, none))
