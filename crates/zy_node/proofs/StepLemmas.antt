-- A step of the core, as what makes a frame whole or a timer's moment leads to it.
use Rattle.std.proofs.Common.{◌≡◌, ℕ, true, false, List, Option, Result, Ok, refl, sym, subst, ◌∙◌}
use Rattle.std.proofs.lemmas.Bool.{cond-true, cond-false}
use Rattle.zy_base.specs.declared.ids.Party.{Party}
use Rattle.zy_base.specs.declared.step.Event.{Event}
use Rattle.zy_base.specs.declared.step.Event.TheVariants as events
use Rattle.zy_base.specs.declared.step.TimerKind.{TimerKind}
use Rattle.zy_edge.specs.Link.{Mail}
use Rattle.zy_pieces.specs.Gathering.{Gathering, added}
use Rattle.zy_pieces.specs.declared.gather.Gathered.{Gathered}
use Rattle.zy_pieces.specs.declared.gather.Gathered.TheVariants.{Whole, Part, Refused}
use Rattle.zy_pieces.specs.declared.piece.PieceFault.{PieceFault}
use Rattle.zy_node.specs.Rules.{Rules}
use Rattle.zy_node.specs.Timing.{again_at, is_reached, kept_for, moment_of}
use Rattle.zy_node.specs.Told.{ComesTo}
use Rattle.zy_node.specs.Turn.{HostState, Reached, all_parcels, fires, gathers, stays, steps, takes}
use Rattle.zy_node.specs.declared.due.Due.{Due}
use Rattle.zy_node.specs.declared.fault.NodeFault.{NodeFault}
use Rattle.zy_node.proofs.SendLemmas.{Sends-nil, reached_with}

abbrev pub host_with : {S : Type 0} → List Gathering → S → Due → HostState S
host_with frames core due = record { core = core; frames = frames; due = due }

-- ---- a step

pub stepped : {S : Type 0} (R : Rules S) (event : Event) (before : HostState S) (state : S) (due : Due) (out : List (Party × List ℕ))
    → state ≡ (R.step event before.core).state → due ≡ kept_for (R.timers state) before.due → out ≡ (R.step event before.core).sent
    → steps R event before ≡ reached_with (host_with before.frames state due) (all_parcels out)
unfolding steps
stepped {S} R event before state due out state_is due_is out_is = sym (both state due out state_is due_is out_is)
  where
    both : (s : S) (d : Due) (o : List (Party × List ℕ)) → s ≡ (R.step event before.core).state → d ≡ kept_for (R.timers s) before.due → o ≡ (R.step event before.core).sent
        → reached_with (host_with before.frames s d) (all_parcels o)
        ≡ reached_with (host_with before.frames (R.step event before.core).state (kept_for (R.timers (R.step event before.core).state) before.due)) (all_parcels (R.step event before.core).sent)
    both s d o p q r = cc

-- ---- a frame that has become whole

module _ {S : Type 0} (R : Rules S) (datagram : List ℕ) (host next : HostState S) (answer : Gathered) (gathered : answer ≡ (added host.frames datagram).answer)
    (kept : next ≡ record host { frames = (added host.frames datagram).frames }) where
  pub takes_whole : (frame : List ℕ) (result : Result (HostState S) (NodeFault (HostState S))) (before after : Option Mail) → answer ≡ Whole frame → ComesTo (steps R (events.Heard frame) next) result before after
      → ComesTo (takes R datagram host) result before after
  takes_whole frame result before after whole comes =
      let now : HostState S = record host { frames = (added host.frames datagram).frames } in
      let here = subst (λ (h : HostState S). ComesTo (steps R (events.Heard frame) h) result before after) kept comes in
      subst (λ (a : Gathered). ComesTo (gathers R a now) result before after) (sym whole ∙ gathered) here

  pub takes_part : (mail : Option Mail) → answer ≡ Part → ComesTo (takes R datagram host) (Ok next) mail mail
  takes_part mail part =
      let now : HostState S = record host { frames = (added host.frames datagram).frames } in
      subst (λ (a : Gathered). ComesTo (gathers R a now) (Ok next) mail mail) (sym part ∙ gathered) (kept, Sends-nil mail)

  pub takes_refused : (fault : PieceFault) (mail : Option Mail) → answer ≡ Refused fault → ComesTo (takes R datagram host) (Ok next) mail mail
  takes_refused fault mail refused =
      let now : HostState S = record host { frames = (added host.frames datagram).frames } in
      subst (λ (a : Gathered). ComesTo (gathers R a now) (Ok next) mail mail) (sym refused ∙ gathered) (kept, Sends-nil mail)

-- ---- a timer

pub fires-now : {S : Type 0} (R : Rules S) (kind : TimerKind) (now : ℕ) (host : HostState S) → is_reached now (moment_of kind host.due) ≡ true
    → fires R kind now host ≡ steps R (events.Timer kind) (record host { due = again_at now kind host.due })
unfolding fires
fires-now R kind now host due = cond-true (is_reached now (moment_of kind host.due)) (steps R (events.Timer kind) (record host { due = again_at now kind host.due })) (stays host) due

pub fires-later : {S : Type 0} (R : Rules S) (kind : TimerKind) (now : ℕ) (host : HostState S) → is_reached now (moment_of kind host.due) ≡ false → fires R kind now host ≡ stays host
unfolding fires
fires-later R kind now host later = cond-false (is_reached now (moment_of kind host.due)) (steps R (events.Timer kind) (record host { due = again_at now kind host.due })) (stays host) later

pub fired : {S : Type 0} (R : Rules S) (kind : TimerKind) (now : ℕ) (host again : HostState S) (result : Result (HostState S) (NodeFault (HostState S))) (before after : Option Mail)
    → is_reached now (moment_of kind host.due) ≡ true → again ≡ record host { due = again_at now kind host.due } → ComesTo (steps R (events.Timer kind) again) result before after
    → ComesTo (fires R kind now host) result before after
fired {S} R kind now host again result before after due is comes =
    subst (λ (r : Reached S). ComesTo r result before after) (sym (fires-now R kind now host due))
    (subst (λ (h : HostState S). ComesTo (steps R (events.Timer kind) h) result before after) is comes)

pub not_fired : {S : Type 0} (R : Rules S) (kind : TimerKind) (now : ℕ) (host : HostState S) (mail : Option Mail) → is_reached now (moment_of kind host.due) ≡ false → ComesTo (fires R kind now host) (Ok host) mail mail
not_fired {S} R kind now host mail later = subst (λ (r : Reached S). ComesTo r (Ok host) mail mail) (sym (fires-later R kind now host later)) (refl, Sends-nil mail)
