-- A replica's steps suit a journal.
use Rattle.std.proofs.Common.{◌≡◌, ℕ, ◌<◌, nat_lt, Bool, true, false, List, [], length, drop, Err, refl, ap, arith}
use Rattle.std.specs.Prelude.{Result}
use Rattle.std.proofs.lemmas.Bool.{cond-true, lt-ltb}
use Rattle.zy_base.specs.Machine as machine
use Rattle.zy_base.specs.declared.frame_fault.FrameFault.{FrameFault}
use Rattle.zy_base.specs.declared.frame_fault.FrameFault.TheVariants as faults
use Rattle.zy_base.specs.declared.step.Answer.{Answer}
use Rattle.zy_base.specs.declared.step.Answer.TheVariants as answers
use Rattle.zy_base.specs.declared.step.Event.{Event}
use Rattle.zy_base.specs.declared.step.Event.TheVariants as events
use Rattle.zy_base.specs.declared.step.Mode.{Mode}
use Rattle.zy_base.specs.declared.step.Mode.TheVariants.{Active, Leaving}
use Rattle.zy_frames.specs.Frames.{frame_at, frame_in}
use Rattle.zy_frames.specs.declared.frame.Frame.{Frame}
use Rattle.zy_table.specs.Deeds.{Outcome, outgoing_of}
use Rattle.zy_table.specs.State.{State, timers_in, waits}
use Rattle.zy_table.specs.Whole.{decoded_as, whole_step}
use Rattle.zy_table.proofs.Refusals.{step_stays}
use Rattle.zy_wire.specs.Framing.{framed_in}
use Rattle.zy_wire.specs.Kind.{kind_of_parts, frame_limit}
use Rattle.zy_wire.specs.Spelling.{◌>>=◌, ended}
use Rattle.zy_node.specs.Events.{SuitsJournal}
use Rattle.zy_node.specs.Replicas.{replica_rules}
use Rattle.zy_node.specs.Rules.{is_refused}

module _ {S : Type 0} (R : machine.Rules S) where
  still : (event : Event) (s : State S) → is_refused (whole_step R s event).answer ≡ true → ((whole_step R s event).state ≡ s) × (outgoing_of (whole_step R s event).state.me.0 (whole_step R s event).state.counts.n (whole_step R s event).deeds.sent ≡ [])
  still event s refused = by (whole_step R s event).answer refl refused
    where
      by : (answer : Answer) → (whole_step R s event).answer ≡ answer → is_refused answer ≡ true → ((whole_step R s event).state ≡ s) × (outgoing_of (whole_step R s event).state.me.0 (whole_step R s event).state.counts.n (whole_step R s event).deeds.sent ≡ [])
      by answers.Taken is so = absurd cc
      by answers.Held is so = absurd cc
      by (answers.Refused cause) is so =
          let stays = step_stays R s event cause is in
          (ap (λ (o : Outcome S). o.state) stays, ap (λ (o : Outcome S). outgoing_of o.state.me.0 o.state.counts.n o.deeds.sent) stays)

  too_long : (bytes : List ℕ) → frame_limit < length bytes → frame_in bytes ≡ Err faults.TooLong
  unfolding framed_in
  too_long bytes long =
      ap (λ (read : Result ℕ FrameFault). read >>= (λ kind. frame_at kind (drop 2 bytes) >>= (λ x. ended x.0 x.1)))
      (cond-true (nat_lt frame_limit (length bytes)) (Err faults.TooLong) (kind_of_parts bytes) (lt-ltb frame_limit (length bytes) long))

  short : (frame : List ℕ) (s : State S) → 8388608 < length frame → is_refused (whole_step R s (events.Heard frame)).answer ≡ true
  unfolding whole_step
  short frame s long = ap (λ (read : Result Frame FrameFault). is_refused (decoded_as R s frame read).answer) (too_long frame (omega arith))

  no_answer : (mode : Mode) (waiting : Bool) → (timers_in mode waiting).answer ≡ false
  no_answer (Active view) waiting = refl
  no_answer (Leaving view) waiting = refl

  pub replica_suits : SuitsJournal (replica_rules R)
  replica_suits = record { still = still; short = short; unanswered = λ s. no_answer s.views.mode (waits s); unending = λ s. refl }
