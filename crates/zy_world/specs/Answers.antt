-- What a correct party answers to an event that brings it to a step. To lies, and to what reaches a liar, nobody answers.
use Rattle.std.specs.Prelude.{ℕ, if◌then◌else◌, List, slice_get, Option, Some, None, option_map, unwrap_or}
use Rattle.zy_base.specs.Machine.{Rules}
use Rattle.zy_base.specs.declared.ids.ClientId.{ClientId}
use Rattle.zy_base.specs.declared.ids.Party.{Party}
use Rattle.zy_base.specs.declared.ids.Party.TheVariants as parties
use Rattle.zy_base.specs.declared.step.Answer.{Answer}
use Rattle.zy_base.specs.declared.step.Event.{Event}
use Rattle.zy_base.specs.declared.step.Event.TheVariants.{Heard, Timer}
use Rattle.zy_base.specs.declared.step.TimerKind.{TimerKind}
use Rattle.zy_table.specs.ClientRows.{ask, client_step}
use Rattle.zy_table.specs.Whole.{whole_step}
use Rattle.zy_world.specs.Answered.{has_timer}
use Rattle.zy_world.specs.Shown.{Shown, Seated, numbered}
use Rattle.zy_world_law.specs.World.{Mail, correct_in}
use Rattle.zy_world_law.specs.declared.event.WorldEvent.{WorldEvent}
use Rattle.zy_world_law.specs.declared.event.WorldEvent.TheVariants as events

-- to what it hears, or to a timer
abbrev pub party_answer : {S : Type 0} → Rules S → Seated S → Party → Event → Option Answer
party_answer R seats (parties.Replica id) event = option_map (λ s. (whole_step R s event).answer) (correct_in (slice_get seats.replicas id.0))
party_answer R seats (parties.Client id) event = option_map (λ s. (client_step s event).answer) (correct_in (slice_get seats.clients id.0))

-- a client, to what it is to ask for
abbrev pub ask_answer : {S : Type 0} → Seated S → ClientId → List ℕ → Option Answer
ask_answer seats id op = option_map (λ s. (ask s op).answer) (correct_in (slice_get seats.clients id.0))

-- to a frame that reaches the named party, or the one that it is addressed to
abbrev pub heard_answer : {S : Type 0} → Rules S → Seated S → Option Party → Option Mail → Option Answer
heard_answer R seats to None = None
heard_answer R seats to (Some mail) = party_answer R seats (unwrap_or to mail.to) (Heard mail.bytes)

-- to a timer that it has
abbrev pub timer_answer : {S : Type 0} → Rules S → Seated S → Party → TimerKind → Option Answer
timer_answer R seats party kind = if has_timer party kind then party_answer R seats party (Timer kind) else None

abbrev pub answer_of : {S : Type 0} → Rules S → Shown S → WorldEvent → Option Answer
answer_of R v (events.Ask client op) = ask_answer v.seats client op
answer_of R v (events.Deliver number to) = heard_answer R v.seats to (numbered v.bag.mails number)
answer_of R v (events.Timer party kind) = timer_answer R v.seats party kind
answer_of R v (events.Order liar view asks to) = None
answer_of R v (events.Spec liar view asks to reply) = None
answer_of R v (events.Statement liar bytes to) = None
answer_of R v (events.Raw bytes to) = None
answer_of R v (events.Forge party bytes to) = None
