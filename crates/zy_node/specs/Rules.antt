-- What a node has to know of its core, which is a replica or a client.
use Rattle.std.specs.Prelude.{ℕ, Bool, true, false, List}
use Rattle.zy_base.specs.declared.ids.Party.{Party}
use Rattle.zy_base.specs.declared.step.Answer.{Answer}
use Rattle.zy_base.specs.declared.step.Answer.TheVariants as answers
use Rattle.zy_base.specs.declared.step.Event.{Event}
use Rattle.zy_base.specs.declared.step.Timers.{Timers}

-- what a step made of its event: the core's state after it, the frames that it sent, each to whom and its bytes, and whether the
-- event was refused
pub record Deed (S : Type 0) : Type 0 where
  pub state : S
  pub sent : List (Party × List ℕ)
  pub refused : Bool

pub record Rules (S : Type 0) : Type 0 where
  pub step : Event → S → Deed S
  -- the timers that are to run
  pub timers : S → Timers
  -- whether nothing is left to wait for
  pub is_done : S → Bool

abbrev pub is_refused : Answer → Bool
is_refused answers.Taken = false
is_refused answers.Held = false
is_refused (answers.Refused cause) = true
