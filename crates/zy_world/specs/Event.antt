-- Which events a world takes: those that a schedule's lines spell.
use Rattle.std.specs.Prelude.{ℕ, ◌≤◌, ◌<◌, ◌^◌, List, length, ⊤}
use Rattle.zy_base.specs.declared.ids.View.{View}
use Rattle.zy_world_law.specs.declared.event.WorldEvent.{WorldEvent}
use Rattle.zy_chain.specs.Answers.{FitsAnswers}
use Rattle.zy_world_law.specs.declared.event.WorldEvent.TheVariants as events

-- a view that can be spelled, and 1 to 64 frames
pub record IsHistoryTold (view : View) (asks : List ℕ) : Type 0 where
  pub view_fits : view.0 < 2 ^ 62
  pub some : 1 ≤ length asks
  pub most : length asks ≤ 64

abbrev pub IsEvent : WorldEvent → Type 0
IsEvent (events.Ask client op) = length op ≤ 1100
IsEvent (events.Deliver number to) = ⊤
IsEvent (events.Timer party kind) = ⊤
IsEvent (events.Order liar view asks to) = IsHistoryTold view asks
IsEvent (events.Spec liar view asks to reply) = IsHistoryTold view asks × FitsAnswers reply
IsEvent (events.Statement liar bytes to) = ⊤
IsEvent (events.Raw bytes to) = ⊤
IsEvent (events.Forge party bytes to) = ⊤
