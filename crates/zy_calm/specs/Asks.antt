-- Calm schedules: some replicas are muted, and then clients ask one after another, each once the one before is served.
use Rattle.std.specs.Prelude.{ℕ, List, [], ◌∷◌, ◌++◌, map}
use Rattle.std.specs.List.{flat_map}
use Rattle.zy_base.specs.declared.ids.ClientId.{ClientId}
use Rattle.zy_base.specs.declared.ids.Party.TheVariants.{Client, Replica}
use Rattle.zy_base.specs.declared.step.TimerKind.TheVariants.{Answer}
use Rattle.zy_schedule.specs.declared.line.Line.{Line}
use Rattle.zy_schedule.specs.declared.line.Line.TheVariants.{Ask, Flow, Mute, Timer}
use Rattle.zy_table.specs.declared.client.Path.{Path}
use Rattle.zy_table.specs.declared.client.Path.TheVariants.{Fast, Slow}
use Rattle.zy_tuple.specs.declared.values.Op.{Op}

-- one request of a calm schedule
pub record CalmAsk : Type 0 where
  pub client : ClientId
  pub op : Op
  -- up to how many frames are delivered after it, and on the slow path once more after its timer
  pub flow : ℕ
  pub again : ℕ

-- Fast: it is asked for, and what that leads to is delivered. Slow: and then its client's timer runs out, and what that leads to is
-- delivered.
abbrev pub lines_of : Path → CalmAsk → List Line
lines_of Fast a = Ask a.client a.op ∷ Flow a.flow ∷ []
lines_of Slow a = Ask a.client a.op ∷ Flow a.flow ∷ Timer (Client a.client) Answer ∷ Flow a.again ∷ []

-- the replica with this number is silent
abbrev pub mute_line : ℕ → Line
mute_line id = Mute (Replica (record { 0 = id }))

abbrev pub calm_lines : Path → List ℕ → List CalmAsk → List Line
calm_lines path muted asks = map mute_line muted ++ flat_map (lines_of path) asks
