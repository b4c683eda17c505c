-- What a calm run comes to.
use Rattle.std.specs.Prelude.{◌≡◌, ◌⊎◌, ℕ, List}
use Rattle.zy_base.specs.Machine.{Rules}
use Rattle.zy_base.specs.declared.ids.Digest.{Digest}
use Rattle.zy_table.specs.declared.client.Path.{Path}
use Rattle.zy_world_law.specs.Events.Broken.{Clash}
use Rattle.zy_world_law.specs.Runs.{Run, run}
use Rattle.zy_world_law.specs.Runs.End.{At, Stopped}
use Rattle.zy_world_law.specs.Setup.{Setup}
use Rattle.zy_world_law.specs.World.{World, start}
use Rattle.zy_calm.specs.Asks.{CalmAsk, calm_lines}
use Rattle.zy_calm.specs.Notes.{calm_notes}

-- All of its lines are run, and this is told of it.
pub record IsServed {S : Type 0} (R : Rules S) (s : Setup) (path : Path) (muted : List ℕ) (asks : List CalmAsk) (r : Run S) : Type 0 where
  pub world : World S
  pub notes : r.notes ≡ calm_notes R s path muted asks
  pub end : r.end ≡ At world

abbrev pub calm_run : {S : Type 0} → Rules S → Setup → Path → List ℕ → List CalmAsk → Run S
calm_run R s path muted asks = run R (calm_lines path muted asks) (start R s)

-- Every request is served, or two texts share a digest.
abbrev pub RunsCalmly : {S : Type 0} → Rules S → Setup → Path → List ℕ → List CalmAsk → Type 0
RunsCalmly R s path muted asks =
    IsServed R s path muted asks (calm_run R s path muted asks) ⊎ ((d : Digest) × ((calm_run R s path muted asks).end ≡ Stopped (Clash d)))
