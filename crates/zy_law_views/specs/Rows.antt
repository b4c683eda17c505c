-- When the outcome of a row in which a replica leaves its view, or keeps what it hears, is lawful.
use Rattle.std.specs.Prelude.{◌≡◌, ℕ, Bool, true, false, List}
use Rattle.zy_base.specs.Machine.{Rules}
use Rattle.zy_base.specs.declared.cause.Cause.{Cause}
use Rattle.zy_base.specs.declared.cause.Cause.TheVariants as causes
use Rattle.zy_base.specs.declared.ids.Party.TheVariants.{Replica}
use Rattle.zy_chain.specs.declared.entry.Entry.{Entry}
use Rattle.zy_choose.specs.Marks.{link}
use Rattle.zy_law.specs.Lawful.{IsLawful}
use Rattle.zy_law.specs.Said.{IsCorrect}
use Rattle.zy_law.specs.Steps.{AllMay}
use Rattle.zy_law.specs.World.{World}
use Rattle.zy_law_normal.specs.Acts.{acts_of, world_after}
use Rattle.zy_table.specs.Deeds.{Outcome}
use Rattle.zy_table.specs.State.{State}
use Rattle.zy_law_views.specs.Tied.{IsTied}
use Rattle.zy_law_views.specs.Cores.{core_of}

-- A correct replica that signs as itself is tied to a lawful world.
pub record IsReady {S : Type 0} (R : Rules S) (interval : ℕ) (w : World) (r : ℕ) (s : State S) (history : List Entry) : Type 0 where
  pub lawful : IsLawful w
  pub links : w.next ≡ link
  pub correct : IsCorrect w r
  pub tied : IsTied R interval w r (core_of s) history
  pub signer : s.sealer.me ≡ Replica s.views.me
  pub interval_is : s.views.interval ≡ interval

-- What it says is allowed, one after another, and it is tied to the world after that, with the history that it had.
pub record IsLawfulRow {S : Type 0} (R : Rules S) (interval : ℕ) (w : World) (r : ℕ) (s : State S) (history : List Entry) (outcome : Outcome S) : Type 0 where
  pub may : AllMay w r (acts_of w r s history outcome)
  pub tied : IsTied R interval (world_after w r s history outcome) r (core_of outcome.state) history

-- A cause that blames those whose statements a replica holds: two heads stand at one place of what is proven, the own stable
-- checkpoint isn't on the chosen history, or another snapshot is told, or comes, than the one that is had or waited for.
abbrev pub blames : Cause → Bool
blames (causes.AnchorClash first second) = true
blames (causes.BelowStable own other) = true
blames (causes.WrongState own other) = true
blames cause = false
