-- The next frames are gathered one by one.
use Rattle.std.specs.Prelude.{◌≡◌, ℕ, ◌+◌, ◌≤◌, ◌⊎◌, Bool, true, false, List, ◌++◌, length, drop, slice_get, Some}
use Rattle.zy_world.specs.Ahead.{AreApart, due_from, is_free}
use Rattle.zy_world.specs.Passed.{is_due_in}
use Rattle.zy_world.specs.Shown.{Shown}
use Rattle.zy_world.specs.declared.batch.Batch.{Batch}
use Rattle.zy_world.specs.declared.batch.Due.{Due}
use Rattle.zy_world_law.specs.World.{Mail}

-- all frames that flows have left are the gathered ones and those from this index on
pub record IsGathered {S : Type 0} (v : Shown S) (all : List Due) (sits : List Bool) (at : ℕ) (batch : Batch) : Type 0 where
  pub due : all ≡ batch.dues.items ++ due_from (is_due_in v) (at + 1) (drop at v.bag.mails)
  pub apart : AreApart batch.sits.items batch.dues.items sits

-- it goes on from an index to another
abbrev pub GoesOn : {S : Type 0} → Shown S → ℕ → Batch → ℕ → Batch → Type 0
GoesOn v from old at new = (all : List Due) (sits : List Bool) → IsGathered v all sits from old → IsGathered v all sits at new

-- the frame at this index is due, and its replica stands among the gathered ones
pub record IsSecond {S : Type 0} (v : Shown S) (at : ℕ) (batch : Batch) : Type 0 where
  pub mail : Mail
  pub there : slice_get v.bag.mails at ≡ Some mail
  pub due : is_due_in v mail ≡ true
  pub stands : is_free mail.to batch.sits.items ≡ false

abbrev pub GoesIn : {S : Type 0} → Shown S → ℕ → Batch → Batch → Bool → Type 0
GoesIn v at old new true = GoesOn v at old (at + 1) new × (length new.dues.items ≤ length old.dues.items + 1)
GoesIn v at old new false = GoesOn v at old at new × (length new.dues.items ≤ length old.dues.items) × IsSecond v at new

-- they are gathered as far as it goes: no frame is left, or they are as many as may be, or the next goes to a replica that stands among them
pub record AreGathered {S : Type 0} (v : Shown S) (most : ℕ) (old new : Batch) : Type 0 where
  pub at : ℕ
  pub on : GoesOn v v.bag.passed.idle old at new
  pub few : length old.dues.items ≤ most → length new.dues.items ≤ most
  pub end : (length v.bag.mails ≤ at) ⊎ ((most ≤ length new.dues.items) ⊎ IsSecond v at new)
