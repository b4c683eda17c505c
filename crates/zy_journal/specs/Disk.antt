-- What the calls of a disk do to its file, and what a crash may leave of it.
use Rattle.std.specs.Prelude.{◌≡◌, ◌⊎◌, ℕ, ◌+◌, ◌≤◌, max, Bool, true, false, Option, Some, IfSome, is_some, List, ◌++◌, length, take, drop}
use Rattle.zy_journal.specs.declared.disk.Did as did
use Rattle.zy_journal.specs.declared.disk.Filled as filled
use Rattle.zy_journal.specs.declared.disk.Size as size

-- ---- files

-- the file with these bytes at this place, where it doesn't end before
abbrev pub with_bytes : ℕ → List ℕ → List ℕ → List ℕ
with_bytes at bytes file = take at file ++ (bytes ++ drop (at + length bytes) file)

-- what stands from this place on begins with these bytes
abbrev pub StandsAt : List ℕ → ℕ → List ℕ → Type 0
StandsAt bytes at file = drop at file ≡ bytes ++ drop (at + length bytes) file

-- Of a write of n bytes at this place a crash may leave any bytes in that range, and any length between the old one
-- and the new. What stands outside stays.
pub record Torn (at n : ℕ) (old new : List ℕ) : Type 0 where
  pub before : take at new ≡ take at old
  pub after : drop (at + n) new ≡ drop (at + n) old
  pub no_shorter : length old ≤ length new
  pub no_longer : length new ≤ max (length old) (at + n)

-- ---- images that a crash may leave

-- each image after a call is one from before it, after the step
abbrev pub Follows : (List ℕ → List ℕ → Type 0) → (List ℕ → Type 0) → (List ℕ → Type 0) → Type 0
Follows step old new = (image : List ℕ) → new image → (from : List ℕ) × old from × step from image

-- no image is new
abbrev pub Narrows : (List ℕ → Type 0) → (List ℕ → Type 0) → Type 0
Narrows old new = (image : List ℕ) → new image → old image

-- a crash leaves this and nothing else
abbrev pub Only : List ℕ → (List ℕ → Type 0) → Type 0
Only file images = (image : List ℕ) → images image → image ≡ file

-- the contents are told, and are what a crash leaves and nothing else
pub record IsOnly (file : List ℕ) (contents : Option (List ℕ)) (images : List ℕ → Type 0) : Type 0 where
  pub told : contents ≡ Some file
  pub image : images file
  pub only : Only file images

-- ---- moments

-- Time goes on: a crash since some moment might have left what it might have left before, or what it may leave now.
pub record Elapses (before now : ℕ) (past since : ℕ → List ℕ → Type 0) (may_leave : List ℕ → Type 0) : Type 0 where
  pub later : before ≤ now
  pub nothing_else : (t : ℕ) (image : List ℕ) → t ≤ before → since t image → past t image ⊎ may_leave image
  pub keeps : (t : ℕ) (image : List ℕ) → t ≤ before → past t image → since t image

-- A crash at any moment from old to new leaves an image that has P.
pub record LeavesOnly {D : Type 0} (moment : D → ℕ) (left_since : D → ℕ → List ℕ → Type 0) (old new : D) (P : List ℕ → Type 0) : Type 0 where
  pub later : moment old ≤ moment new
  pub each : (image : List ℕ) → left_since new (moment old) image → P image
  -- for a run that began earlier
  pub before : (t : ℕ) (image : List ℕ) → t ≤ moment old → left_since new t image → left_since old t image ⊎ P image

-- nothing was written: the contents are the same, and no image is new
pub record Rests {D : Type 0} (contents : D → Option (List ℕ)) (may_leave : D → List ℕ → Type 0) (moment : D → ℕ) (left_since : D → ℕ → List ℕ → Type 0) (old new : D) : Type 0 where
  pub same : contents new ≡ contents old
  pub image : IfSome (contents new) (may_leave new)
  pub narrows : Narrows (may_leave old) (may_leave new)
  pub leaves : LeavesOnly moment left_since old new (may_leave old)

-- ---- calls

-- a disk that tells its contents goes on telling them, and one that doesn't never does
abbrev pub StaysTold : Option (List ℕ) → Option (List ℕ) → Type 0
StaysTold before after = is_some after ≡ is_some before

abbrev pub did_failed : did.Did → Bool
did_failed did.TheVariants.Did = false
did_failed did.TheVariants.Failed = true

abbrev pub size_failed : size.Size → Bool
size_failed (size.TheVariants.Is _) = false
size_failed size.TheVariants.Failed = true

abbrev pub fill_failed : filled.Filled → Bool
fill_failed filled.TheVariants.Filled = false
fill_failed filled.TheVariants.Failed = true

-- a fact, where a call did what it was to do
abbrev pub OnDid : did.Did → Type 0 → Type 0
OnDid did.TheVariants.Did fact = fact
OnDid did.TheVariants.Failed fact = Unit {0}

-- the length of what is told
abbrev pub IsSize : size.Size → Option (List ℕ) → Type 0
IsSize (size.TheVariants.Is n) contents = IfSome contents (λ file. n ≡ length file)
IsSize size.TheVariants.Failed contents = Unit {0}

-- the bytes at this place, as many as the buffer holds
abbrev pub IsFilled : filled.Filled → ℕ → List ℕ → Option (List ℕ) → Type 0
IsFilled filled.TheVariants.Filled at buf contents = IfSome contents (λ file. StandsAt buf at file)
IsFilled filled.TheVariants.Failed at buf contents = Unit {0}

-- where they are told, the contents have these bytes at this place
abbrev pub IsWritten : ℕ → List ℕ → Option (List ℕ) → Option (List ℕ) → Type 0
IsWritten at bytes before after = IfSome before (λ file. after ≡ Some (with_bytes at bytes file))
