-- A disk in memory: the image that it began with, and the calls since that changed what a crash may leave.
use Rattle.std.specs.Prelude.{◌≡◌, ◌⊎◌, ℕ, ◌-◌, ◌≤◌, ◌==◌, ◌||◌, nat_lt, Bool, true, false, List, [], ◌∷◌, length, take, drop}
use mathlib.Core.Logic.{inl, inr}
use Rattle.std.proofs.Common.{arith}
use Rattle.zy_edge.specs.Memory.{CallCount, next_is_listed, counted}
use Rattle.zy_journal.specs.Disk.{with_bytes, Torn}
use Rattle.zy_journal.specs.declared.disk.Did as did
use Rattle.zy_journal.specs.declared.disk.memory.Kept.{Kept}
use Rattle.zy_journal.specs.declared.disk.memory.Kept.TheVariants as kept

pub data Call : Type 0 where
  Wrote : (at : ℕ) (bytes : List ℕ) → Call
  Synced : Call

-- the calls are told from the newest on
pub record MemoryDisk : Type 0 where
  pub first : List ℕ
  pub past : List Call
  pub left : ℕ
  pub turns : ℕ
  pub calls : CallCount

-- ---- what the calls did

-- what a read gives after them
abbrev pub now_of : List ℕ → List Call → List ℕ
now_of first [] = first
now_of first (Wrote at bytes ∷ past) = with_bytes at bytes (now_of first past)
now_of first (Synced ∷ past) = now_of first past

-- what a crash leaves after them: of a write any bytes in its range, and after a sync what a read gives
abbrev pub left_by : List ℕ → List Call → List ℕ → Type 0
left_by first [] image = image ≡ first
left_by first (Wrote at bytes ∷ past) image = (from : List ℕ) × left_by first past from × Torn at (length bytes) from image
left_by first (Synced ∷ past) image = image ≡ now_of first past

-- what a crash might have left when so many calls were made, or later
abbrev pub left_from : List ℕ → List Call → ℕ → List ℕ → Type 0
left_from first [] t image = left_by first [] image
left_from first (call ∷ past) t image = left_by first (call ∷ past) image ⊎ ((t ≤ length past) × left_from first past t image)

-- each write began inside the file
abbrev pub AreInside : List ℕ → List Call → Type 0
AreInside first [] = Unit {0}
AreInside first (Wrote at bytes ∷ past) = (at ≤ length (now_of first past)) × AreInside first past
AreInside first (Synced ∷ past) = AreInside first past

-- now is one of the moments since an earlier one
pub left_now : (first : List ℕ) (past : List Call) (t : ℕ) (image : List ℕ) → left_by first past image → left_from first past t image
left_now first [] t image left = left
left_now first (call ∷ past) t image left = inl left

-- since now there is no other
pub only_left : (first : List ℕ) (past : List Call) (image : List ℕ) → left_from first past (length past) image → left_by first past image
only_left first [] image left = left
only_left first (call ∷ past) image (inl left) = left
only_left first (call ∷ past) image (inr (late, left)) = absurd (omega arith)

-- ---- how they are kept

-- a kept write has its place and its length, and its bytes are the last of those that were written
abbrev pub calls_of : List Kept → List ℕ → List Call
calls_of [] written = []
calls_of (kept.Wrote at len ∷ earlier) written = Wrote at (drop (length written - len) written) ∷ calls_of earlier (take (length written - len) written)
calls_of (kept.Synced ∷ earlier) written = Synced ∷ calls_of earlier written

-- ---- what fails

-- a call fails exactly where no turn is left or its number is listed
abbrev pub disk_fails : MemoryDisk → Bool
disk_fails disk = disk.turns == 0 || next_is_listed disk.calls

-- a write fails as well where its bytes don't fit the room that is left
abbrev pub write_fails : MemoryDisk → List ℕ → Bool
write_fails disk bytes = disk_fails disk || nat_lt disk.left (length bytes)

-- ---- what a call leaves

abbrev pub contents_of : MemoryDisk → List ℕ
contents_of disk = now_of disk.first disk.past

-- one call more, which is or isn't a fault
abbrev pub after_call : Bool → MemoryDisk → MemoryDisk
after_call failed disk = record { first = disk.first; past = disk.past; left = disk.left; turns = disk.turns - 1; calls = counted failed disk.calls }

abbrev pub after_write : did.Did → ℕ → List ℕ → MemoryDisk → MemoryDisk
after_write did.TheVariants.Did at bytes disk = record { first = disk.first; past = Wrote at bytes ∷ disk.past; left = disk.left - length bytes; turns = disk.turns - 1; calls = counted false disk.calls }
after_write did.TheVariants.Failed at bytes disk = after_call true disk

abbrev pub after_sync : did.Did → MemoryDisk → MemoryDisk
after_sync did.TheVariants.Did disk = record { first = disk.first; past = Synced ∷ disk.past; left = disk.left; turns = disk.turns - 1; calls = counted false disk.calls }
after_sync did.TheVariants.Failed disk = after_call true disk
