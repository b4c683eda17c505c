-- The calls that a disk in memory keeps, and what they leave.
use Rattle.std.proofs.Common.{◌≡◌, ◌⊎◌, inl, inr, ℕ, ◌-◌, Bool, Some, List, [], ◌∷◌, ◌++◌, length, reverse, refl, sym, ◌∙◌, ap, subst, arith, length-append}
use Rattle.std.proofs.lemmas.List.{take_at, drop_at, reverse-append}
use Rattle.zy_journal.specs.Disk.{Torn, Follows, Narrows, Elapses, Only, OnDid, IsWritten}
use Rattle.zy_journal.specs.Memory.{Call, Wrote, Synced, MemoryDisk, now_of, left_by, left_from, calls_of, AreInside, contents_of, after_call, after_write, after_sync}
use Rattle.zy_journal.specs.declared.disk.Did as did
use Rattle.zy_journal.specs.declared.disk.memory.Kept.{Kept}
use Rattle.zy_journal.specs.declared.disk.memory.Kept.TheVariants as kept
use Rattle.zy_journal.proofs.Files.{torn_same, written_torn}

-- ---- what is kept

pub kept_write : (past : List Kept) (written bytes : List ℕ) (at : ℕ) → calls_of (reverse (past ++ kept.Wrote at (length bytes) ∷ [])) (written ++ bytes) ≡ Wrote at bytes ∷ calls_of (reverse past) written
kept_write past written bytes at =
    let size : length written ≡ length (written ++ bytes) - length bytes = omega (arith, length-append written bytes) in
    ap (λ (ks : List Kept). calls_of ks (written ++ bytes)) (reverse-append past (kept.Wrote at (length bytes) ∷ []))
    ∙ (λ i. Wrote at (drop_at written bytes (length (written ++ bytes) - length bytes) size i) ∷ calls_of (reverse past) (take_at written bytes (length (written ++ bytes) - length bytes) size i))

pub kept_sync : (past : List Kept) (written : List ℕ) → calls_of (reverse (past ++ kept.Synced ∷ [])) written ≡ Synced ∷ calls_of (reverse past) written
kept_sync past written = ap (λ (ks : List Kept). calls_of ks written) (reverse-append past (kept.Synced ∷ []))

-- ---- images

-- what a read gives is one of them
pub now_left : (first : List ℕ) (past : List Call) → AreInside first past → left_by first past (now_of first past)
now_left first [] inside = refl
now_left first (Wrote at bytes ∷ past) inside = (now_of first past, now_left first past inside.1, written_torn at bytes (now_of first past) inside.0)
now_left first (Synced ∷ past) inside = refl

pub elapses_same : (first : List ℕ) (past : List Call) → Elapses (length past) (length past) (left_from first past) (left_from first past) (left_by first past)
elapses_same first past = record { later = omega arith; nothing_else = λ t image le left. inl left; keeps = λ t image le left. left }

elapses_call : (first : List ℕ) (past : List Call) (call : Call) → Elapses (length past) (length (call ∷ past)) (left_from first past) (left_from first (call ∷ past)) (left_by first (call ∷ past))
elapses_call first past call = record {
  later = omega arith;
  nothing_else = λ t image le left. was t image left;
  keeps = λ t image le left. inr (le, left);
}
  where
    was : (t : ℕ) (image : List ℕ) → left_from first (call ∷ past) t image → left_from first past t image ⊎ left_by first (call ∷ past) image
    was t image (inl now) = inr now
    was t image (inr earlier) = inl earlier.1

module _ (disk : MemoryDisk) where
  abbrev Images : MemoryDisk → List ℕ → Type 0
  Images d = left_by d.first d.past

  abbrev Goes : MemoryDisk → Type 0
  Goes new = Elapses (length disk.past) (length new.past) (left_from disk.first disk.past) (left_from new.first new.past) (left_by new.first new.past)

  pub write_goes : (result : did.Did) (at : ℕ) (bytes : List ℕ) → Goes (after_write result at bytes disk)
  write_goes did.TheVariants.Did at bytes = elapses_call disk.first disk.past (Wrote at bytes)
  write_goes did.TheVariants.Failed at bytes = elapses_same disk.first disk.past

  pub write_follows : (result : did.Did) (at : ℕ) (bytes : List ℕ) → Follows (Torn at (length bytes)) (Images disk) (Images (after_write result at bytes disk))
  write_follows did.TheVariants.Did at bytes = λ image left. left
  write_follows did.TheVariants.Failed at bytes = λ image left. (image, left, torn_same at (length bytes) image)

  pub sync_goes : (result : did.Did) → Goes (after_sync result disk)
  sync_goes did.TheVariants.Did = elapses_call disk.first disk.past Synced
  sync_goes did.TheVariants.Failed = elapses_same disk.first disk.past

  pub sync_narrows : (result : did.Did) → AreInside (after_sync result disk).first (after_sync result disk).past → Narrows (Images disk) (Images (after_sync result disk))
  sync_narrows did.TheVariants.Did inside = λ image is. subst (left_by disk.first disk.past) (sym is) (now_left disk.first disk.past inside)
  sync_narrows did.TheVariants.Failed inside = λ image left. left

-- ---- what a call leaves, of disks that are seen

abbrev pub IsTime : MemoryDisk → MemoryDisk → Type 0
IsTime old new = Elapses (length old.past) (length new.past) (left_from old.first old.past) (left_from new.first new.past) (left_by new.first new.past)

pub call_goes : (old new : MemoryDisk) (failed : Bool) → new ≡ after_call failed old → IsTime old new
call_goes old new failed is = subst (IsTime old) (sym is) (elapses_same old.first old.past)

pub call_narrows : (old new : MemoryDisk) (failed : Bool) → new ≡ after_call failed old → Narrows (left_by old.first old.past) (left_by new.first new.past)
call_narrows old new failed is = subst (λ (d : MemoryDisk). Narrows (left_by old.first old.past) (left_by d.first d.past)) (sym is) (λ image left. left)

pub call_contents : (old new : MemoryDisk) (failed : Bool) → new ≡ after_call failed old → Some (contents_of new) ≡ Some (contents_of old)
call_contents old new failed is = ap (λ (d : MemoryDisk). Some (contents_of d)) is

pub image_now : (disk : MemoryDisk) → AreInside disk.first disk.past → left_by disk.first disk.past (contents_of disk)
image_now disk inside = now_left disk.first disk.past inside

pub written_goes : (old new : MemoryDisk) (result : did.Did) (at : ℕ) (bytes : List ℕ) → new ≡ after_write result at bytes old → IsTime old new
written_goes old new result at bytes is = subst (IsTime old) (sym is) (write_goes old result at bytes)

pub written_follows : (old new : MemoryDisk) (result : did.Did) (at : ℕ) (bytes : List ℕ) → new ≡ after_write result at bytes old → Follows (Torn at (length bytes)) (left_by old.first old.past) (left_by new.first new.past)
written_follows old new result at bytes is = subst (λ (d : MemoryDisk). Follows (Torn at (length bytes)) (left_by old.first old.past) (left_by d.first d.past)) (sym is) (write_follows old result at bytes)

pub is_written : (old new : MemoryDisk) (result : did.Did) (at : ℕ) (bytes : List ℕ) → new ≡ after_write result at bytes old → OnDid result (IsWritten at bytes (Some (contents_of old)) (Some (contents_of new)))
is_written old new did.TheVariants.Did at bytes is = ap (λ (d : MemoryDisk). Some (contents_of d)) is
is_written old new did.TheVariants.Failed at bytes is = tt

pub synced_goes : (old new : MemoryDisk) (result : did.Did) → new ≡ after_sync result old → IsTime old new
synced_goes old new result is = subst (IsTime old) (sym is) (sync_goes old result)

pub synced_narrows : (old new : MemoryDisk) (result : did.Did) → new ≡ after_sync result old → AreInside new.first new.past → Narrows (left_by old.first old.past) (left_by new.first new.past)
synced_narrows old new result is inside =
    subst (λ (d : MemoryDisk). Narrows (left_by old.first old.past) (left_by d.first d.past)) (sym is)
    (sync_narrows old result (subst (λ (d : MemoryDisk). AreInside d.first d.past) is inside))

pub synced_only : (old new : MemoryDisk) (result : did.Did) → new ≡ after_sync result old → OnDid result (Only (contents_of old) (left_by new.first new.past))
synced_only old new did.TheVariants.Did is = subst (λ (d : MemoryDisk). Only (contents_of old) (left_by d.first d.past)) (sym is) (λ image now. now)
synced_only old new did.TheVariants.Failed is = tt

contents_synced : (old : MemoryDisk) (result : did.Did) → Some (contents_of (after_sync result old)) ≡ Some (contents_of old)
contents_synced old did.TheVariants.Did = refl
contents_synced old did.TheVariants.Failed = refl

pub synced_contents : (old new : MemoryDisk) (result : did.Did) → new ≡ after_sync result old → Some (contents_of new) ≡ Some (contents_of old)
synced_contents old new result is = ap (λ (d : MemoryDisk). Some (contents_of d)) is ∙ contents_synced old result

pub ruleset call_steps = (call_goes, call_narrows, call_contents, image_now)

pub ruleset write_steps = (written_goes, written_follows, is_written, image_now)

pub ruleset sync_steps = (synced_goes, synced_narrows, synced_only, synced_contents, image_now)
