-- How a run of a disk's calls goes on.
use Rattle.std.proofs.Common.{◌≡◌, inl, inr, ⊎_elim, ℕ, List, Option, IfSome, refl, ◌∙◌, arith}
use Rattle.zy_journal.specs.Disk.{Elapses, LeavesOnly, Narrows, Rests}

module _ {D : Type 0} (moment : D → ℕ) (left_since : D → ℕ → List ℕ → Type 0) where
  -- one call
  pub one_call : (old new : D) (now later P : List ℕ → Type 0) → ((image : List ℕ) → left_since old (moment old) image → now image)
      → Elapses (moment old) (moment new) (left_since old) (left_since new) later
      → ((image : List ℕ) → now image → P image) → ((image : List ℕ) → later image → P image) → LeavesOnly moment left_since old new P
  one_call old new now later P only time first second = record {
    later = time.later;
    each = λ image left. ⊎_elim (λ was. first image (only image was)) (λ is. second image is) (time.nothing_else (moment old) image (omega arith) left);
    before = λ t image le left. ⊎_elim (λ was. inl was) (λ is. inr (second image is)) (time.nothing_else t image le left);
  }

  -- one run and another
  pub then_on : (old mid new : D) (P : List ℕ → Type 0) → LeavesOnly moment left_since old mid P → LeavesOnly moment left_since mid new P → LeavesOnly moment left_since old new P
  then_on old mid new P first second = record {
    later = omega (arith, first.later, second.later);
    each = λ image left. ⊎_elim (λ was. first.each image was) (λ is. is) (second.before (moment old) image first.later left);
    before = λ t image le left. ⊎_elim (λ was. first.before t image le was) (λ is. inr is) (second.before t image (omega (arith, le, first.later)) left);
  }

  pub weaker : (old new : D) (P Q : List ℕ → Type 0) → ((image : List ℕ) → P image → Q image) → LeavesOnly moment left_since old new P → LeavesOnly moment left_since old new Q
  weaker old new P Q f run = record {
    later = run.later;
    each = λ image left. f image (run.each image left);
    before = λ t image le left. ⊎_elim (λ was. inl was) (λ is. inr (f image is)) (run.before t image le left);
  }

module _ {D : Type 0} (contents : D → Option (List ℕ)) (may_leave : D → List ℕ → Type 0) (moment : D → ℕ) (left_since : D → ℕ → List ℕ → Type 0) where
  -- a call that writes nothing
  pub rests_once : (old new : D) → ((image : List ℕ) → left_since old (moment old) image → may_leave old image)
      → contents new ≡ contents old → IfSome (contents new) (may_leave new) → Narrows (may_leave old) (may_leave new)
      → Elapses (moment old) (moment new) (left_since old) (left_since new) (may_leave new) → Rests contents may_leave moment left_since old new
  rests_once old new only same image narrows time = record {
    same = same;
    image = image;
    narrows = narrows;
    leaves = one_call moment left_since old new (may_leave old) (may_leave new) (may_leave old) only time (λ _ is. is) narrows;
  }

  pub rests_on : (old mid new : D) → Rests contents may_leave moment left_since old mid → Rests contents may_leave moment left_since mid new → Rests contents may_leave moment left_since old new
  rests_on old mid new first second = record {
    same = second.same ∙ first.same;
    image = second.image;
    narrows = λ image is. first.narrows image (second.narrows image is);
    leaves = then_on moment left_since old mid new (may_leave old) first.leaves (weaker moment left_since mid new (may_leave mid) (may_leave old) first.narrows second.leaves);
  }

  -- no call
  pub rests_still : (disk : D) → ((image : List ℕ) → left_since disk (moment disk) image → may_leave disk image) → IfSome (contents disk) (may_leave disk) → Rests contents may_leave moment left_since disk disk
  rests_still disk only image = record {
    same = refl;
    image = image;
    narrows = λ _ is. is;
    leaves = record { later = omega arith; each = only; before = λ t image le left. inl left };
  }
