-- The slot of the next place.
use Rattle.std.proofs.Common.{◌≡◌, ◌+◌, ◌-◌, ◌≤◌, ◌∷◌, [], ℕ, zero, suc, Bool, false, List, drop, set, slice_index_or, Option, Some, None, refl, ap, ◌∙◌, sym, arith}
use Rattle.std.specs.Prelude.{if◌then◌else◌, nat_le}
use Rattle.std.proofs.lemmas.Bool.{lt-leb}
use Rattle.zy_base.specs.Machine.{Rules}
use Rattle.zy_frames.specs.declared.frame.OrderFrame.{OrderFrame}
use Rattle.zy_admit.specs.Orders.{Orders, slots_above, stored_in, without_order}
use Rattle.zy_table.specs.Deeds.{Going}
use Rattle.zy_table.specs.Running.{run_held}

-- what is stored at the next place is in the first slot above
stored_next : (o : Orders) (last : ℕ) → o.base ≤ last → stored_in o (last + 1) ≡ slice_index_or o.slots (last - o.base) None
stored_next o last within =
    let above : nat_le (last + 1) o.base ≡ false = lt-leb (last + 1) o.base (omega (arith, within)) in
    let at : last + 1 - o.base - 1 ≡ last - o.base = omega arith in
    ap (λ (b : Bool). if b then None else slice_index_or o.slots (last + 1 - o.base - 1) None) above
    ∙ ap (λ (i : ℕ). slice_index_or o.slots i None) at

first_filled : (xs : List (Option OrderFrame)) (k : ℕ) (f : OrderFrame) → slice_index_or xs k None ≡ Some f → drop k xs ≡ Some f ∷ drop (suc k) xs
first_filled [] k f is = cc
first_filled (x ∷ xs) zero f is = ap (λ (y : Option OrderFrame). y ∷ xs) is
first_filled (x ∷ xs) (suc k) f is = first_filled xs k f is

-- an order that is held for the next place
pub next_some : (o : Orders) (last : ℕ) (f : OrderFrame) → o.base ≤ last → stored_in o (last + 1) ≡ Some f → slots_above last o ≡ Some f ∷ slots_above (last + 1) o
next_some o last f within is =
    let one : suc (last - o.base) ≡ last + 1 - o.base = omega (arith, within) in
    first_filled o.slots (last - o.base) f (sym (stored_next o last within) ∙ is)
    ∙ ap (λ (k : ℕ). Some f ∷ drop k o.slots) one

first_empty : {S : Type 0} (R : Rules S) (xs : List (Option OrderFrame)) (k : ℕ) (g : Going S) → slice_index_or xs k None ≡ None → run_held R (drop k xs) g ≡ g
unfolding run_held
first_empty R [] zero g is = refl
first_empty R [] (suc k) g is = refl
first_empty R (None ∷ xs) zero g is = refl
first_empty R (Some f ∷ xs) zero g is = cc
first_empty R (x ∷ xs) (suc k) g is = first_empty R xs k g is

-- and none
pub next_none : {S : Type 0} (R : Rules S) (o : Orders) (last : ℕ) (g : Going S) → o.base ≤ last → stored_in o (last + 1) ≡ None → run_held R (slots_above last o) g ≡ g
next_none R o last g within is = first_empty R o.slots (last - o.base) g (sym (stored_next o last within) ∙ is)

-- what is dropped isn't stored
emptied : (xs : List (Option OrderFrame)) (i : ℕ) → slice_index_or (set xs i None) i None ≡ None
emptied [] zero = refl
emptied [] (suc i) = refl
emptied (x ∷ xs) zero = refl
emptied (x ∷ xs) (suc i) = emptied xs i

pub none_stored : (o : Orders) (last : ℕ) → o.base ≤ last → stored_in (without_order o (last + 1)) (last + 1) ≡ None
none_stored o last within =
    let at : last + 1 - o.base - 1 ≡ last - o.base = omega arith in
    stored_next (without_order o (last + 1)) last within
    ∙ ap (λ (i : ℕ). slice_index_or (set o.slots i None) (last - o.base) None) at
    ∙ emptied o.slots (last - o.base)
