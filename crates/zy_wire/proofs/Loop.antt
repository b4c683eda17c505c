-- Items that are read or written one after the other, as a loop does.
use Rattle.std.proofs.Common.{◌≡◌, ℕ, suc, ◌-◌, ◌+◌, ◌<◌, List, [], ◌∷◌, ◌++◌, Result, Ok, Err, refl, sym, ap, ◌∙◌, append_assoc, arith}
use Rattle.zy_base.specs.declared.frame_fault.FrameFault.{FrameFault}
use Rattle.zy_wire.specs.Spelling.{Spelling, ◌>>=◌, repeated_at, repeated}
use Rattle.zy_wire.specs.declared.get_fault.GetFault.{GetFault}
use Rattle.zy_wire.specs.declared.get_fault.GetFault.TheVariants.{Frame, Want}
use Rattle.zy_wire.specs.Getting.{IsFaultAt}

-- what was read before, and what is still read
abbrev pub with_front : {A : Type 0} → List A → Result (List A × List ℕ) FrameFault → Result (List A × List ℕ) FrameFault
with_front front read = read >>= λ x. Ok (front ++ x.0, x.1)

regroup : {A : Type 0} (front : List A) (x : A) (read : Result (List A × List ℕ) FrameFault) → with_front front (read >>= λ y. Ok (x ∷ y.0, y.1)) ≡ with_front (front ++ x ∷ []) read
regroup {A = A} front x (Ok y) = ap (λ (xs : List A). Ok (xs, y.1)) (simp append_assoc)
regroup front x (Err f) = refl

module _ {A : Type 0} (S : Spelling A) where
  pub goes_on : (front : List A) (count i : ℕ) (bytes : List ℕ) (x : A) (after : List ℕ) (total : Result (List A × List ℕ) FrameFault) → i < count → S.at bytes ≡ Ok (x, after)
      → with_front front (repeated_at S (count - i) bytes) ≡ total → with_front (front ++ x ∷ []) (repeated_at S (count - (i + 1)) after) ≡ total
  goes_on front count i bytes x after total lt h so_far =
      let k : count - i ≡ suc (count - (i + 1)) = omega arith in
      let one : with_front front (repeated_at S (count - i) bytes) ≡ with_front (front ++ x ∷ []) (repeated_at S (count - (i + 1)) after) = rw (k, h) (regroup front x (repeated_at S (count - (i + 1)) after)) in
      sym one ∙ so_far

  pub item_fails : (e : GetFault) (front : List A) (count i : ℕ) (bytes old : List ℕ) → i < count → IsFaultAt S bytes e
      → with_front front (repeated_at S (count - i) bytes) ≡ repeated_at S count old → IsFaultAt (repeated S count) old e
  item_fails Want front count i bytes old lt failed so_far = tt
  item_fails (Frame fault) front count i bytes old lt failed so_far =
      let k : count - i ≡ suc (count - (i + 1)) = omega arith in
      let one : with_front front (repeated_at S (count - i) bytes) ≡ Err fault = rw (k, failed) refl in
      sym so_far ∙ one
