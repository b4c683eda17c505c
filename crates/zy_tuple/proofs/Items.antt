-- Reading items one after the other, as a loop does.
use Rattle.std.proofs.Common.{◌≡◌, ℕ, suc, ◌-◌, ◌+◌, ◌≤◌, ◌<◌, List, [], ◌∷◌, ◌++◌, Result, Ok, Err, refl, sym, ap, subst, ◌∙◌, append_assoc, arith}
use Rattle.std.specs.Prelude.{IsErr}
use Rattle.std.proofs.lemmas.List.{append-nil}
use Rattle.zy_base.specs.declared.frame_fault.FrameFault.{FrameFault}
use Rattle.zy_tuple.specs.declared.fault.OpFault.{OpFault}
use Rattle.zy_tuple.specs.declared.fault.OpFault.TheVariants as faults
use Rattle.zy_wire.specs.Spelling.{Spelling, ◌>>=◌, repeated_at}
use Rattle.zy_tuple.specs.Bytes.{Fails}

-- what was read before, and what is still read
abbrev pub with_front : {A : Type 0} → List A → Result (List A × List ℕ) FrameFault → Result (List A × List ℕ) FrameFault
with_front front read = read >>= λ x. Ok (front ++ x.0, x.1)

regroup : {A : Type 0} (front : List A) (x : A) (read : Result (List A × List ℕ) FrameFault) → with_front front (read >>= λ others. Ok (x ∷ others.0, others.1)) ≡ with_front (front ++ x ∷ []) read
regroup {A} front x (Ok r) = ap (λ (xs : List A). Ok (xs, r.1)) (simp append_assoc)
regroup front x (Err f) = refl

err_stays : {A : Type 0} (front : List A) (r : Result (A × List ℕ) FrameFault) (f : A × List ℕ → Result (List A × List ℕ) FrameFault) → IsErr r → IsErr (with_front front (r >>= f))
err_stays front (Ok x) f e = absurd cc
err_stays front (Err fault) f e = e

pub goes_on : {A : Type 0} (S : Spelling A) (front : List A) (count i : ℕ) (bytes : List ℕ) (x : A) (after : List ℕ) (total : Result (List A × List ℕ) FrameFault) → i < count → S.at bytes ≡ Ok (x, after)
    → with_front front (repeated_at S (count - i) bytes) ≡ total → with_front (front ++ x ∷ []) (repeated_at S (count - (i + 1)) after) ≡ total
goes_on S front count i bytes x after total lt read so_far =
    let k : count - i ≡ suc (count - (i + 1)) = omega arith in
    let one : with_front front (repeated_at S (count - i) bytes) ≡ with_front (front ++ x ∷ []) (repeated_at S (count - (i + 1)) after) = rw (k, read) (regroup front x (repeated_at S (count - (i + 1)) after)) in
    sym one ∙ so_far

pub item_fails : {A : Type 0} (S : Spelling A) (e : OpFault) (front : List A) (count i : ℕ) (bytes : List ℕ) (total : Result (List A × List ℕ) FrameFault) → i < count → Fails e (S.at bytes)
    → with_front front (repeated_at S (count - i) bytes) ≡ total → Fails e total
item_fails S faults.Want front count i bytes total lt failed so_far = tt
item_fails S faults.NotOp front count i bytes total lt failed so_far =
    let k : count - i ≡ suc (count - (i + 1)) = omega arith in
    let one : IsErr (with_front front (repeated_at S (count - i) bytes)) = rw k (err_stays front (S.at bytes) (λ first. repeated_at S (count - (i + 1)) first.1 >>= λ others. Ok (first.0 ∷ others.0, others.1)) failed) in
    subst (λ (r : Result _ FrameFault). IsErr r) so_far one

pub is_done : {A : Type 0} (S : Spelling A) (front : List A) (count i : ℕ) (bytes : List ℕ) (total : Result (List A × List ℕ) FrameFault) → count ≤ i → with_front front (repeated_at S (count - i) bytes) ≡ total → total ≡ Ok (front, bytes)
is_done {A} S front count i bytes total le so_far =
    let k : count - i ≡ 0 = omega arith in
    let one : with_front front (repeated_at S (count - i) bytes) ≡ Ok (front, bytes) = rw k (ap (λ (xs : List A). Ok (xs, bytes)) (append-nil front)) in
    sym so_far ∙ one
