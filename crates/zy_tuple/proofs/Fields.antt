-- Reading fields one after the other, as a loop does.
use Rattle.std.proofs.Common.{◌≡◌, ℕ, suc, ◌-◌, ◌+◌, ◌≤◌, ◌<◌, Bool, true, false, cond, List, [], ◌∷◌, ◌++◌, Result, Ok, Err, refl, sym, ap, ◌∙◌, append_assoc, arith}
use Rattle.zy_tuple.specs.declared.fault.LineFault.{LineFault}
use Rattle.zy_tuple.specs.declared.fault.LineFault.TheVariants as faults
use Rattle.zy_tuple.specs.Reading.{◌>>=◌, Fails, after_field, begins_field, fields_at}

-- what was read before, and what is still read
abbrev pub with_front : {A : Type 0} → List A → Result (List A × List ℕ) ℕ → Result (List A × List ℕ) ℕ
with_front front read = read >>= λ x. Ok (front ++ x.0, x.1)

regroup : {A : Type 0} (front : List A) (x : A) (read : Result (List A × List ℕ) ℕ) → with_front front (read >>= λ others. Ok (x ∷ others.0, others.1)) ≡ with_front (front ++ x ∷ []) read
regroup {A} front x (Ok r) = ap (λ (xs : List A). Ok (xs, r.1)) (simp append_assoc)
regroup front x (Err f) = refl

pub goes_on : {A : Type 0} (item_at : List ℕ → Result (A × List ℕ) ℕ) (front : List A) (room i : ℕ) (line : List ℕ) (x : A) (after rest : List ℕ) (total : Result (List A × List ℕ) ℕ) → i < room → item_at line ≡ Ok (x, after) → after_field after ≡ Ok (false, rest)
    → with_front front (fields_at item_at (room - i) line) ≡ total → with_front (front ++ x ∷ []) (fields_at item_at (room - (i + 1)) rest) ≡ total
unfolding fields_at
goes_on item_at front room i line x after rest total lt read opened so_far =
    let k : room - i ≡ suc (room - (i + 1)) = omega arith in
    let one : with_front front (fields_at item_at (room - i) line) ≡ with_front (front ++ x ∷ []) (fields_at item_at (room - (i + 1)) rest) = rw (k, read, opened) (regroup front x (fields_at item_at (room - (i + 1)) rest)) in
    sym one ∙ so_far

pub closed : {A : Type 0} (item_at : List ℕ → Result (A × List ℕ) ℕ) (front : List A) (room i : ℕ) (line : List ℕ) (x : A) (after rest : List ℕ) (total : Result (List A × List ℕ) ℕ) → i < room → item_at line ≡ Ok (x, after) → after_field after ≡ Ok (true, rest)
    → with_front front (fields_at item_at (room - i) line) ≡ total → total ≡ Ok (front ++ x ∷ [], rest)
unfolding fields_at
closed item_at front room i line x after rest total lt read shut so_far =
    let k : room - i ≡ suc (room - (i + 1)) = omega arith in
    let one : with_front front (fields_at item_at (room - i) line) ≡ Ok (front ++ x ∷ [], rest) = rw (k, read, shut) refl in
    sym so_far ∙ one

pub item_fails : {A : Type 0} (item_at : List ℕ → Result (A × List ℕ) ℕ) (e : LineFault) (front : List A) (room i : ℕ) (line : List ℕ) (total : Result (List A × List ℕ) ℕ) → i < room → Fails e (item_at line)
    → with_front front (fields_at item_at (room - i) line) ≡ total → Fails e total
unfolding fields_at
item_fails item_at faults.Want front room i line total lt failed so_far = tt
item_fails item_at (faults.Rule rule) front room i line total lt failed so_far =
    let k : room - i ≡ suc (room - (i + 1)) = omega arith in
    let one : with_front front (fields_at item_at (room - i) line) ≡ Err rule = rw (k, failed) refl in
    sym so_far ∙ one

pub end_fails : {A : Type 0} (item_at : List ℕ → Result (A × List ℕ) ℕ) (e : LineFault) (front : List A) (room i : ℕ) (line : List ℕ) (x : A) (after : List ℕ) (total : Result (List A × List ℕ) ℕ) → i < room → item_at line ≡ Ok (x, after) → Fails e (after_field after)
    → with_front front (fields_at item_at (room - i) line) ≡ total → Fails e total
unfolding fields_at
end_fails item_at faults.Want front room i line x after total lt read failed so_far = tt
end_fails item_at (faults.Rule rule) front room i line x after total lt read failed so_far =
    let k : room - i ≡ suc (room - (i + 1)) = omega arith in
    let one : with_front front (fields_at item_at (room - i) line) ≡ Err rule = rw (k, read, failed) refl in
    sym so_far ∙ one

pub no_room : {A : Type 0} (item_at : List ℕ → Result (A × List ℕ) ℕ) (front : List A) (room i : ℕ) (line : List ℕ) (total : Result (List A × List ℕ) ℕ) → room ≤ i
    → with_front front (fields_at item_at (room - i) line) ≡ total → total ≡ cond (begins_field line) (Err 3) (Err 2)
unfolding fields_at
no_room {A} item_at front room i line total le so_far =
    let k : room - i ≡ 0 = omega arith in
    let step : (b : Bool) → with_front front (cond b (Err 3) (Err 2)) ≡ cond b (Err 3) (Err 2) = λ b. elim b as (λ v. with_front front (cond v (Err 3) (Err 2)) ≡ cond v (Err 3) (Err 2)) [ true ↦ refl | false ↦ refl ] in
    let one : with_front front (fields_at item_at (room - i) line) ≡ cond (begins_field line) (Err 3) (Err 2) = rw k (step (begins_field line)) in
    sym so_far ∙ one
