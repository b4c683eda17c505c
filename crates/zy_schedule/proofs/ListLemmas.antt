-- Reading a list of parts one after the other, as a loop does.
use Rattle.std.proofs.Common.{◌≡◌, ℕ, zero, suc, ◌-◌, ◌≤◌, ◌<◌, List, [], ◌∷◌, ◌++◌, length, Result, Ok, Err, Some, None, refl, sym, ap, ◌∙◌, append_assoc, append-nil, length-append, arith}
use Rattle.zy_tuple.specs.declared.fault.LineFault.{LineFault}
use Rattle.zy_tuple.specs.declared.fault.LineFault.TheVariants as faults
use Rattle.zy_tuple.specs.Reading.{◌>>=◌, Fails}
use Rattle.zy_schedule.specs.declared.list.ListEnd.{ListEnd}
use Rattle.zy_schedule.specs.Reading.{ended_at, further_at, list_at, value_at}

-- what was read before, and what is still read
abbrev pub with_front : {A : Type 0} → List A → Result (List A × List ℕ) ℕ → Result (List A × List ℕ) ℕ
with_front front read = read >>= λ x. Ok (front ++ x.0, x.1)

regroup : {A : Type 0} (front : List A) (x : A) (read : Result (List A × List ℕ) ℕ) → with_front front (read >>= λ others. Ok (x ∷ others.0, others.1)) ≡ with_front (front ++ x ∷ []) read
regroup {A} front x (Ok r) = ap (λ (xs : List A). Ok (xs, r.1)) (simp append_assoc)
regroup front x (Err f) = refl

-- a list that is read up to here, of which so many may still come
abbrev pub IsSoFar : {A : Type 0} → (List ℕ → Result A ℕ) → ListEnd → ℕ → List ℕ → List A → List ℕ → Type 0
IsSoFar read end limit line items rest = with_front items (further_at read end (limit - length items) rest) ≡ list_at read end limit line

pub first_read : {A : Type 0} (read : List ℕ → Result A ℕ) (end : ListEnd) (limit : ℕ) (line : List ℕ) (x : A) (rest : List ℕ) → value_at read line ≡ Ok (x, rest)
    → IsSoFar read end limit line ([] ++ x ∷ []) rest
unfolding list_at
first_read read end limit line x rest is = rw is refl

pub first_fails : {A : Type 0} (read : List ℕ → Result A ℕ) (end : ListEnd) (limit : ℕ) (line : List ℕ) (e : LineFault) → Fails e (value_at read line) → Fails e (list_at read end limit line)
unfolding list_at
first_fails read end limit line faults.Want failed = tt
first_fails read end limit line (faults.Rule rule) failed = rw failed refl

ended_here : {A : Type 0} (read : List ℕ → Result A ℕ) (end : ListEnd) (items : List A) (rest left : List ℕ) (room : ℕ) → ended_at end rest ≡ Some left → with_front items (further_at read end room rest) ≡ Ok (items, left)
unfolding further_at
ended_here {A} read end items rest left zero here = rw here (ap (λ (xs : List A). Ok (xs, left)) (append-nil items))
ended_here {A} read end items rest left (suc room) here = rw here (ap (λ (xs : List A). Ok (xs, left)) (append-nil items))

-- the end stands here
pub is_ended : {A : Type 0} (read : List ℕ → Result A ℕ) (end : ListEnd) (limit : ℕ) (line : List ℕ) (items : List A) (rest left : List ℕ) → ended_at end rest ≡ Some left
    → IsSoFar read end limit line items rest → list_at read end limit line ≡ Ok (items, left)
is_ended read end limit line items rest left here so_far = sym so_far ∙ ended_here read end items rest left (limit - length items) here

-- one more is read
pub one_more : {A : Type 0} (read : List ℕ → Result A ℕ) (end : ListEnd) (limit : ℕ) (line : List ℕ) (items : List A) (rest : List ℕ) (x : A) (left : List ℕ) → ended_at end rest ≡ None → value_at read rest ≡ Ok (x, left)
    → length items < limit → IsSoFar read end limit line items rest → IsSoFar read end limit line (items ++ x ∷ []) left
unfolding further_at
one_more read end limit line items rest x left unended is room so_far =
    let k : limit - length items ≡ suc (limit - length (items ++ x ∷ [])) = omega (arith, length-append items (x ∷ [])) in
    let one : with_front items (further_at read end (limit - length items) rest) ≡ with_front (items ++ x ∷ []) (further_at read end (limit - length (items ++ x ∷ [])) left)
    = rw (k, unended, is) (regroup items x (further_at read end (limit - length (items ++ x ∷ [])) left)) in
    sym one ∙ so_far

fails_here : {A : Type 0} (read : List ℕ → Result A ℕ) (end : ListEnd) (items : List A) (rest : List ℕ) (rule room : ℕ) → ended_at end rest ≡ None → value_at read rest ≡ Err rule → with_front items (further_at read end room rest) ≡ Err rule
unfolding further_at
fails_here read end items rest rule zero unended is = rw (unended, is) refl
fails_here read end items rest rule (suc room) unended is = rw (unended, is) refl

-- the next can't be read
pub one_fails : {A : Type 0} (read : List ℕ → Result A ℕ) (end : ListEnd) (limit : ℕ) (line : List ℕ) (items : List A) (rest : List ℕ) (e : LineFault) → ended_at end rest ≡ None → Fails e (value_at read rest)
    → IsSoFar read end limit line items rest → Fails e (list_at read end limit line)
one_fails read end limit line items rest faults.Want unended failed so_far = tt
one_fails read end limit line items rest (faults.Rule rule) unended failed so_far = sym so_far ∙ fails_here read end items rest rule (limit - length items) unended failed

-- there is no room for the next
pub no_room : {A : Type 0} (read : List ℕ → Result A ℕ) (end : ListEnd) (limit : ℕ) (line : List ℕ) (items : List A) (rest : List ℕ) (x : A) (left : List ℕ) → ended_at end rest ≡ None → value_at read rest ≡ Ok (x, left)
    → limit ≤ length items → IsSoFar read end limit line items rest → list_at read end limit line ≡ Err 3
unfolding further_at
no_room read end limit line items rest x left unended is full so_far =
    let k : limit - length items ≡ 0 = omega arith in
    let one : with_front items (further_at read end (limit - length items) rest) ≡ Err 3 = rw (k, unended, is) refl in
    sym so_far ∙ one
