-- Laws of chains and of joined values.
use Rattle.std.proofs.Common.{⊎_elim, arith, zero, suc, ◌≡◌, ◌-◌, ◌≤◌, ◌<◌, ◌++◌, ◌∷◌, [], length, ℕ, ◌+◌, ◌*◌, List, take, drop, sym, ◌∙◌, ap, refl, length-append, add-zero, add-one, add-suc, add_assoc}
use Rattle.std.proofs.lemmas.List.{drop_at, drop-append-le, take-append-le, take_all, length-drop}
use Rattle.std.proofs.lemmas.Bool.{cases_lt}
use Rattle.sha2.specs.Sha256.{sha256}
use Rattle.sha2.proofs.Facts256.{length-sha256}
use Rattle.zy_ots.specs.Chain.{chain, joined}

-- no step
pub chain_none : (prefix tmp : List ℕ) (j k : ℕ) → k ≡ 0 → tmp ≡ chain prefix j k tmp
unfolding chain
chain_none prefix tmp j k none = rw none refl

-- one more step, at place i
pub chain_more : (prefix tmp : List ℕ) (j i : ℕ) → j ≤ i
    → chain prefix j (i + 1 - j) tmp ≡ sha256 (prefix ++ i ∷ [] ++ chain prefix j (i - j) tmp)
unfolding chain
chain_more prefix tmp j i below =
    let next : i + 1 - j ≡ suc (i - j) = omega arith in
    let here : j + (i - j) ≡ i = omega arith in
    rw (next, here) refl

-- a walk and then another from where it ends are one walk
pub chain_joins : (prefix tmp : List ℕ) (j m n : ℕ)
    → chain prefix (j + m) n (chain prefix j m tmp) ≡ chain prefix j (m + n) tmp
unfolding chain
chain_joins prefix tmp j m zero = rw (add-zero m) refl
chain_joins prefix tmp j m (suc n) =
    rw (add-suc m n, chain_joins prefix tmp j m n, add_assoc j m n) refl

-- every value of a chain has a digest's length
pub length-chain : (prefix tmp : List ℕ) (j n : ℕ) → length tmp ≡ 32 → length (chain prefix j n tmp) ≡ 32
unfolding chain
length-chain prefix tmp j zero whole = whole
length-chain prefix tmp j (suc n) whole = length-sha256 _

pub joined_none : (f : ℕ → List ℕ) → joined f 0 ≡ []
unfolding joined
joined_none f = refl

pub joined_more : (f : ℕ → List ℕ) (n : ℕ) → joined f (n + 1) ≡ joined f n ++ f n
unfolding joined
joined_more f n = rw (add-one n) refl

-- values that agree below n are joined to the same bytes
pub joined_same : (f g : ℕ → List ℕ) (n : ℕ) → ((i : ℕ) → i < n → f i ≡ g i) → joined f n ≡ joined g n
unfolding joined
joined_same f g zero same = refl
joined_same f g (suc n) same =
    rw (joined_same f g n (λ i below. same i (omega arith)), same n (omega arith)) refl

-- n values of 32 bytes
pub length-joined : (f : ℕ → List ℕ) (n : ℕ) → ((i : ℕ) → length (f i) ≡ 32) → length (joined f n) ≡ 32 * n
unfolding joined
length-joined f zero whole = refl
length-joined f (suc n) whole =
    omega (arith, length-append (joined f n) (f n), length-joined f n whole, whole n)

-- value i of n joined values stands behind i others
pub joined_at : (f : ℕ → List ℕ) (n i : ℕ) → ((i : ℕ) → length (f i) ≡ 32) → i < n
    → take 32 (drop (32 * i) (joined f n)) ≡ f i
unfolding joined
joined_at f zero i whole below = absurd (omega (arith, below))
joined_at f (suc n) i whole below =
    let before : length (joined f n) ≡ 32 * n = length-joined f n whole in
    let earlier : i < n → take 32 (drop (32 * i) (joined f n ++ f n)) ≡ f i = λ sooner.
    let front : 32 * i ≤ length (joined f n) = omega (arith, before) in
    let room : 32 ≤ length (drop (32 * i) (joined f n)) = omega (arith, before, length-drop (32 * i) (joined f n)) in
    ap (take 32) (drop-append-le (32 * i) (joined f n) (f n) front)
    ∙ take-append-le 32 (drop (32 * i) (joined f n)) (f n) room
    ∙ joined_at f n i whole sooner in
    let last : n ≤ i → take 32 (drop (32 * i) (joined f n ++ f n)) ≡ f i = λ later.
    let here : i ≡ n = omega arith in
    let front : length (joined f n) ≡ 32 * i = omega (arith, before) in
    ap (take 32) (drop_at (joined f n) (f n) (32 * i) front)
    ∙ take_all 32 (f n) (omega (arith, whole n))
    ∙ ap f (sym here) in
    ⊎_elim earlier last (cases_lt i n)
