-- What flows have left of a list of frames.
use Rattle.std.proofs.Common.{◌≡◌, ℕ, zero, suc, ◌+◌, ◌<◌, ◌≤◌, Bool, true, false, not, cond, List, [], ◌∷◌, ◌++◌, length, drop, Some, refl, sym, ap, ◌∙◌, arith}
use Rattle.std.specs.Prelude.{slice_get, slice_set, if◌then◌else◌}
use Rattle.std.specs.List.{position_or_len}
use Rattle.zy_world.specs.Ahead.{due_of, due_from}
use Rattle.zy_world.specs.declared.batch.Due.{Due}
use Rattle.zy_world_law.specs.World.{Mail}

one_more : (b : Bool) (d : Due) (all xs ys : List Due) → all ≡ xs ++ ys → (if b then d ∷ all else all) ≡ (if b then d ∷ xs else xs) ++ ys
one_more true d all xs ys is = ap (λ (l : List Due). d ∷ l) is
one_more false d all xs ys is = is

pub due_append : (p : Mail → Bool) (k : ℕ) (xs ys : List Mail) → due_from p k (xs ++ ys) ≡ due_from p k xs ++ due_from p (k + length xs) ys
due_append p k [] ys = let same : k ≡ k + 0 = omega arith in ap (λ (n : ℕ). due_from p n ys) same
due_append p k (x ∷ xs) ys =
    let behind : k + 1 + length xs ≡ k + length (x ∷ xs) = omega arith in
    one_more (p x) (due_of k x) (due_from p (k + 1) (xs ++ ys)) (due_from p (k + 1) xs) (due_from p (k + length (x ∷ xs)) ys)
    (due_append p (k + 1) xs ys ∙ ap (λ (n : ℕ). due_from p (k + 1) xs ++ due_from p n ys) behind)

-- flows have nothing left of the first ones
pub due_past : (p : Mail → Bool) (k : ℕ) (xs : List Mail) (n : ℕ) → n ≤ length xs → ((i : ℕ) (x : Mail) → i < n → slice_get xs i ≡ Some x → p x ≡ false) → due_from p k xs ≡ due_from p (k + n) (drop n xs)
due_past p k xs zero within none = let same : k ≡ k + 0 = omega arith in ap (λ (n : ℕ). due_from p n xs) same
due_past p k [] (suc n) within none = absurd (omega (arith, within))
due_past p k (x ∷ xs) (suc n) within none =
    let first : p x ≡ false = none 0 x (omega arith) refl in
    let same : k + 1 + n ≡ k + suc n = omega arith in
    ap (λ (b : Bool). if b then due_of k x ∷ due_from p (k + 1) xs else due_from p (k + 1) xs) first
    ∙ due_past p (k + 1) xs n (omega (arith, within)) (λ i y below is. none (suc i) y (omega (arith, below)) is)
    ∙ ap (λ (m : ℕ). due_from p m (drop n xs)) same

-- ---- the first of them

-- where it stands, and what is left without it
pub record IsFirst (p : Mail → Bool) (k : ℕ) (xs : List Mail) (d : Due) (rest : List Due) : Type 0 where
  pub before : ℕ
  pub mail : Mail
  pub within : before < length xs
  pub there : slice_get xs before ≡ Some mail
  pub number : d.number ≡ k + before
  pub to : mail.to ≡ d.to
  pub bytes : mail.bytes ≡ d.bytes
  pub due : p mail ≡ true
  pub first : position_or_len p xs ≡ before
  pub others : (marked : Mail) → p marked ≡ false → due_from p k (slice_set xs before marked) ≡ rest

first_by : (p : Mail → Bool) (k : ℕ) (x : Mail) (xs : List Mail) (d : Due) (rest : List Due) → ((d : Due) (rest : List Due) → due_from p (k + 1) xs ≡ d ∷ rest → IsFirst p (k + 1) xs d rest)
    → (b : Bool) → p x ≡ b → (if b then due_of k x ∷ due_from p (k + 1) xs else due_from p (k + 1) xs) ≡ d ∷ rest → IsFirst p k (x ∷ xs) d rest
first_by p k x xs d rest behind true due is =
    let head : due_of k x ≡ d = cc in
    let tail : due_from p (k + 1) xs ≡ rest = cc in
    let here : k ≡ k + 0 = omega arith in
    record {
      before = 0;
      mail = x;
      within = omega arith;
      there = refl;
      number = sym (ap (λ (e : Due). e.number) head) ∙ here;
      to = ap (λ (e : Due). e.to) head;
      bytes = ap (λ (e : Due). e.bytes) head;
      due = due;
      first = ap (λ (b : Bool). cond (not b) (1 + position_or_len p xs) 0) due;
      others = λ marked none. ap (λ (b : Bool). if b then due_of k marked ∷ due_from p (k + 1) xs else due_from p (k + 1) xs) none ∙ tail;
    }
first_by p k x xs d rest behind false none is =
    let f = behind d rest is in
    record {
      before = suc f.before;
      mail = f.mail;
      within = omega (arith, f.within);
      there = f.there;
      number = omega (arith, f.number);
      to = f.to;
      bytes = f.bytes;
      due = f.due;
      first = ap (λ (b : Bool). cond (not b) (1 + position_or_len p xs) 0) none ∙ omega (arith, f.first);
      others = λ marked gone.
          ap (λ (b : Bool). if b then due_of k x ∷ due_from p (k + 1) (slice_set xs f.before marked) else due_from p (k + 1) (slice_set xs f.before marked)) none ∙ f.others marked gone;
    }

pub first_of : (p : Mail → Bool) (k : ℕ) (xs : List Mail) (d : Due) (rest : List Due) → due_from p k xs ≡ d ∷ rest → IsFirst p k xs d rest
first_of p k [] d rest is = absurd cc
first_of p k (x ∷ xs) d rest is = first_by p k x xs d rest (first_of p (k + 1) xs) (p x) refl is

-- ---- none of them

none_by : (p : Mail → Bool) (k : ℕ) (x : Mail) (xs : List Mail) → (due_from p (k + 1) xs ≡ [] → position_or_len p xs ≡ length xs)
    → (b : Bool) → p x ≡ b → (if b then due_of k x ∷ due_from p (k + 1) xs else due_from p (k + 1) xs) ≡ [] → position_or_len p (x ∷ xs) ≡ length (x ∷ xs)
none_by p k x xs behind true due is = absurd cc
none_by p k x xs behind false none is =
    let rest = behind is in
    ap (λ (b : Bool). cond (not b) (1 + position_or_len p xs) 0) none ∙ omega (arith, rest)

pub none_of : (p : Mail → Bool) (k : ℕ) (xs : List Mail) → due_from p k xs ≡ [] → position_or_len p xs ≡ length xs
none_of p k [] is = refl
none_of p k (x ∷ xs) is = none_by p k x xs (none_of p (k + 1) xs) (p x) refl is
