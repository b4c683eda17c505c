-- Signed equal statements of so many different replicas, each of which said so or lies, are backed.
use Rattle.std.proofs.Common.{◌≡◌, ◌≢◌, ℕ, zero, suc, ◌<◌, List, [], ◌∷◌, length, map, get_or, sym, ap, ◌∙◌, subst, arith}
use Rattle.std.specs.Prelude.{All}
use Rattle.std.specs.List.{AllByRecursion, AllPairs}
use Rattle.std.proofs.lemmas.List.{get_or-map, length-map}
use Rattle.std.proofs.lemmas.List.Kept.{AllPairs-cons}
use Rattle.zy_base.specs.declared.ids.Party.{Party}
use Rattle.zy_base.specs.declared.ids.Party.TheVariants.{Replica, Client}
use Rattle.zy_cert.specs.Signers.{AreDifferent}
use Rattle.zy_law.specs.Said.{IsVouched, IsBacked}
use Rattle.zy_law.specs.World.{Statement, World}
use Rattle.zy_law_normal.specs.Tied.{IsVouchedBy}
use Rattle.zy_parts.specs.declared.signed.Signed.{Signed}

pub all_from : {A : Type 0} (P : A → Type 0) (xs : List A) → AllByRecursion P xs → All P xs
all_from P [] all k d within = absurd (omega arith)
all_from P (x ∷ xs) all zero d within = all.0
all_from P (x ∷ xs) all (suc k) d within = all_from P xs all.1 k d (omega arith)

pub all_listed : {A : Type 0} (P : A → Type 0) (xs : List A) → All P xs → AllByRecursion P xs
all_listed P [] all = tt
all_listed P (x ∷ xs) all = (all 0 x (omega arith), all_listed P xs (λ k d within. all (suc k) d (omega arith)))

-- ---- who signed

number_of : Party → ℕ
number_of (Replica id) = id.0
number_of (Client id) = id.0

abbrev replica_of : ℕ → Party
replica_of number = Replica (record { 0 = number })

module _ (w : World) (s : Statement) where
  number_differs : (a b : Party) → IsVouchedBy w s a → IsVouchedBy w s b → a ≢ b → number_of a ≢ number_of b
  unfolding number_of
  number_differs (Replica a) (Replica b) one other differ same = differ (ap replica_of same)
  number_differs (Replica a) (Client b) one other differ same = absurd other
  number_differs (Client a) (Replica b) one other differ same = absurd one
  number_differs (Client a) (Client b) one other differ same = absurd one

  vouched_number : (by : Party) → IsVouchedBy w s by → IsVouched w s (number_of by)
  unfolding number_of
  vouched_number (Replica id) vouched = vouched
  vouched_number (Client id) vouched = absurd vouched

  module _ {A : Type 0} where
    abbrev AreBy : List (Signed A) → Type 0
    AreBy list = AllByRecursion (λ x. IsVouchedBy w s x.by) list

    numbers_of : List (Signed A) → List ℕ
    numbers_of list = map (λ (x : Signed A). number_of x.by) list

    numbers_differ : (list : List (Signed A)) → AreBy list → AreDifferent list → AllPairs (λ (a b : ℕ). a ≢ b) (numbers_of list)
    unfolding numbers_of
    numbers_differ [] all different = λ i j d before within. absurd (omega arith)
    numbers_differ (x ∷ list) all different =
        AllPairs-cons (λ (a b : ℕ). a ≢ b) (number_of x.by) (numbers_of list)
        (λ k d within.
        let small : k < length list = omega (arith, length-map list (λ (y : Signed A). number_of y.by)) in
        subst (λ (n : ℕ). number_of x.by ≢ n) (sym (get_or-map (λ (y : Signed A). number_of y.by) list k x d small))
        (number_differs x.by (get_or list k x).by all.0 (all_from (λ (y : Signed A). IsVouchedBy w s y.by) list all.1 k x small) (different 0 (suc k) x (omega arith) (omega arith))))
        (numbers_differ list all.1 (λ i j d before within. different (suc i) (suc j) d (omega arith) (omega arith)))

    numbers_vouched : (list : List (Signed A)) → AreBy list → AllByRecursion (IsVouched w s) (numbers_of list)
    unfolding numbers_of
    numbers_vouched [] all = tt
    numbers_vouched (x ∷ list) all = (vouched_number x.by all.0, numbers_vouched list all.1)

    -- so many of different parties, each of which said so or lies
    pub signed_backed : (count : ℕ) (list : List (Signed A)) → length list ≡ count → AreDifferent list → AreBy list → IsBacked w count s
    unfolding numbers_of
    signed_backed count list long different all =
        record {
          who = numbers_of list;
          many = length-map list (λ (x : Signed A). number_of x.by) ∙ long;
          different = numbers_differ list all different;
          vouched = all_from (IsVouched w s) (numbers_of list) (numbers_vouched list all);
        }
