-- What operations leave of a state.
use Rattle.std.proofs.Common.{◌≡◌, ℕ, zero, suc, ◌+◌, ◌*◌, ◌<◌, ◌≤◌, true, false, eqb, ltb, cond, ◌&&◌, List, [], ◌∷◌, ◌++◌, length, Some, None, inl, inr, refl, sym, ap, ◌∙◌, subst, arith}
use Rattle.std.specs.List.{AllByRecursion}
use Rattle.std.proofs.lemmas.Bool.{cases_Bool, and_parts, ltb-true}
use Rattle.std.proofs.lemmas.Option.{same_Some}
use Rattle.std.proofs.lemmas.Bool.Decides.{eqb_tells}
use Rattle.zy_slots.proofs.ListLemmas.{all_split, all_join}
use Rattle.zy_tuple.specs.declared.values.Field.{Field}
use Rattle.zy_tuple.specs.declared.values.Slot.{Slot}
use Rattle.zy_tuple.specs.Values.{IsTuple, matches}
use Rattle.zy_guard.specs.declared.values.Access.{Access}
use Rattle.zy_guard.specs.declared.values.Owned.{Owned}
use Rattle.zy_guard.specs.declared.values.Denial.TheVariants.{UnknownClient, OwnerNotReader, TakerNotReader}
use Rattle.zy_guard.specs.declared.values.GuardOp.{GuardOp}
use Rattle.zy_guard.specs.GuardedSpace.{has, is_within, sees, visible, oldest, without_oldest, IsAccess, IsOwned, IsGuardState, owned_by, owned_of, access_denial, op_denial, denial}

pub owned_by-append : (client : ℕ) (front back : List Owned) → owned_by client (front ++ back) ≡ owned_by client front + owned_by client back
owned_by-append client [] back = omega arith
owned_by-append client (owned ∷ front) back = let rest = owned_by-append client front back in omega (arith, rest)

pub removed_state : (front : List Owned) (owned : Owned) (back : List Owned) → IsGuardState (front ++ owned ∷ back) → IsGuardState (front ++ back)
removed_state front owned back was =
    let parts = all_split IsOwned front owned back was.each in
    record {
      each = all_join IsOwned front back parts.0 parts.2;
      few = λ client. omega (arith, owned_by-append client front back, owned_by-append client front (owned ∷ back), was.few client);
    }

one_more : (client : ℕ) (owned : Owned) (state : List Owned) → owned_by owned.owner.0 state < 64 → owned_by client state ≤ 64 → owned_by client (state ++ owned ∷ []) ≤ 64
one_more client owned state room few =
    let both = owned_by-append client state (owned ∷ []) in
    elim (eqb_tells owned.owner.0 client) [
      | inl same ↦
          let here : owned_by client state < 64 = subst (λ (c : ℕ). owned_by c state < 64) same.1 room in
          let one : owned_by client (owned ∷ []) ≡ 1 = rw same.0 refl in
          omega (arith, both, here, one)
      | inr other ↦
          let none : owned_by client (owned ∷ []) ≡ 0 = rw other.0 refl in
          omega (arith, both, few, none)
    ]

pub added_state : (owned : Owned) (state : List Owned) → IsOwned owned → owned_by owned.owner.0 state < 64 → IsGuardState state → IsGuardState (state ++ owned ∷ [])
added_state owned state is room was =
    record {
      each = all_join IsOwned state (owned ∷ []) was.each (is, tt);
      few = λ client. one_more client owned state room (was.few client);
    }

-- ---- how many there may be

-- those that others than this client put in
others : ℕ → List Owned → List Owned
others client [] = []
others client (owned ∷ rest) = cond (eqb owned.owner.0 client) (others client rest) (owned ∷ others client rest)

length-others : (client : ℕ) (state : List Owned) → length state ≡ length (others client state) + owned_by client state
unfolding others
length-others client [] = omega arith
length-others client (owned ∷ rest) =
    let more = length-others client rest in
    elim (eqb owned.owner.0 client) as (λ same. length (owned ∷ rest) ≡ length (cond same (others client rest) (owned ∷ others client rest)) + (cond same 1 0 + owned_by client rest)) [ true ↦ omega (arith, more) | false ↦ omega (arith, more) ]

fewer_others : (client other : ℕ) (state : List Owned) → owned_by client (others other state) ≤ owned_by client state
unfolding others
fewer_others client other [] = omega arith
fewer_others client other (owned ∷ rest) =
    let more = fewer_others client other rest in
    elim (eqb owned.owner.0 other) as (λ same. owned_by client (cond same (others other rest) (owned ∷ others other rest)) ≤ owned_by client (owned ∷ rest)) [ true ↦ omega (arith, more) | false ↦ omega (arith, more) ]

abbrev OwnedBelow : ℕ → List Owned → Type 0
OwnedBelow limit state = AllByRecursion (λ (owned : Owned). owned.owner.0 < limit) state

below_others : (limit : ℕ) (state : List Owned) → OwnedBelow (suc limit) state → OwnedBelow limit (others limit state)
unfolding others
below_others limit [] all = tt
below_others limit (owned ∷ rest) all =
    elim (eqb_tells owned.owner.0 limit) [
      | inl same ↦ rw same.0 (below_others limit rest all.1)
      | inr other ↦ rw other.0 (omega (arith, all.0, other.1), below_others limit rest all.1)
    ]

few_below : (limit : ℕ) (state : List Owned) → OwnedBelow limit state → ((client : ℕ) → owned_by client state ≤ 64) → length state ≤ 64 * limit
few_below zero [] all few = omega arith
few_below zero (owned ∷ rest) all few = absurd (omega (arith, all.0))
few_below (suc limit) state all few =
    let rest = few_below limit (others limit state) (below_others limit state all) (λ client. omega (arith, fewer_others client limit state, few client)) in
    omega (arith, rest, length-others limit state, few limit)

owners_below : (state : List Owned) → AllByRecursion IsOwned state → OwnedBelow 64 state
owners_below [] all = tt
owners_below (owned ∷ rest) all = (all.0.client, owners_below rest all.1)

pub state_few : (state : List Owned) → IsGuardState state → length state ≤ 4096
state_few state is = omega (arith, few_below 64 state (owners_below state is.each) is.few)

-- ---- what no rule denies

pub denial_none : (client : ℕ) (op : GuardOp) → denial client op ≡ None → (client < 64) × (op_denial client op ≡ None)
denial_none client op none =
    elim (cases_Bool (ltb client 64)) [
      | inl small ↦ (ltb-true client 64 small, rw small at none)
      | inr great ↦ let some : Some UnknownClient ≡ None = rw great at none in absurd (cc)
    ]

access_allowed : (client : ℕ) (access : Access) → access_denial client access ≡ None → (has client access.readers.0 ≡ true) × (is_within access.takers.0 access.readers.0 ≡ true)
access_allowed client access none =
    elim (cases_Bool (has client access.readers.0)) [
      | inl reads ↦ elim (cases_Bool (is_within access.takers.0 access.readers.0)) [
        | inl within ↦ (reads, within)
        | inr beyond ↦ let some : Some TakerNotReader ≡ None = rw beyond at (rw reads at none) in absurd (cc)
      ]
      | inr hidden ↦ let some : Some OwnerNotReader ≡ None = rw hidden at none in absurd (cc)
    ]

pub owned_is : (client : ℕ) (access : Access) (tuple : List Field) → client < 64 → access_denial client access ≡ None → IsAccess access → IsTuple tuple → IsOwned (owned_of client access tuple)
owned_is client access tuple small none sets fields =
    let allowed = access_allowed client access none in
    record { client = small; sets = sets; reads = allowed.0; within = allowed.1; fields = fields }

-- ---- the oldest match

pub oldest_skips : (client : ℕ) (template : List Slot) (first : Owned) (others : List Owned) → (sees client first && matches template first.tuple) ≡ false
    → oldest template (visible client (first ∷ others)) ≡ oldest template (visible client others)
oldest_skips client template first others miss =
    elim (cases_Bool (sees client first)) [
      | inl seen ↦ let other : matches template first.tuple ≡ false = rw seen at miss in rw (seen, other) refl
      | inr hidden ↦ rw hidden refl
    ]

-- the oldest match that a client sees stands between these
pub record IsSplit (client : ℕ) (template : List Slot) (state : List Owned) (owned : Owned) : Type 0 where
  pub front : List Owned
  pub back : List Owned
  pub before : state ≡ front ++ owned ∷ back
  pub after : without_oldest client template state ≡ front ++ back
  pub reads : sees client owned ≡ true

push_split : (client : ℕ) (template : List Slot) (first : Owned) (others : List Owned) (owned : Owned) → (sees client first && matches template first.tuple) ≡ false
    → IsSplit client template others owned → IsSplit client template (first ∷ others) owned
push_split client template first others owned miss rest =
    record {
      front = first ∷ rest.front;
      back = rest.back;
      before = ap (λ (state : List Owned). first ∷ state) rest.before;
      after = rw miss (ap (λ (state : List Owned). first ∷ state) rest.after);
      reads = rest.reads;
    }

pub split_seen : (client : ℕ) (template : List Slot) (state : List Owned) (owned : Owned) → oldest template (visible client state) ≡ Some owned → IsSplit client template state owned
split_seen client template [] owned is = absurd (cc)
split_seen client template (first ∷ others) owned is =
    elim (cases_Bool (sees client first && matches template first.tuple)) [
      | inl fits ↦
          let parts = and_parts (sees client first) (matches template first.tuple) fits in
          let here : Some first ≡ Some owned = rw parts.1 at (rw parts.0 at is) in
          subst (IsSplit client template (first ∷ others)) (same_Some first owned here)
          (record { front = []; back = others; before = refl; after = rw fits refl; reads = parts.0 })
      | inr miss ↦ push_split client template first others owned miss (split_seen client template others owned (sym (oldest_skips client template first others miss) ∙ is))
    ]
