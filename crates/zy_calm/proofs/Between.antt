-- A calm world between two requests: nothing is left to deliver, all live replicas stand behind the same entries, and no client waits.
use Rattle.std.proofs.Common.{◌≡◌, ℕ, zero, suc, ◌+◌, ◌*◌, ◌<◌, ◌≤◌, Bool, true, List, [], ◌∷◌, ◌++◌, length, get_or, set, cond, Option, Some, None, refl, sym, ap, ◌∙◌, subst, arith, lt-ltb}
use Rattle.std.proofs.lemmas.Bool.{eq-eqb, ne_eqb}
use Rattle.std.proofs.lemmas.List.Sums.{sum_by_push}
use Rattle.std.specs.Prelude.{nat_eq, option_map, slice_index_or}
use Rattle.zy_base.specs.Machine.{Rules}
use Rattle.zy_base.specs.declared.ids.ClientId.{ClientId}
use Rattle.zy_base.specs.declared.ids.Party.TheVariants.{Client, Replica}
use Rattle.zy_chain.specs.Entries.{newer}
use Rattle.zy_chain.specs.declared.entry.Entry.{Entry}
use Rattle.zy_exec.proofs.ReplayLemmas.{along-append, along-cons, along-nil, place-along}
use Rattle.zy_exec.specs.Replay.{Point, along, known_of, origin, step}
use Rattle.zy_exec.specs.declared.known.Known.{Known}
use Rattle.zy_world_law.specs.Setup.{Setup}
use Rattle.zy_world_law.specs.World as world
use Rattle.zy_world_law.specs.World.{World, client_at}
use Rattle.zy_calm.proofs.Receiving.{IsClientOf}
use Rattle.zy_calm.proofs.Happens.{DoHear, Left}
use Rattle.zy_calm.proofs.Turns.{Stands}
use Rattle.zy_calm.proofs.Queue.{Hears}
use Rattle.zy_calm.proofs.Round.{Stand}
use Rattle.zy_calm.specs.Asks.{CalmAsk}
use Rattle.zy_calm.specs.Entries.{asked_in, entry_after}

-- ---- where some entries lead

module _ {S : Type 0} (R : Rules S) where
  abbrev pub point_after : List Entry → Point S
  point_after before = along R (origin R) before

  pub place_after : (before : List Entry) → (point_after before).place ≡ length before
  place_after before = let at : (point_after before).place ≡ 0 + length before = place-along R (origin R) before in omega (arith, at)

  pub point_next : (before : List Entry) (e : Entry) → point_after (before ++ e ∷ []) ≡ step R (point_after before) e
  point_next before e = along-append R (origin R) before e

  -- what each operation leads to is a state
  pub state_along : (is_state : S → Type 0) → ((q : S) (client : ClientId) (op : List ℕ) → is_state q → is_state (R.next q client op)) → (q : Point S) (entries : List Entry) → is_state q.state → is_state (along R q entries).state
  state_along is_state stays q [] is = subst (λ (p : Point S). is_state p.state) (sym (along-nil R q)) is
  state_along is_state stays q (e ∷ entries) is = subst (λ (p : Point S). is_state p.state) (sym (along-cons R q e entries)) (state_along is_state stays (step R q e) entries (stays q.state e.client e.op is))

-- ---- each client's last stamp is no greater than how often it asked

abbrev pub IsUpTo : ℕ → Option Known → Type 0
IsUpTo most None = Unit {0}
IsUpTo most (Some known) = known.stamp.0 ≤ most

pub newer_than : (most : ℕ) (known : Option Known) → IsUpTo most known → newer (record { 0 = most + 1 }) (option_map (λ k. k.stamp) known) ≡ true
newer_than most None is = refl
newer_than most (Some known) is = lt-ltb known.stamp.0 (most + 1) (omega (arith, is))

set_holds : {A : Type 0} (P : Option A → Type 0) (xs : List (Option A)) (i j : ℕ) (y : Option A) → (j ≡ i → P y) → P (get_or xs j None) → P (get_or (set xs i y) j None)
set_holds P [] i j y new old = old
set_holds P (x ∷ xs) zero zero y new old = new refl
set_holds P (x ∷ xs) zero (suc j) y new old = old
set_holds P (x ∷ xs) (suc i) zero y new old = old
set_holds P (x ∷ xs) (suc i) (suc j) y new old = set_holds P xs i j y (λ same. new (ap suc same)) old

is_up_to_more : (few most : ℕ) (known : Option Known) → few ≤ most → IsUpTo few known → IsUpTo most known
is_up_to_more few most None less is = tt
is_up_to_more few most (Some known) less is = let e : known.stamp.0 ≤ most = omega (arith, less, is) in e

asked_more : (client : ClientId) (before : List Entry) (e : Entry) → asked_in client (before ++ e ∷ []) ≡ asked_in client before + cond (nat_eq e.client.0 client.0) 1 0
asked_more client before e = sum_by_push (λ d. cond (nat_eq d.client.0 client.0) 1 0) before e

pub asked_once_more : (before : List Entry) (a : CalmAsk) → asked_in a.client (before ++ entry_after before a ∷ []) ≡ asked_in a.client before + 1
asked_once_more before a =
    asked_more a.client before (entry_after before a)
    ∙ ap (λ (b : Bool). asked_in a.client before + cond b 1 0) (eq-eqb a.client.0 a.client.0 refl)

pub asked_as_before : (client : ClientId) (before : List Entry) (a : CalmAsk) → (client.0 ≡ a.client.0 → ⊥) → asked_in client (before ++ entry_after before a ∷ []) ≡ asked_in client before
asked_as_before client before a other =
    asked_more client before (entry_after before a)
    ∙ ap (λ (b : Bool). asked_in client before + cond b 1 0) (ne_eqb a.client.0 client.0 (λ same. other (sym same)))
    ∙ (let e : asked_in client before + 0 ≡ asked_in client before = omega arith in e)

module _ {S : Type 0} (R : Rules S) where
  -- of all clients
  abbrev pub AreUpTo : List Entry → Type 0
  AreUpTo before = (client : ClientId) → IsUpTo (asked_in client before) (slice_index_or (point_after R before).known client.0 None)

  pub up_to_next : (before : List Entry) (a : CalmAsk) → AreUpTo before → AreUpTo (before ++ entry_after before a ∷ [])
  up_to_next before a are client =
      let e = entry_after before a in
      let p = point_after R before in
      let Says = IsUpTo (asked_in client (before ++ e ∷ [])) in
      let more : asked_in client (before ++ e ∷ []) ≡ asked_in client before + cond (nat_eq e.client.0 client.0) 1 0 = asked_more client before e in
      subst (λ (q : Point S). Says (slice_index_or q.known client.0 None)) (sym (point_next R before e))
      (set_holds Says p.known e.client.0 client.0 (Some (known_of R p e))
      (λ same. subst (λ (n : ℕ). asked_in a.client before + 1 ≤ n) (sym (ap (λ (id : ClientId). asked_in id (before ++ e ∷ [])) (ap (λ (n : ℕ). record { 0 = n }) same) ∙ asked_once_more before a)) (let one : asked_in a.client before + 1 ≤ asked_in a.client before + 1 = omega arith in one))
      (is_up_to_more (asked_in client before) (asked_in client (before ++ e ∷ [])) (slice_index_or p.known client.0 None) (omega (arith, more)) (are client)))

  module _ (s : Setup) (hears : Hears) where
    abbrev pub is_live : ℕ → Bool
    is_live id = hears (Replica (record { 0 = id }))

    abbrev pub stand_at : List Entry → Stand S
    stand_at before = record { point = point_after R before; used = 3 * length before; told = length before }

    -- a client that waits for nothing
    pub record IsIdle (o : Option world.Client) (id stamp : ℕ) : Type 0 where
      pub client : world.Client
      pub there : o ≡ Some client
      pub of : IsClientOf s id stamp client.state
      pub waits : client.state.waiting ≡ None

    abbrev pub IsAsker : ℕ → Type 0
    IsAsker id = (id < s.clients) × (hears (Client (record { 0 = id })) ≡ true)

    pub record IsBetween (w : World S) (before : List Entry) : Type 0 where
      pub hear : DoHear hears w
      pub stand : (id : ℕ) → is_live id ≡ true → id < s.counts.n → Stands R s w (stand_at before) id
      pub clients : (id : ℕ) → IsAsker id → IsIdle (client_at w id) id (asked_in (record { 0 = id }) before)
      pub left : Left hears w []
