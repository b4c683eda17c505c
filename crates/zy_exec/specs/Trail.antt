-- Inner forms, which only private contracts and representations cite: what an execution keeps for each entry above the
-- base, so that it can go back.
use Rattle.std.specs.Prelude.{◌≡◌, ℕ, ◌+◌, ◌-◌, ◌<◌, ◌≤◌, nat_le, if◌then◌else◌, List, [], ◌∷◌, ◌++◌, length, slice_set, slice_index_or, slice_get, Option, Some, None, option_map}
use Rattle.std.specs.List.{AllByRecursion}
use Rattle.zy_base.specs.Machine.{Rules}
use Rattle.zy_base.specs.declared.ids.Place.{Place}
use Rattle.zy_chain.specs.declared.entry.Entry.{Entry}
use Rattle.zy_chain.specs.Stretch.{Stretch}
use Rattle.zy_exec.specs.declared.known.Known.{Known}
use Rattle.zy_exec.specs.declared.known.Done.{Done}
use Rattle.zy_exec.specs.Known.{IsKnownInRange}
use Rattle.zy_exec.specs.Replay.{Point, known_of, step, along}
use Rattle.zy_chain.specs.Entries.{IsOfClients}

-- the oldest of the earlier states, or the state
abbrev pub oldest_state : {S : Type 0} → List S → S → S
oldest_state [] state = state
oldest_state (earlier ∷ states) state = earlier

-- the point at the base
abbrev pub base_of : {S : Type 0} → Stretch → List S → S → List (Option Known) → Point S
base_of s trail state known =
    record { place = s.base.place; head = s.base.head; state = oldest_state trail state; known = known }

-- the state before each entry
abbrev pub states_from : {S : Type 0} → Rules S → Point S → List Entry → List S
states_from R p [] = []
states_from R p (e ∷ entries) = p.state ∷ states_from R (step R p e) entries

-- for each client the place of its last entry, from those before the base on
abbrev pub placed : List (Option Place) → Entry → ℕ → List (Option Place)
placed last e place = slice_set last e.client.0 (Some (record { 0 = place }))

abbrev pub last_from : ℕ → List (Option Place) → List Entry → List (Option Place)
last_from place last [] = last
last_from place last (e ∷ entries) = last_from (place + 1) (placed last e (place + 1)) entries

-- for each entry what is known of it, and the place of its client's earlier entry
abbrev pub done_from : {S : Type 0} → Rules S → Point S → List (Option Place) → List Entry → List Done
done_from R p last [] = []
done_from R p last (e ∷ entries) =
    record { client = e.client; known = known_of R p e; earlier = slice_index_or last e.client.0 None }
    ∷ done_from R (step R p e) (placed last e (p.place + 1)) entries

-- what is known of a client: where its last entry stands above the base, what is kept of that entry, and else what
-- was known at the base. A place up to the base means the base.
abbrev pub known_above : List Done → ℕ → Option Known
known_above done index = option_map (λ (d : Done). d.known) (slice_get done index)

abbrev pub known_at : ℕ → List (Option Known) → List Done → ℕ → Option Place → Option Known
known_at base base_known done client None = slice_index_or base_known client None
known_at base base_known done client (Some place) = if nat_le place.0 base then slice_index_or base_known client None else known_above done (place.0 - base - 1)

-- the last of what is kept is gone, and its client's earlier entry is the last one again
pub record IsPopped (done done' : List Done) (last last' : List (Option Place)) : Type 0 where
  pub popped : Done
  pub done_was : done ≡ done' ++ popped ∷ []
  pub last_now : last' ≡ slice_set last popped.client.0 popped.earlier

-- the first of what is kept is gone, and is what was known at the base
pub record IsSettled (done done' : List Done) (base_known base_known' : List (Option Known)) : Type 0 where
  pub first : Done
  pub done_was : done ≡ first ∷ done'
  pub known_now : base_known' ≡ slice_set base_known first.client.0 (Some first.known)

abbrev pub IsDoneInRange : Done → Type 0
IsDoneInRange d = (d.client.0 < 64) × IsKnownInRange d.known

abbrev pub IsBaseInRange : Option Known → Type 0
IsBaseInRange None = Unit {0}
IsBaseInRange (Some k) = IsKnownInRange k

-- places of clients' last entries that aren't above the base
pub record IsBefore (base : ℕ) (before : List (Option Place)) : Type 0 where
  pub all_clients : length before ≡ 64
  pub below : (client : ℕ) (place : Place) → slice_index_or before client None ≡ Some place → place.0 ≤ base

-- the machine, and what is kept of the entries above the base, are what replay gives
pub record IsReplayed {S : Type 0} (R : Rules S) (base : Point S) (entries : List Entry) (state : S) (trail : List S) (done : List Done) (last : List (Option Place)) : Type 0 where
  pub state_is : state ≡ (along R base entries).state
  pub trail_is : trail ≡ states_from R base entries
  pub before : List (Option Place)
  pub is_before : IsBefore base.place before
  pub done_is : done ≡ done_from R base before entries
  pub last_is : last ≡ last_from base.place before entries
  pub clients : AllByRecursion IsOfClients entries
  pub all_clients : length base.known ≡ 64
  pub in_range : AllByRecursion IsDoneInRange done
  pub base_in_range : AllByRecursion IsBaseInRange base.known
