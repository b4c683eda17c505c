-- Ages rise along the live cells, and an unlinked one's lies between those of its kept neighbours.
use Rattle.std.proofs.Common.{◌≡◌, ◌≢◌, ◌⊎◌, ℕ, ◌+◌, ◌<◌, ◌≤◌, true, false, eqb, cond, List, [], ◌∷◌, ◌++◌, Option, Some, None, refl, sym, ap, ◌∙◌, subst, inl, inr, arith}
use Rattle.std.specs.List.{AllByRecursion}
use Rattle.std.proofs.lemmas.Bool.{eq-eqb}
use Rattle.std.proofs.lemmas.Bool.Decides.{eqb_tells}
use Rattle.zy_slots.specs.declared.link.Link.{Link}
use Rattle.zy_slots.specs.Rings.{first_of, last_from, last_of, between}
use Rattle.zy_slots.specs.Cells.{Cell, Kept, IsApart, KeptByNone, ids, chain_of}
use Rattle.zy_slots.specs.Shape.{times, IsYounger, IsOlder, IsAgedBetween, Rises, IsAged, kept_ids}
use Rattle.zy_slots.proofs.TimesLemmas.{times_self}
use Rattle.zy_slots.proofs.ListLemmas.{all_split, all_parts, all_join, all_map, all_among, all_filter}

-- one age is another
abbrev pub aged_anew : (ℕ → ℕ) → ℕ → ℕ → ℕ → ℕ
aged_anew age place new other = cond (eqb other place) new (age other)

pub age_new : (age : ℕ → ℕ) (place new : ℕ) → aged_anew age place new place ≡ new
age_new age place new = rw (eq-eqb place place refl) refl

pub age_other : (age : ℕ → ℕ) (place new other : ℕ) → other ≢ place → aged_anew age place new other ≡ age other
age_other age place new other apart =
    elim (eqb_tells other place) [
      | inl same ↦ absurd (apart same.1)
      | inr not ↦ rw not.0 refl
    ]

younger_same : (age age' : ℕ → ℕ) (place : Option ℕ) (limit limit' : ℕ) → limit' ≡ limit → ((other : ℕ) → place ≡ Some other → age' other ≡ age other)
    → IsYounger age place limit → IsYounger age' place limit'
younger_same age age' None limit limit' same ages young = tt
younger_same age age' (Some place) limit limit' same ages young = let here = ages place refl in omega arith

older_same : (age age' : ℕ → ℕ) (place : Option ℕ) (limit limit' : ℕ) → limit' ≡ limit → ((other : ℕ) → place ≡ Some other → age' other ≡ age other)
    → IsOlder age limit place → IsOlder age' limit' place
older_same age age' None limit limit' same ages old = tt
older_same age age' (Some place) limit limit' same ages old = let here = ages place refl in omega arith

between_anew : (age : ℕ → ℕ) (place new : ℕ) (link : Link) (id : ℕ) → id ≢ place → IsApart place link → IsAgedBetween age link id → IsAgedBetween (aged_anew age place new) link id
between_anew age place new link id elsewhere apart aged =
    let own = age_other age place new id elsewhere in (
      younger_same age (aged_anew age place new) link.prev _ _ own (λ other same. age_other age place new other (λ equal. apart.0 (same ∙ ap Some equal))) aged.0,
      older_same age (aged_anew age place new) link.next _ _ own (λ other same. age_other age place new other (λ equal. apart.1 (same ∙ ap Some equal))) aged.1,
    )

module _ {T : Type 0} where
  pub rises_out : (age : ℕ → ℕ) (front : List (Cell T)) (cell : Cell T) (back : List (Cell T)) → Rises age (front ++ cell ∷ back) → Rises age (front ++ back)
  rises_out age [] cell back rises = rises.1
  rises_out age (other ∷ front) cell back rises =
      let parts = all_split (λ (c : Cell T). age other.id < age c.id) front cell back rises.0 in
      (all_join (λ (c : Cell T). age other.id < age c.id) front back parts.0 parts.2, rises_out age front cell back rises.1)

  pub rises_in : (age : ℕ → ℕ) (front : List (Cell T)) (cell : Cell T) (back : List (Cell T)) → Rises age (front ++ back)
      → AllByRecursion (λ (c : Cell T). age c.id < age cell.id) front → AllByRecursion (λ (c : Cell T). age cell.id < age c.id) back → Rises age (front ++ cell ∷ back)
  rises_in age [] cell back rises before behind = (behind, rises)
  rises_in age (other ∷ front) cell back rises before behind =
      let parts = all_parts (λ (c : Cell T). age other.id < age c.id) front back rises.0 in
      (all_join (λ (c : Cell T). age other.id < age c.id) front (cell ∷ back) parts.0 (before.0, parts.1), rises_in age front cell back rises.1 before.1 behind)

  pub rises_parts : (age : ℕ → ℕ) (front back : List (Cell T)) → Rises age (front ++ back) → Rises age front × Rises age back
  rises_parts age [] back rises = (tt, rises)
  rises_parts age (cell ∷ front) back rises =
      let rest = rises_parts age front back rises.1 in
      (((all_parts (λ (c : Cell T). age cell.id < age c.id) front back rises.0).0, rest.0), rest.1)

  pub rises_chain : (age : ℕ → ℕ) (bucket : ℕ) (cells : List (Cell T)) → Rises age cells → Rises age (chain_of bucket cells)
  rises_chain age bucket [] rises = tt
  rises_chain age bucket (cell ∷ cells) rises =
      let rest = rises_chain age bucket cells rises.1 in
      let behind = all_filter (λ (c : Cell T). age cell.id < age c.id) (λ (c : Cell T). eqb c.bucket bucket) cells rises.0 in
      elim (eqb cell.bucket bucket) as (λ passes. Rises age (cond passes (cell ∷ chain_of bucket cells) (chain_of bucket cells))) [
        | true ↦ (behind, rest)
        | false ↦ rest
      ]

  younger_last : (age : ℕ → ℕ) (before : Option ℕ) (front : List (Cell T)) (cell : Cell T) (back : List (Cell T)) → Rises age (front ++ cell ∷ back)
      → IsYounger age before (age cell.id) → IsYounger age (last_from before (ids front)) (age cell.id)
  younger_last age before [] cell back rises young = young
  younger_last age before (other ∷ front) cell back rises young =
      younger_last age (Some other.id) front cell back rises.1 (all_split (λ (c : Cell T). age other.id < age c.id) front cell back rises.0).1

  older_first : (age : ℕ → ℕ) (front : List (Cell T)) (cell : Cell T) (back : List (Cell T)) → Rises age (front ++ cell ∷ back)
      → IsOlder age (age cell.id) (first_of (ids back))
  older_first age [] cell [] rises = tt
  older_first age [] cell (next ∷ back) rises = rises.0.0
  older_first age (other ∷ front) cell back rises = older_first age front cell back rises.1

  -- a live cell's age lies between its neighbours'
  pub aged_between : (age : ℕ → ℕ) (front : List (Cell T)) (cell : Cell T) (back : List (Cell T)) → Rises age (front ++ cell ∷ back)
      → IsAgedBetween age (between (ids front) (ids back)) cell.id
  aged_between age front cell back rises = (younger_last age None front cell back rises tt, older_first age front cell back rises)

  pub all_younger : (age : ℕ → ℕ) (cells : List (Cell T)) (limit : ℕ) → Rises age cells → IsYounger age (last_of (ids cells)) limit
      → AllByRecursion (λ (c : Cell T). age c.id < limit) cells
  all_younger age [] limit rises young = tt
  all_younger age (cell ∷ []) limit rises young = (young, tt)
  all_younger age (cell ∷ next ∷ cells) limit rises young =
      let rest = all_younger age (next ∷ cells) limit rises.1 young in
      let first : age cell.id < age next.id = rises.0.0 in
      let second : age next.id < limit = rest.0 in
      (omega arith, rest)

  pub all_older : (age : ℕ → ℕ) (limit : ℕ) (cells : List (Cell T)) → Rises age cells → IsOlder age limit (first_of (ids cells))
      → AllByRecursion (λ (c : Cell T). limit < age c.id) cells
  all_older age limit [] rises old = tt
  all_older age limit (cell ∷ cells) rises old =
      let first : limit < age cell.id = old in
      (old, all_map (λ (c : Cell T). age cell.id < age c.id) (λ (c : Cell T). limit < age c.id) cells (λ c h. omega arith) rises.0)

  -- a list is cut at an age in one way
  pub same_cut : (age : ℕ → ℕ) (limit : ℕ) (front back front' back' : List (Cell T)) → front ++ back ≡ front' ++ back'
      → AllByRecursion (λ (c : Cell T). age c.id < limit) front → AllByRecursion (λ (c : Cell T). limit < age c.id) back
      → AllByRecursion (λ (c : Cell T). age c.id < limit) front' → AllByRecursion (λ (c : Cell T). limit < age c.id) back'
      → (front ≡ front') × (back ≡ back')
  same_cut age limit [] back [] back' same young old young' old' = (refl, same)
  same_cut age limit [] back (cell ∷ front') back' same young old young' old' =
      let old_too : AllByRecursion (λ (c : Cell T). limit < age c.id) (cell ∷ (front' ++ back')) = subst (AllByRecursion (λ (c : Cell T). limit < age c.id)) same old in
      let first : limit < age cell.id = old_too.0 in
      let second : age cell.id < limit = young'.0 in
      absurd (omega arith)
  same_cut age limit (cell ∷ front) back [] back' same young old young' old' =
      let old_too : AllByRecursion (λ (c : Cell T). limit < age c.id) (cell ∷ (front ++ back)) = subst (AllByRecursion (λ (c : Cell T). limit < age c.id)) (sym same) old' in
      let first : limit < age cell.id = old_too.0 in
      let second : age cell.id < limit = young.0 in
      absurd (omega arith)
  same_cut age limit (cell ∷ front) back (cell' ∷ front') back' same young old young' old' =
      let head : cell ≡ cell' = cc in
      let tail : front ++ back ≡ front' ++ back' = cc in
      let rest = same_cut age limit front back front' back' tail young.1 old young'.1 old' in
      (cc (rest.0), rest.1)

  pub rises_anew : (age : ℕ → ℕ) (place new : ℕ) (cells : List (Cell T)) → times place (ids cells) ≡ 0 → Rises age cells → Rises (aged_anew age place new) cells
  rises_anew age place new [] none rises = tt
  rises_anew age place new (cell ∷ cells) none rises =
      let elsewhere : cell.id ≢ place = λ same.
      let there : times place (cell.id ∷ ids cells) ≡ 1 + times place (ids cells) = subst (λ (id : ℕ). times place (id ∷ ids cells) ≡ 1 + times place (ids cells)) (sym same) (times_self place (ids cells)) in
      omega arith in
      let here = age_other age place new cell.id elsewhere in (
        all_among (λ (c : Cell T). c.id) (λ (c : Cell T). age cell.id < age c.id) (λ (c : Cell T). aged_anew age place new cell.id < aged_anew age place new c.id) cells
            (λ c some less.
            let apart : c.id ≢ place = λ same. let there : 0 < times place (ids cells) = subst (λ (id : ℕ). 0 < times id (ids cells)) same some in omega arith in
            let there = age_other age place new c.id apart in omega arith) rises.0,
        rises_anew age place new cells (omega arith) rises.1,
      )

  pub stack_anew : (age : ℕ → ℕ) (place new : ℕ) (stack : List (Kept T)) → times place (kept_ids stack) ≡ 0 → KeptByNone stack place
      → AllByRecursion (IsAged age) stack → AllByRecursion (IsAged (aged_anew age place new)) stack
  stack_anew age place new [] none apart aged = tt
  stack_anew age place new (item ∷ items) none apart aged =
      let elsewhere : item.cell.id ≢ place = λ same.
      let there : times place (item.cell.id ∷ kept_ids items) ≡ 1 + times place (kept_ids items) = subst (λ (id : ℕ). times place (id ∷ kept_ids items) ≡ 1 + times place (kept_ids items)) (sym same) (times_self place (kept_ids items)) in
      omega arith in (
        (between_anew age place new item.order item.cell.id elsewhere apart.0.0 aged.0.0, between_anew age place new item.chain item.cell.id elsewhere apart.0.1 aged.0.1),
        stack_anew age place new items (omega arith) apart.1 aged.1,
      )

  -- an age above those of all live cells
  abbrev pub next_age : (ℕ → ℕ) → List (Cell T) → ℕ
  next_age age [] = 0
  next_age age (cell ∷ cells) = age cell.id + 1 + next_age age cells

  pub below_next : (age : ℕ → ℕ) (cells : List (Cell T)) → AllByRecursion (λ (c : Cell T). age c.id < next_age age cells) cells
  below_next age [] = tt
  below_next age (cell ∷ cells) =
      (omega arith, all_map (λ (c : Cell T). age c.id < next_age age cells) (λ (c : Cell T). age c.id < next_age age (cell ∷ cells)) cells (λ c h. omega arith) (below_next age cells))
