-- What unlinked cells keep as their neighbours.
use Rattle.std.proofs.Common.{◌≡◌, ◌≢◌, ◌⊎◌, ℕ, zero, suc, ◌+◌, ◌<◌, ◌≤◌, List, [], ◌∷◌, ◌++◌, Option, Some, None, sym, ap, ◌∙◌, arith}
use Rattle.zy_slots.specs.declared.link.Link.{Link}
use Rattle.zy_slots.specs.Cells.{Kept, IsApart, KeptByNone}
use Rattle.zy_slots.specs.Shape.{times, IsAmong, AreAmong, AreNamed, kept_ids}
use Rattle.zy_slots.proofs.TimesLemmas.{times-append, not_there, among_more}

among_fewer : (seen fewer : List ℕ) (gone : ℕ) (place : Option ℕ) → place ≢ Some gone
    → ((other : ℕ) → other ≢ gone → 0 < times other seen → 0 < times other fewer) → IsAmong seen place → IsAmong fewer place
among_fewer seen fewer gone None apart sub among = tt
among_fewer seen fewer gone (Some place) apart sub among = sub place (λ same. apart (ap Some same)) among

pub both_more : (seen more : List ℕ) (link : Link) → ((place : ℕ) → 0 < times place seen → 0 < times place more) → AreAmong seen link → AreAmong more link
both_more seen more link sub among = (among_more seen more link.prev sub among.0, among_more seen more link.next sub among.1)

both_fewer : (seen fewer : List ℕ) (gone : ℕ) (link : Link) → IsApart gone link
    → ((other : ℕ) → other ≢ gone → 0 < times other seen → 0 < times other fewer) → AreAmong seen link → AreAmong fewer link
both_fewer seen fewer gone link apart sub among =
    (among_fewer seen fewer gone link.prev apart.0 sub among.0, among_fewer seen fewer gone link.next apart.1 sub among.1)

apart_from : (seen : List ℕ) (place : ℕ) (link : Link) → AreAmong seen link → times place seen ≡ 0 → IsApart place link
apart_from seen place link among none =
    (λ same. not_there place seen link.prev among.0 none (sym same), λ same. not_there place seen link.next among.1 none (sym same))

some_more : (front n more : ℕ) → (0 < n → 0 < more) → 0 < front + n → 0 < front + more
some_more front zero more sub some = omega arith
some_more front (suc n) more sub some = let there : 0 < more = sub (omega arith) in omega arith

module _ {T : Type 0} where
  pub named_more : (seen more : List ℕ) (stack : List (Kept T)) → ((place : ℕ) → 0 < times place seen → 0 < times place more)
      → AreNamed seen stack → AreNamed more stack
  named_more seen more [] sub named = tt
  named_more seen more (item ∷ items) sub named = (
    both_more seen more item.order sub named.0,
    both_more seen more item.chain sub named.1,
    named_more (item.cell.id ∷ seen) (item.cell.id ∷ more) items
        (λ place some. some_more _ (times place seen) (times place more) (sub place) some) named.2,
  )

  pub named_without : (seen fewer : List ℕ) (gone : ℕ) (stack : List (Kept T)) → KeptByNone stack gone
      → ((other : ℕ) → other ≢ gone → 0 < times other seen → 0 < times other fewer) → AreNamed seen stack → AreNamed fewer stack
  named_without seen fewer gone [] apart sub named = tt
  named_without seen fewer gone (item ∷ items) apart sub named = (
    both_fewer seen fewer gone item.order apart.0.0 sub named.0,
    both_fewer seen fewer gone item.chain apart.0.1 sub named.1,
    named_without (item.cell.id ∷ seen) (item.cell.id ∷ fewer) gone items apart.1
        (λ other elsewhere some. some_more _ (times other seen) (times other fewer) (sub other elsewhere) some) named.2,
  )

  pub kept_by_none : (seen : List ℕ) (stack : List (Kept T)) (place : ℕ) → AreNamed seen stack → times place seen ≡ 0 → times place (kept_ids stack) ≡ 0
      → KeptByNone stack place
  kept_by_none seen [] place named none none' = tt
  kept_by_none seen (item ∷ items) place named none none' = (
    (apart_from seen place item.order named.0 none, apart_from seen place item.chain named.1 none),
    kept_by_none (item.cell.id ∷ seen) items place named.2 (omega arith) (omega arith),
  )

  -- one less on the stack, which may still be named
  pub named_taken : (seen : List ℕ) (front : List (Kept T)) (item : Kept T) (back : List (Kept T)) → AreNamed seen (front ++ item ∷ back)
      → AreNamed (seen ++ item.cell.id ∷ []) (front ++ back)
  named_taken seen [] item back named =
      named_more (item.cell.id ∷ seen) (seen ++ item.cell.id ∷ []) back
      (λ place some. omega (arith, times-append place seen (item.cell.id ∷ []))) named.2
  named_taken seen (other ∷ front) item back named =
      let sub : (place : ℕ) → 0 < times place seen → 0 < times place (seen ++ item.cell.id ∷ []) = λ place some. omega (arith, times-append place seen (item.cell.id ∷ [])) in
      (both_more seen _ other.order sub named.0, both_more seen _ other.chain sub named.1, named_taken (other.cell.id ∷ seen) front item back named.2)

  pub named_front : (seen : List ℕ) (front back : List (Kept T)) → AreNamed seen (front ++ back) → AreNamed seen front
  named_front seen [] back named = tt
  named_front seen (item ∷ front) back named = (named.0, named.1, named_front (item.cell.id ∷ seen) front back named.2)
