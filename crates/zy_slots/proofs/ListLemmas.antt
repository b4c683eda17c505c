-- What holds of all in a list, and the ids and chains of cells.
use Rattle.std.proofs.Common.{◌≡◌, ◌≢◌, ◌⊎◌, ℕ, ◌+◌, ◌<◌, ◌≤◌, Bool, true, false, eqb, cond, List, [], ◌∷◌, ◌++◌, map, filter, refl, sym, ap, ◌∙◌, inl, inr, arith}
use Rattle.std.specs.List.{AllByRecursion}
use Rattle.std.proofs.lemmas.Bool.{eq-eqb}
use Rattle.std.proofs.lemmas.Bool.Decides.{eqb_tells}
use Rattle.std.proofs.lemmas.List.{map-append}
use Rattle.std.proofs.lemmas.List.Elements.{filter-append}
use Rattle.zy_slots.specs.Cells.{Cell, Kept, ids, chain_of}
use Rattle.zy_slots.specs.Shape.{times, kept_ids}
use Rattle.zy_slots.proofs.TimesLemmas.{times_self}

module _ {A : Type 0} where
  pub all_split : (P : A → Type 0) (front : List A) (x : A) (back : List A) → AllByRecursion P (front ++ x ∷ back)
      → AllByRecursion P front × P x × AllByRecursion P back
  all_split P [] x back all = (tt, all.0, all.1)
  all_split P (y ∷ front) x back all = let rest = all_split P front x back all.1 in ((all.0, rest.0), rest.1, rest.2)

  pub all_parts : (P : A → Type 0) (front back : List A) → AllByRecursion P (front ++ back) → AllByRecursion P front × AllByRecursion P back
  all_parts P [] back all = (tt, all)
  all_parts P (y ∷ front) back all = let rest = all_parts P front back all.1 in ((all.0, rest.0), rest.1)

  pub all_join : (P : A → Type 0) (front back : List A) → AllByRecursion P front → AllByRecursion P back → AllByRecursion P (front ++ back)
  all_join P [] back all all' = all'
  all_join P (y ∷ front) back all all' = (all.0, all_join P front back all.1 all')

  pub all_map : (P Q : A → Type 0) (xs : List A) → ((x : A) → P x → Q x) → AllByRecursion P xs → AllByRecursion Q xs
  all_map P Q [] step all = tt
  all_map P Q (x ∷ xs) step all = (step x all.0, all_map P Q xs step all.1)

  -- with what is known of those that stand in the list
  pub all_among : (id : A → ℕ) (P Q : A → Type 0) (xs : List A) → ((x : A) → 0 < times (id x) (map id xs) → P x → Q x)
      → AllByRecursion P xs → AllByRecursion Q xs
  all_among id P Q [] step all = tt
  all_among id P Q (x ∷ xs) step all =
      (step x (omega (arith, times_self (id x) (map id xs))) all.0, all_among id P Q xs (λ y some. step y (omega arith)) all.1)

  pub all_filter : (P : A → Type 0) (test : A → Bool) (xs : List A) → AllByRecursion P xs → AllByRecursion P (filter test xs)
  all_filter P test [] all = tt
  all_filter P test (x ∷ xs) all =
      let rest = all_filter P test xs all.1 in
      elim (test x) as (λ passes. AllByRecursion P (cond passes (x ∷ filter test xs) (filter test xs))) [ true ↦ (all.0, rest) | false ↦ rest ]

module _ {T : Type 0} where
  pub ids_middle : (front : List (Cell T)) (cell : Cell T) (back : List (Cell T)) → ids (front ++ cell ∷ back) ≡ ids front ++ cell.id ∷ ids back
  ids_middle front cell back = map-append (λ (c : Cell T). c.id) front (cell ∷ back)

  pub ids-append : (front back : List (Cell T)) → ids (front ++ back) ≡ ids front ++ ids back
  ids-append front back = map-append (λ (c : Cell T). c.id) front back

  pub kept_ids-append : (front back : List (Kept T)) → kept_ids (front ++ back) ≡ kept_ids front ++ kept_ids back
  kept_ids-append front back = map-append (λ (k : Kept T). k.cell.id) front back

  pub chain-append : (bucket : ℕ) (front back : List (Cell T)) → chain_of bucket (front ++ back) ≡ chain_of bucket front ++ chain_of bucket back
  chain-append bucket front back = filter-append (λ (c : Cell T). eqb c.bucket bucket) front back

  pub chain_middle : (front : List (Cell T)) (cell : Cell T) (back : List (Cell T))
      → chain_of cell.bucket (front ++ cell ∷ back) ≡ chain_of cell.bucket front ++ cell ∷ chain_of cell.bucket back
  chain_middle front cell back =
      let here : chain_of cell.bucket (cell ∷ back) ≡ cell ∷ chain_of cell.bucket back = rw (eq-eqb cell.bucket cell.bucket refl) refl in
      chain-append cell.bucket front (cell ∷ back) ∙ ap (λ (list : List (Cell T)). chain_of cell.bucket front ++ list) here

  pub chain_beside : (bucket : ℕ) (front : List (Cell T)) (cell : Cell T) (back : List (Cell T)) → bucket ≢ cell.bucket
      → chain_of bucket (front ++ cell ∷ back) ≡ chain_of bucket (front ++ back)
  chain_beside bucket front cell back apart =
      let here : chain_of bucket (cell ∷ back) ≡ chain_of bucket back =
      elim (eqb_tells cell.bucket bucket) [
        | inl same ↦ absurd (apart (sym same.1))
        | inr other ↦ rw other.0 refl
      ] in
      chain-append bucket front (cell ∷ back) ∙ ap (λ (list : List (Cell T)). chain_of bucket front ++ list) here ∙ sym (chain-append bucket front back)

  pub times_chain : (place bucket : ℕ) (cells : List (Cell T)) → times place (ids (chain_of bucket cells)) ≤ times place (ids cells)
  times_chain place bucket [] = omega arith
  times_chain place bucket (cell ∷ cells) =
      let rest = times_chain place bucket cells in
      elim (eqb cell.bucket bucket) as (λ passes. times place (ids (cond passes (cell ∷ chain_of bucket cells) (chain_of bucket cells))) ≤ times place (ids (cell ∷ cells))) [
        | true ↦ omega arith
        | false ↦ omega arith
      ]

  -- no place stands in two chains
  pub times_chains : (place bucket other : ℕ) (cells : List (Cell T)) → bucket ≢ other
      → times place (ids (chain_of bucket cells)) + times place (ids (chain_of other cells)) ≤ times place (ids cells)
  times_chains place bucket other [] apart = omega arith
  times_chains place bucket other (cell ∷ cells) apart =
      let rest = times_chains place bucket other cells apart in
      elim (eqb_tells cell.bucket bucket) [
        | inl is ↦ elim (eqb_tells cell.bucket other) [
          | inl is' ↦ absurd (apart (sym is.1 ∙ is'.1))
          | inr not' ↦ rw (is.0, not'.0) (omega arith)
        ]
        | inr not ↦ elim (eqb_tells cell.bucket other) [
          | inl is' ↦ rw (not.0, is'.0) (omega arith)
          | inr not' ↦ rw (not.0, not'.0) (omega arith)
        ]
      ]
