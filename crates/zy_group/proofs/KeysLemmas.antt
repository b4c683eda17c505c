-- Public keys, value by value.
use Rattle.std.proofs.Common.{◌≡◌, ℕ, ◌+◌, ◌<◌, ◌≤◌, List, [], ◌∷◌, ◌++◌, length, get_or, drop, Some, None, option_and_then, refl, ◌∙◌}
use Rattle.std.proofs.lemmas.List.{drop_more, drop_all}
use Rattle.toml.specs.View.{view, items_view}
use Rattle.toml.specs.declared.value.Value.{Value}
use Rattle.zy_group.specs.Fields.{key_of, keys_from}

module _ (found : List (List ℕ)) (values : List Value) (i : ℕ) where
  pub keys-done : length values ≤ i → keys_from found (items_view (drop i values)) ≡ Some found
  unfolding keys_from
  keys-done past = rw (drop_all i values past) refl

  module _ (value : Value) (below : i < length values) (is : value ≡ get_or values i value) where
    keys-next : keys_from found (items_view (drop i values))
        ≡ option_and_then (λ key. keys_from (found ++ key ∷ []) (items_view (drop (i + 1) values))) (key_of (view value))
    unfolding keys_from
    keys-next = rw (drop_more values i value below, ← is) refl

    pub keys-other : None ≡ key_of (view value) → keys_from found (items_view (drop i values)) ≡ None
    keys-other none = keys-next ∙ rw (← none) refl

    pub keys-more : (key : List ℕ) → Some key ≡ key_of (view value)
        → keys_from found (items_view (drop i values)) ≡ keys_from (found ++ key ∷ []) (items_view (drop (i + 1) values))
    keys-more key some = keys-next ∙ rw (← some) refl
