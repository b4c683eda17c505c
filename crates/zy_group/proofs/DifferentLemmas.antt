-- Different numbers, value by value.
use Rattle.std.proofs.Common.{◌≡◌, ℕ, ◌+◌, ◌<◌, ◌≤◌, true, false, cond, nat_eq, List, [], ◌∷◌, ◌++◌, length, get_or, drop, Some, None, option_and_then, refl, ◌∙◌}
use Rattle.std.specs.List.{list_any}
use Rattle.std.proofs.lemmas.List.{drop_more, drop_all}
use Rattle.toml.specs.View.{view, items_view}
use Rattle.toml.specs.declared.value.Value.{Value}
use Rattle.zy_group.specs.Fields.{number_of, different_from}

module _ (last : ℕ) (found : List ℕ) (values : List Value) (i : ℕ) where
  pub different-done : length values ≤ i → different_from last found (items_view (drop i values)) ≡ Some found
  unfolding different_from
  different-done past = rw (drop_all i values past) refl

  module _ (value : Value) (below : i < length values) (is : value ≡ get_or values i value) where
    different-next : different_from last found (items_view (drop i values))
        ≡ option_and_then (λ n. cond (list_any (λ other. nat_eq other n) found) None (different_from last (found ++ n ∷ []) (items_view (drop (i + 1) values)))) (number_of 0 last (view value))
    unfolding different_from
    different-next = rw (drop_more values i value below, ← is) refl

    pub different-other : None ≡ number_of 0 last (view value) → different_from last found (items_view (drop i values)) ≡ None
    different-other none = different-next ∙ rw (← none) refl

    pub different-again : (n : ℕ) → Some n ≡ number_of 0 last (view value) → list_any (λ other. nat_eq other n) found ≡ true → different_from last found (items_view (drop i values)) ≡ None
    different-again n some twice = different-next ∙ rw (← some) (rw twice refl)

    pub different-more : (n : ℕ) → Some n ≡ number_of 0 last (view value) → list_any (λ other. nat_eq other n) found ≡ false
        → different_from last found (items_view (drop i values)) ≡ different_from last (found ++ n ∷ []) (items_view (drop (i + 1) values))
    different-more n some once = different-next ∙ rw (← some) (rw once refl)
