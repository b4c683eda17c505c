use Rattle.std.proofs.Common.{◌≡◌, ◌∷◌, [], ◌++◌, ℕ, List, length, map, refl, sym, ap, ◌∙◌, arith}
use Rattle.std.specs.List.{list_any}
use Rattle.std.specs.Str.{bytes_eq}
use Rattle.std.proofs.lemmas.List.{append-nil}
use Rattle.zy_base.specs.declared.step.Spoken.{Spoken}
use Rattle.zy_world_setup.proofs.ListLemmas.{any_moved}
use Rattle.zy_world_setup.proofs.text_set.TextSet.add_all.Goals as goal

abbrev texts : List Spoken → List (List ℕ)
texts said = map (λ spoken. spoken.text) said

none_left : {A : Type 0} (rest : List A) → length rest ≡ 0 → rest ≡ []
none_left [] is = refl
none_left (x ∷ rest) is = cc

pub loop-spoken-preserved : goal.loop-spoken-preserved
loop-spoken-preserved c =
    let steps = c.in-Some.ensures.steps in
    let held = c.loop-spoken.invariant in
    let before = c.loop-spoken.self in
    let left = texts c.next.new.self.rest.items in (
      λ q. any_moved q _ before _ left (c.in_ok-add.ensures q)
          ∙ ap (λ (text : List ℕ). list_any (bytes_eq q) (before ++ text ∷ left)) c.into_vec.ensures
          ∙ ap (λ (said : List Spoken). list_any (bytes_eq q) (before ++ texts said)) (sym steps.0)
          ∙ held.0 q,
      omega (arith, ap length steps.0, steps.1, held.1),
    )

pub returns : goal.returns
returns c q =
    let held = c.loop-spoken.invariant in
    let after = c.loop-spoken.self in
    let empty = none_left _ (held.1 ∙ c.in-None.ensures.steps.0) in
    ap (list_any (bytes_eq q)) (sym (append-nil after))
    ∙ ap (λ (said : List Spoken). list_any (bytes_eq q) (after ++ texts said)) (sym empty)
    ∙ held.0 q
