-- Acts one after another: with one more at the end.
use Rattle.std.proofs.Common.{◌≡◌, ℕ, ◌+◌, List, [], ◌∷◌, ◌++◌, append_assoc, refl, sym, ap, ◌∙◌}
use Rattle.std.specs.List.{AllByRecursion}
use Rattle.zy_law.specs.Steps as law
use Rattle.zy_law.specs.Steps.{AllMay, after_act, after_acts}
use Rattle.zy_law.specs.World.{World}
use Rattle.zy_table.specs.Deeds.{gains_in}
use Rattle.zy_table.specs.declared.deeds.Act.{Act}
use Rattle.zy_table.specs.declared.deeds.Got.{Got}
use Rattle.zy_table.specs.declared.deeds.Act.TheVariants.{Says, Gains, Adopts}

-- ---- lists of acts

-- each of a list is allowed, and then each of another in the world after it
pub AllMay-append : (w : World) (r : ℕ) (xs ys : List law.Act) → AllMay w r xs → AllMay (after_acts w r xs) r ys → AllMay w r (xs ++ ys)
AllMay-append w r [] ys first then = then
AllMay-append w r (x ∷ xs) ys first then = (first.0, AllMay-append (after_act w r x) r xs ys first.1 then)

-- ---- what was gained

pub gains_in-append : (xs ys : List Act) → gains_in (xs ++ ys) ≡ gains_in xs ++ gains_in ys
gains_in-append [] ys = refl
gains_in-append (Says remark ∷ xs) ys = gains_in-append xs ys
gains_in-append (Gains got ∷ xs) ys = ap (λ (l : List Got). got ∷ l) (gains_in-append xs ys)
gains_in-append (Adopts begun common gots ∷ xs) ys =
    ap (λ (l : List Got). gots ++ l) (gains_in-append xs ys) ∙ sym (append_assoc gots (gains_in xs) (gains_in ys))

module _ {A : Type 0} (P : A → Type 0) where
  pub all_of_front : (xs ys : List A) → AllByRecursion P (xs ++ ys) → AllByRecursion P xs
  all_of_front [] ys all = tt
  all_of_front (x ∷ xs) ys all = (all.0, all_of_front xs ys all.1)

  pub all_of_rest : (xs ys : List A) → AllByRecursion P (xs ++ ys) → AllByRecursion P ys
  all_of_rest [] ys all = all
  all_of_rest (x ∷ xs) ys all = all_of_rest xs ys all.1

  pub all_of_both : (xs ys : List A) → AllByRecursion P xs → AllByRecursion P ys → AllByRecursion P (xs ++ ys)
  all_of_both [] ys first then = then
  all_of_both (x ∷ xs) ys first then = (first.0, all_of_both xs ys first.1 then)
