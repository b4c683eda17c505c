-- What is fixed in any two views lies on one list, and every correct history of a later view passes it.
use Rattle.std.proofs.Common.{ℕ, ◌<◌, ◌≤◌, inl, inr, subst, arith}
use Rattle.std.proofs.lemmas.Bool.{cases_order}
use Rattle.zy_chain.specs.Stretch.{Mark}
use Rattle.zy_law.specs.Fixed.{IsFixed}
use Rattle.zy_law.specs.World.{World}
use Rattle.zy_law.specs.Said.{Moment, At}
use Rattle.zy_law.specs.Lawful.{IsLawful}
use Rattle.zy_law.specs.Lists.{Extends}
use Rattle.zy_law.proofs.ListLemmas.{Extends-passed, passed_below}
use Rattle.zy_law.proofs.BeganOnce.{begin_of, begin_extends}
use Rattle.zy_law.proofs.OneView.{Together, held_together, held_at, fixed_held}
use Rattle.zy_law.proofs.ChoiceExtends.{all_choices_safe}

module _ (w : World) (lawful : IsLawful w) where
  pub fixed_passed_later : (view : ℕ) (m : Mark) (t : Moment w) → IsFixed w view m → view < t.stand.view → At t m
  fixed_passed_later view m t fixed later =
      let begin = begin_of w lawful t in
      passed_below w lawful t m begin.0 (begin_extends w lawful t.stand.view view begin.0 m begin.1 (all_choices_safe w lawful t.stand.view) later fixed) begin.2

  earlier_together : (view later : ℕ) (m k : Mark) → view < later → IsFixed w view m → IsFixed w later k → Together w later m k
  earlier_together view later m k before a b =
      let one = held_at w lawful later k (fixed_held w lawful later k b) in
      record { moment = one.0; order = omega (arith, one.1); first = fixed_passed_later view m one.0 a (omega (arith, one.1)); second = one.2 }

  -- a correct history passes both
  pub fixed_together : (view other : ℕ) (m k : Mark) → IsFixed w view m → IsFixed w other k → (t : Moment w) × At t m × At t k
  fixed_together view other m k a b =
      elim (cases_order view other) [
        | inl same ↦
            let both = held_together w lawful other m k (fixed_held w lawful other m (subst (λ (v : ℕ). IsFixed w v m) same a)) (fixed_held w lawful other k b) in
            (both.moment, both.first, both.second)
        | inr (inl before) ↦ let both = earlier_together view other m k before a b in (both.moment, both.first, both.second)
        | inr (inr after) ↦ let both = earlier_together other view k m after b a in (both.moment, both.second, both.first)
      ]

  pub fixed_extends : (view other : ℕ) (m k : Mark) → IsFixed w view m → IsFixed w other k → m.place ≤ k.place → Extends w m k
  fixed_extends view other m k a b order =
      let both = fixed_together view other m k a b in
      Extends-passed w lawful both.0 m k both.1 both.2 order
