-- The choice of a valid new view extends all that is fixed in earlier views: first where the choices of all earlier
-- views do, then for every view.
use Rattle.std.proofs.Common.{◌≡◌, ℕ, zero, suc, ◌<◌, inl, inr, List, refl, subst, arith}
use Rattle.std.proofs.lemmas.Bool.{cases_lt}
use Rattle.zy_chain.specs.Stretch.{Mark}
use Rattle.zy_choose.specs.Reports.{PlainReport}
use Rattle.zy_choose.specs.Choice.{last_in, IsPicked, IsChoice}
use Rattle.zy_law.specs.Fixed.{IsFixed}
use Rattle.zy_law.specs.Reports.{IsValidNew}
use Rattle.zy_law.specs.Fixed.IsFixed.{fast, slow, stable}
use Rattle.zy_law.specs.World.{World}
use Rattle.zy_law.specs.World.Statement.{Local, Check}
use Rattle.zy_law.specs.Lawful.{IsLawful}
use Rattle.zy_law.specs.Lists.{Extends, AreChoicesSafe}
use Rattle.zy_law.proofs.ListLemmas.{Extends-further}
use Rattle.zy_law.proofs.SpokeBeforeLeaving.IsOf.{commit, check}
use Rattle.zy_law.proofs.ReportedLemmas.{Reported}
use Rattle.zy_law.proofs.ChoiceIsKnown.{choice_known, choice_past_anchor}
use Rattle.zy_law.proofs.GreatestView.{fixed_not_later}
use Rattle.zy_law.proofs.LaterBegin.{earlier_carried}
use Rattle.zy_law.proofs.SlowPlaces.{voted_carried}
use Rattle.zy_law.proofs.FastPlaces.{fast_carried}

module _ (w : World) (lawful : IsLawful w) where
  module _ (view : ℕ) (c : Reported w view) (m : Mark) (picked : IsPicked w.next w.counts.agree (last_in c.last c.reports) c.anchor m) where
    to_choice : (k : Mark) → Extends w k c.anchor → Extends w k m
    to_choice k carried = Extends-further w lawful k c.anchor m carried (choice_past_anchor w lawful view c m picked)

    carried_here : (k : Mark) → IsFixed w c.last k → Extends w k m
    carried_here k (fast a backed) = fast_carried w lawful view c m picked k a backed
    carried_here k (slow certified backed) =
        to_choice k (voted_carried w lawful view c k (Local c.last k) (commit refl) (refl, refl) (slow certified backed) backed)
    carried_here k (stable state backed) =
        to_choice k (voted_carried w lawful view c k (Check c.last k state) (check state refl) (refl, refl) (stable state backed) backed)

    carried : (earlier : ℕ) (k : Mark) → earlier < view → IsFixed w earlier k → Extends w k m
    carried earlier k below fixed =
        let order = fixed_not_later w lawful view c earlier k below fixed in
        elim (cases_lt earlier c.last) [
          | inl before ↦ to_choice k (earlier_carried w lawful view c earlier k before fixed)
          | inr after ↦
              let same : earlier ≡ c.last = omega arith in
              carried_here k (subst (λ (v : ℕ). IsFixed w v k) same fixed)
        ]

  pub reported : (view : ℕ) (reports : List PlainReport) (m : Mark) → ((earlier : ℕ) → earlier < view → AreChoicesSafe w earlier) → IsValidNew w view reports
      → IsChoice w.next w.counts.agree reports m → Reported w view
  reported view reports m safe valid choice =
      record { reports = reports; valid = valid; safe = safe; last = choice.view; greatest = choice.greatest; anchor = choice.anchor; anchored = choice.anchored }

  pub choices_extend : (view : ℕ) → ((earlier : ℕ) → earlier < view → AreChoicesSafe w earlier) → AreChoicesSafe w view
  unfolding reported
  choices_extend view safe reports m valid choice =
      let c = reported view reports m safe valid choice in
      record {
        known = choice_known w lawful view c m choice.picked;
        extends = λ earlier k below fixed. carried view c m choice.picked earlier k below fixed;
      }

  -- by strong induction
  below : (n view : ℕ) → view < n → AreChoicesSafe w view
  below zero view order = absurd (omega arith)
  below (suc n) view order = choices_extend view (λ earlier before. below n earlier (omega arith))

  pub all_choices_safe : (view : ℕ) → AreChoicesSafe w view
  all_choices_safe view = below (suc view) view (omega arith)
