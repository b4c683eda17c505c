-- All view certificates of one view have one mark, which each correct history of the view passes.
use Rattle.std.proofs.Common.{◌≡◌, ℕ, zero, suc, ◌+◌, ◌<◌, inl, inr, [], refl, sym, ap, ◌∙◌, subst, arith}
use Rattle.std.proofs.lemmas.Bool.{cases_lt}
use Rattle.std.proofs.lemmas.Option.{slice_get_within, same_Some}
use Rattle.zy_chain.specs.Stretch.{Mark}
use Rattle.zy_law.specs.Fixed.{IsFixed}
use Rattle.zy_law.specs.Histories.{Passes, origin, mark_of_all}
use Rattle.zy_law.specs.World.{Stand, World}
use Rattle.zy_law.specs.World.Statement.{Began}
use Rattle.zy_law.specs.Said.{IsCorrect, Stood, Moment, At, IsBacked}
use Rattle.zy_law.specs.Lawful.{IsLawful, IsNext}
use Rattle.zy_law.specs.Lists.{Extends, IsSafeStart, AreChoicesSafe}
use Rattle.zy_law.proofs.HistoryLemmas.{Passes-longer, Passes-itself, Passes-origin}
use Rattle.zy_law.proofs.PastLemmas.{stand_at}
use Rattle.zy_law.proofs.QuorumLemmas.{both_said, one_said}

-- the mark with which a view begins: the empty history's for view 0, a view certificate's for each later one
pub record IsBegin (w : World) (view : ℕ) (m : Mark) : Type 0 where
  pub first : view ≡ 0 → m ≡ origin
  pub later : 0 < view → IsBacked w w.counts.cert (Began view m)

module _ (w : World) (lawful : IsLawful w) where
  begin_next : (a b : Stand) → IsNext a b → ((a.view < b.view) → IsBacked w w.counts.cert (Began b.view (mark_of_all w.next b.history)))
      → (m : Mark) × IsBegin w a.view m × Passes w.next a.history m → (m : Mark) × IsBegin w b.view m × Passes w.next b.history m
  begin_next a b (inl same) begun before =
      (before.0, subst (λ (v : ℕ). IsBegin w v before.0) same.0 before.1, Passes-longer w.next a.history b.history before.0 same.1 before.2)
  begin_next a b (inr greater) begun before =
      (mark_of_all w.next b.history, record { first = λ zero_view. absurd (omega arith); later = λ positive. begun greater }, Passes-itself w.next b.history)

  begin_at : (r number : ℕ) (b : Stand) → IsCorrect w r → Stood w r number b → (m : Mark) × IsBegin w b.view m × Passes w.next b.history m
  begin_at r zero b correct stood =
      let start = same_Some b (record { view = 0; history = [] }) (sym stood ∙ lawful.begins r correct) in
      (origin, record { first = λ zero_view. refl; later = λ positive. absurd (omega (arith, ap (λ (s : Stand). s.view) start)) }, Passes-origin w.next b.history)
  begin_at r (suc number) b correct stood =
      let a = stand_at w r number (omega (arith, slice_get_within (w.past r) (suc number) b stood)) in
      let here : Stood w r (number + 1) b = subst (λ (k : ℕ). Stood w r k b) (omega arith) stood in
      begin_next a.0 b (lawful.growth r number a.0 b correct a.1 here) (lawful.begun r number a.0 b correct a.1 here) (begin_at r number a.0 correct a.1)

  -- each correct history of a view passes a mark with which the view begins
  pub begin_of : (t : Moment w) → (m : Mark) × IsBegin w t.stand.view m × At t m
  begin_of t = begin_at t.by t.number t.stand t.correct t.stood

  pub one_begin : (view : ℕ) (m k : Mark) → IsBegin w view m → IsBegin w view k → m ≡ k
  one_begin view m k a b =
      elim (cases_lt 0 view) [
        | inl positive ↦
            let both = both_said w lawful w.counts.cert w.counts.cert (Began view m) (Began view k) (a.later positive) (b.later positive) (omega (arith, w.counts.sound.two_certificates)) in
            lawful.one_confirmation both.0 both.2.0 both.3.0 both.2.1 both.3.1 view m k both.1 both.2.2 both.3.2 both.2.3 both.3.3
        | inr none ↦ a.first (omega arith) ∙ sym (b.first (omega arith))
      ]

  pub begin_passed : (t : Moment w) (m : Mark) → IsBegin w t.stand.view m → At t m
  begin_passed t m a =
      let own = begin_of t in
      subst (λ (k : Mark). At t k) (one_begin t.stand.view own.0 m own.1 a) own.2

  -- ---- where the choices of a view are safe, so is its begin

  pub begin_safe : (view : ℕ) (m : Mark) → 0 < view → IsBegin w view m → AreChoicesSafe w view → IsSafeStart w view m
  begin_safe view m positive a safe =
      let one = one_said w lawful w.counts.cert (Began view m) (a.later positive) (omega (arith, w.counts.sound.two_certificates, w.counts.sound.certificate_in_reach)) in
      let chosen = lawful.chosen_confirmations one.0 one.2.0 one.2.1 view m one.1 one.2.2 one.2.3 in
      safe chosen.reports m chosen.valid chosen.choice

  pub begin_extends : (view earlier : ℕ) (m fixed : Mark) → IsBegin w view m → AreChoicesSafe w view → earlier < view → IsFixed w earlier fixed → Extends w fixed m
  begin_extends view earlier m fixed a safe below is = (begin_safe view m (omega arith) a safe).extends earlier fixed below is
