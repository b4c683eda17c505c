-- Where a correct replica stands later: views don't fall, and within a view its history grows.
use Rattle.std.proofs.Common.{◌≡◌, ℕ, zero, suc, ◌+◌, ◌-◌, ◌<◌, ◌≤◌, inl, inr, List, [], ◌++◌, length, get_or, sym, ap, ◌∙◌, subst, append_assoc, arith}
use Rattle.std.specs.Prelude.{slice_get}
use Rattle.std.proofs.lemmas.List.{append-nil}
use Rattle.std.proofs.lemmas.Option.{slice_get_within, slice_get-get_or, same_Some}
use Rattle.zy_chain.specs.declared.entry.Entry.{Entry}
use Rattle.zy_law.specs.Histories.{IsFront}
use Rattle.zy_law.specs.World.{Stand, World}
use Rattle.zy_law.specs.Said.{IsCorrect, Stood}
use Rattle.zy_law.specs.Lawful.{IsLawful, IsNext}

pub IsFront-itself : (xs : List Entry) → IsFront xs xs
IsFront-itself xs = ([], sym (append-nil xs))

pub IsFront-further : (xs ys zs : List Entry) → IsFront xs ys → IsFront ys zs → IsFront xs zs
IsFront-further xs ys zs a b = (a.0 ++ b.0, b.1 ∙ ap (λ (l : List Entry). l ++ b.0) a.1 ∙ append_assoc xs a.0 b.0)

next_further : (a b c : Stand) → IsNext a b → IsNext b c → IsNext a c
next_further a b c (inl x) (inl y) = inl (x.0 ∙ y.0, IsFront-further a.history b.history c.history x.1 y.1)
next_further a b c (inl x) (inr y) = inr (omega arith)
next_further a b c (inr x) (inl y) = inr (omega arith)
next_further a b c (inr x) (inr y) = inr (omega arith)

next_itself : (a b : Stand) → a ≡ b → IsNext a b
next_itself a b same = inl (ap (λ (s : Stand). s.view) same, subst (λ (s : Stand). IsFront a.history s.history) same (IsFront-itself a.history))

-- there is a stand of each number below how many there are
pub stand_at : (w : World) (r number : ℕ) → number < length (w.past r) → (b : Stand) × Stood w r number b
stand_at w r number within = (get_or (w.past r) number (record { view = 0; history = [] }), slice_get-get_or (w.past r) number (record { view = 0; history = [] }) within)

pub one_stand : (w : World) (r number other : ℕ) (a b : Stand) → number ≡ other → Stood w r number a → Stood w r other b → a ≡ b
one_stand w r number other a b same x y = same_Some a b (sym x ∙ ap (λ (k : ℕ). slice_get (w.past r) k) same ∙ y)

module _ (w : World) (lawful : IsLawful w) where
  steps : (r number k : ℕ) (a b : Stand) → IsCorrect w r → Stood w r number a → Stood w r (number + k) b → IsNext a b
  steps r number zero a b correct x y = next_itself a b (one_stand w r number (number + 0) a b (omega arith) x y)
  steps r number (suc k) a b correct x y =
      let y' : Stood w r ((number + k) + 1) b = subst (λ (i : ℕ). Stood w r i b) (omega arith) y in
      let before = stand_at w r (number + k) (omega (arith, slice_get_within (w.past r) ((number + k) + 1) b y')) in
      next_further a before.0 b (steps r number k a before.0 correct x before.1) (lawful.growth r (number + k) before.0 b correct before.1 y')

  pub later : (r number other : ℕ) (a b : Stand) → IsCorrect w r → number ≤ other → Stood w r number a → Stood w r other b → IsNext a b
  later r number other a b correct order x y = steps r number (other - number) a b correct x (subst (λ (i : ℕ). Stood w r i b) (omega arith) y)

  pub next_view : (a b : Stand) → IsNext a b → a.view ≤ b.view
  next_view a b (inl x) = omega arith
  next_view a b (inr x) = omega arith

  next_front : (a b : Stand) → a.view ≡ b.view → IsNext a b → IsFront a.history b.history
  next_front a b same (inl x) = x.1
  next_front a b same (inr x) = absurd (omega arith)

  pub later_view : (r number other : ℕ) (a b : Stand) → IsCorrect w r → number ≤ other → Stood w r number a → Stood w r other b → a.view ≤ b.view
  later_view r number other a b correct order x y = next_view a b (later r number other a b correct order x y)

  pub later_front : (r number other : ℕ) (a b : Stand) → IsCorrect w r → number ≤ other → Stood w r number a → Stood w r other b → a.view ≡ b.view
      → IsFront a.history b.history
  later_front r number other a b correct order x y same = next_front a b same (later r number other a b correct order x y)
