-- Each correct history was taken entry by entry: each entry was asked for, and is newer than all before of its client.
use Rattle.std.proofs.Common.{◌≡◌, ℕ, zero, suc, ◌+◌, ◌-◌, ◌<◌, ◌≤◌, inl, inr, List, [], ◌∷◌, ◌++◌, length, take, drop, refl, sym, ap, ◌∙◌, subst, arith}
use Rattle.std.specs.Prelude.{slice_get}
use Rattle.std.proofs.lemmas.Bool.{cases_lt}
use Rattle.std.proofs.lemmas.List.{length-take-le, take-append-drop, take_all}
use Rattle.std.proofs.lemmas.Option.{slice_get_within, same_Some}
use Rattle.zy_chain.specs.declared.entry.Entry.{Entry}
use Rattle.zy_law.specs.Histories.{IsFront, IsEntryAt, mark_of_all}
use Rattle.zy_law.specs.World.{Stand, World}
use Rattle.zy_law.specs.Said.{IsCorrect, Stood, Moment}
use Rattle.zy_law.specs.Lawful.{IsLawful, IsNext, IsAskedFor, AreAskedFor}
use Rattle.zy_law.proofs.HistoryLemmas.{Passes-itself}
use Rattle.zy_law.proofs.PastLemmas.{stand_at, next_view}
use Rattle.zy_law.proofs.ListLemmas.{passed_fronts}
use Rattle.zy_law.proofs.BeganOnce.{begin_safe}
use Rattle.zy_law.proofs.ChoiceExtends.{all_choices_safe}

-- ---- entries of a front

slice_get-append : {A : Type 0} (xs ys : List A) (i : ℕ) → i < length xs → slice_get (xs ++ ys) i ≡ slice_get xs i
slice_get-append [] ys i within = absurd (omega arith)
slice_get-append (x ∷ xs) ys zero within = refl
slice_get-append (x ∷ xs) ys (suc i) within = slice_get-append xs ys i (omega arith)

pub entry_within : (xs : List Entry) (place : ℕ) (e : Entry) → IsEntryAt xs place e → place ≤ length xs
entry_within xs place e at = omega (arith, slice_get_within xs (place - 1) e at.there)

pub entry_longer : (xs ys : List Entry) (place : ℕ) (e : Entry) → IsFront xs ys → IsEntryAt xs place e → IsEntryAt ys place e
entry_longer xs ys place e front at =
    record {
      first = at.first;
      there = ap (λ (l : List Entry). slice_get l (place - 1)) front.1 ∙ slice_get-append xs front.0 (place - 1) (slice_get_within xs (place - 1) e at.there) ∙ at.there;
    }

pub entry_shorter : (xs ys : List Entry) (place : ℕ) (e : Entry) → IsFront xs ys → place ≤ length xs → IsEntryAt ys place e → IsEntryAt xs place e
entry_shorter xs ys place e front within at =
    let first = at.first in
    record {
      first = first;
      there = sym (ap (λ (l : List Entry). slice_get l (place - 1)) front.1 ∙ slice_get-append xs front.0 (place - 1) (omega arith)) ∙ at.there;
    }

pub take_front : (n : ℕ) (xs : List Entry) → IsFront (take n xs) xs
take_front n xs = (drop n xs, sym (take-append-drop n xs))

-- lists that are one up to a place have one entry there
pub entry_shared : (place : ℕ) (xs ys : List Entry) (e : Entry) → take place xs ≡ take place ys → IsEntryAt xs place e → IsEntryAt ys place e
entry_shared place xs ys e same at =
    let within : place ≤ length (take place xs) = omega (arith, length-take-le place xs (entry_within xs place e at)) in
    let here = entry_shorter (take place xs) xs place e (take_front place xs) within at in
    entry_longer (take place ys) ys place e (take_front place ys) (subst (λ (l : List Entry). IsEntryAt l place e) same here)

module _ (w : World) where
  asked_shorter : (xs ys : List Entry) (place : ℕ) (e : Entry) → IsFront xs ys → place ≤ length xs → IsAskedFor w ys place e → IsAskedFor w xs place e
  asked_shorter xs ys place e front within asked =
      record { asked = asked.asked; newer = λ earlier d before at same. asked.newer earlier d before (entry_longer xs ys earlier d front at) same }

  pub AreAskedFor-front : (xs ys : List Entry) → IsFront xs ys → AreAskedFor w 0 ys → AreAskedFor w 0 xs
  AreAskedFor-front xs ys front all place e after at =
      asked_shorter xs ys place e front (entry_within xs place e at) (all place e after (entry_longer xs ys place e front at))

  pub AreAskedFor-none : AreAskedFor w 0 []
  AreAskedFor-none place e after at = absurd (omega (arith, entry_within [] place e at))

  -- a longer history, whose new entries were asked for
  AreAskedFor-longer : (xs ys : List Entry) → IsFront xs ys → AreAskedFor w 0 xs → AreAskedFor w (length xs) ys → AreAskedFor w 0 ys
  AreAskedFor-longer xs ys front old new place e after at =
      elim (cases_lt (length xs) place) [
        | inl beyond ↦ new place e beyond at
        | inr within ↦
            let here = old place e after (entry_shorter xs ys place e front within at) in
            record {
              asked = here.asked;
              newer = λ earlier d before was same. here.newer earlier d before (entry_shorter xs ys earlier d front (omega arith) was) same;
            }
      ]

module _ (w : World) (lawful : IsLawful w) where
  -- the history of a later view is a front of a correct history of an earlier one
  pub begun_known : (r number : ℕ) (a b : Stand) → IsCorrect w r → Stood w r number a → Stood w r (number + 1) b → a.view < b.view
      → (t : Moment w) × (t.stand.view < b.view) × IsFront b.history t.stand.history
  begun_known r number a b correct x y greater =
      let m = mark_of_all w.next b.history in
      let backed = lawful.begun r number a b correct x y greater in
      let known = (begin_safe w lawful b.view m (omega arith) (record { first = λ none. absurd (omega arith); later = λ positive. backed }) (all_choices_safe w lawful b.view)).known in
      let own : Moment w = record { by = r; correct = correct; number = number + 1; stand = b; stood = y } in
      let same = passed_fronts w lawful own known.moment m (Passes-itself w.next b.history) known.passes in
      let whole : b.history ≡ take (length b.history) known.moment.stand.history = sym (take_all (length b.history) b.history (omega arith)) ∙ same in
      (known.moment, known.earlier, subst (λ (l : List Entry). IsFront l known.moment.stand.history) (sym whole) (take_front (length b.history) known.moment.stand.history))

  asked_next : (a b : Stand) → IsNext a b → AreAskedFor w 0 a.history → (a.view ≡ b.view → AreAskedFor w (length a.history) b.history)
      → (a.view < b.view → AreAskedFor w 0 b.history) → AreAskedFor w 0 b.history
  asked_next a b (inl same) old new begun = AreAskedFor-longer w a.history b.history same.1 old (new same.0)
  asked_next a b (inr greater) old new begun = begun greater

  asked_at : (n : ℕ) → ((t : Moment w) → t.stand.view < n → AreAskedFor w 0 t.stand.history) → (r number : ℕ) (b : Stand) → IsCorrect w r → Stood w r number b
      → b.view < suc n → AreAskedFor w 0 b.history
  asked_at n earlier r zero b correct stood below =
      let start = same_Some b (record { view = 0; history = [] }) (sym stood ∙ lawful.begins r correct) in
      subst (λ (s : Stand). AreAskedFor w 0 s.history) (sym start) (AreAskedFor-none w)
  asked_at n earlier r (suc number) b correct stood below =
      let a = stand_at w r number (omega (arith, slice_get_within (w.past r) (suc number) b stood)) in
      let here : Stood w r (number + 1) b = subst (λ (k : ℕ). Stood w r k b) (omega arith) stood in
      let next = lawful.growth r number a.0 b correct a.1 here in
      asked_next a.0 b next (asked_at n earlier r number a.0 correct a.1 (omega (arith, next_view w lawful a.0 b next)))
      (λ same. lawful.asked_for r number a.0 b correct a.1 here same)
      (λ greater. let known = begun_known r number a.0 b correct a.1 here greater in AreAskedFor-front w b.history known.0.stand.history known.2 (earlier known.0 (omega (arith, known.1))))

  asked_below : (n : ℕ) (t : Moment w) → t.stand.view < n → AreAskedFor w 0 t.stand.history
  asked_below zero t below = absurd (omega arith)
  asked_below (suc n) t below = asked_at n (λ s before. asked_below n s before) t.by t.number t.stand t.correct t.stood below

  pub all_asked_for : (t : Moment w) → AreAskedFor w 0 t.stand.history
  all_asked_for t = asked_below (suc t.stand.view) t (omega arith)
