-- Which frame flows have left.
use Rattle.std.proofs.Common.{◌≡◌, ℕ, zero, suc, ◌+◌, ◌<◌, ◌≤◌, Bool, true, false, not, cond, ◌&&◌, ◌||◌, List, [], ◌∷◌, length, drop, Option, Some, None, refl, sym, ap, ap₂, ◌∙◌, arith}
use Rattle.std.specs.Prelude.{slice_get, option_map, nat_lt, position}
use Rattle.std.specs.List.{position_or_len}
use Rattle.std.proofs.lemmas.Bool.{ltb-true, ltb-false}
use Rattle.std.proofs.lemmas.List.{length-drop}
use Rattle.zy_world.specs.Passed.{is_due_in}
use Rattle.zy_world.specs.Shown.{Shown, is_correct_seat, muted_in, seat_of}
use Rattle.zy_world.specs.Shows.{Shows}
use Rattle.zy_world_law.specs.World.{World, Mail, is_due, next_undelivered}
use Rattle.zy_world.proofs.ShownSeats.{correct_is, seat_shown}

-- ---- the first that passes, behind some that don't

len_past : {A : Type 0} (p : A → Bool) (xs : List A) (n : ℕ) → n ≤ length xs → ((k : ℕ) (x : A) → k < n → slice_get xs k ≡ Some x → p x ≡ false) → position_or_len p xs ≡ n + position_or_len p (drop n xs)
len_past p xs zero within none = let none : position_or_len p xs ≡ 0 + position_or_len p xs = omega arith in none
len_past p [] (suc n) within none = absurd (omega (arith, within))
len_past p (x ∷ xs) (suc n) within none =
    let first : p x ≡ false = none 0 x (omega arith) refl in
    let rest : position_or_len p xs ≡ n + position_or_len p (drop n xs) = len_past p xs n (omega (arith, within)) (λ k y below is. none (suc k) y (omega (arith, below)) is) in
    ap (λ (b : Bool). cond (not b) (1 + position_or_len p xs) 0) first ∙ omega (arith, rest)

numbered_from : (n len at rest : ℕ) → len ≡ n + rest → (b : Bool) → nat_lt at rest ≡ b → (c : Bool) → nat_lt (n + at) len ≡ c
    → option_map (λ before. before + 1) (cond c (Some (n + at)) None) ≡ option_map (λ ahead. n + ahead + 1) (cond b (Some at) None)
numbered_from n len at rest is true below true within = refl
numbered_from n len at rest is false above false past = refl
numbered_from n len at rest is true below false past = absurd (omega (arith, ltb-true at rest below, ltb-false (n + at) len past, is))
numbered_from n len at rest is false above true within = absurd (omega (arith, ltb-false at rest above, ltb-true (n + at) len within, is))

pub position_past : {A : Type 0} (p : A → Bool) (xs : List A) (n : ℕ) → n ≤ length xs → ((k : ℕ) (x : A) → k < n → slice_get xs k ≡ Some x → p x ≡ false)
    → option_map (λ before. before + 1) (position p xs) ≡ option_map (λ ahead. n + ahead + 1) (position p (drop n xs))
position_past p xs n within none =
    let rest = drop n xs in
    let at = position_or_len p rest in
    ap (λ (first : ℕ). option_map (λ before. before + 1) (cond (nat_lt first (length xs)) (Some first) None)) (len_past p xs n within none)
    ∙ numbered_from n (length xs) at (length rest) (omega (arith, within, length-drop n xs)) (nat_lt at (length rest)) refl (nat_lt (n + at) (length xs)) refl

-- ---- frames

due_by : (delivered dropped correct muted : Bool) → (not delivered && (not dropped && (correct && not muted))) ≡ (not (delivered || (dropped || not correct)) && not muted)
due_by true dropped correct muted = refl
due_by false true correct muted = refl
due_by false false true muted = refl
due_by false false false muted = refl

module _ {S : Type 0} (g : World S) (v : Shown S) (s : Shows g v) where
  pub due_is : (mail : Mail) → is_due g mail ≡ is_due_in v mail
  due_is mail =
      ap₂ (λ (c m : Bool). not mail.delivered && (not mail.dropped && (c && not m)))
      (correct_is g mail.to ∙ ap is_correct_seat (sym (seat_shown g v.seats s.seats mail.to))) (sym (s.mutes.marks mail.to))
      ∙ due_by mail.delivered mail.dropped (is_correct_seat (seat_of v.seats mail.to)) (muted_in v.mutes mail.to)

  pub next_is : (found : Option ℕ) → v.bag.passed.idle ≤ length v.bag.mails → found ≡ position (is_due_in v) (drop v.bag.passed.idle v.bag.mails)
      → option_map (λ ahead. v.bag.passed.idle + ahead + 1) found ≡ next_undelivered g
  next_is found within is =
      let tests : is_due g ≡ is_due_in v = λ j mail. due_is mail j in
      let all : position (is_due g) g.bag ≡ position (is_due_in v) v.bag.mails = ap₂ (λ (p : Mail → Bool) (mails : List Mail). position p mails) tests s.mails in
      ap (option_map (λ ahead. v.bag.passed.idle + ahead + 1)) is
      ∙ sym (position_past (is_due_in v) v.bag.mails v.bag.passed.idle within s.past.idle)
      ∙ sym (ap (option_map (λ before. before + 1)) all)
