-- An order that is run or held lies above the end of the history, and within the window.
use Rattle.std.proofs.Common.{◌≡◌, ◌≤◌, ◌<◌, Bool, true, false, Option, Some, None, refl, subst}
use Rattle.std.specs.Prelude.{if◌then◌else◌, nat_le, nat_lt}
use Rattle.std.proofs.lemmas.Bool.{leb-false, ltb-false}
use Rattle.zy_base.specs.declared.cause.Cause.TheVariants as causes
use Rattle.zy_parts.specs.declared.signed.Signed.{Signed}
use Rattle.zy_parts.specs.declared.statements.Ask.{Ask}
use Rattle.zy_parts.specs.declared.statements.Order.{Order}
use Rattle.zy_frames.specs.declared.frame.OrderFrame.{OrderFrame}
use Rattle.zy_admit.specs.declared.judging.Admit.{Admit}
use Rattle.zy_admit.specs.declared.judging.Admit.TheVariants as admits
use Rattle.zy_admit.specs.declared.judging.Position.{Position}
use Rattle.zy_admit.specs.Judging.{judge_in, judge_beside, judge_fresh, same_order, entry_of}
use Rattle.zy_admit.specs.Orders.{Orders, stored_in}

abbrev pub is_kept : Admit → Bool
is_kept admits.Next = true
is_kept admits.Held = true
is_kept admits.Evidence = false
is_kept (admits.Refused cause) = false

module _ (order : Order) (ask : Signed Ask) (now : Position) where
  abbrev pub IsWithin : Type 0
  IsWithin = (now.end.0 < order.place.0) × (order.place.0 ≤ now.window.0)

  at_if : (old late : Bool) (rest : Admit) → nat_le order.place.0 now.end.0 ≡ old → nat_lt now.window.0 order.place.0 ≡ late
      → is_kept (if old then admits.Refused causes.OldPlace else (if late then admits.Refused (causes.WindowFull now.window) else rest)) ≡ true → IsWithin
  at_if true late rest place window is = let never : ⊥ = cc in absurd never
  at_if false true rest place window is = let never : ⊥ = cc in absurd never
  at_if false false rest place window is = (leb-false _ _ place, ltb-false _ _ window)

  fresh : is_kept (judge_fresh order (entry_of ask) now) ≡ true → IsWithin
  fresh is = at_if (nat_le order.place.0 now.end.0) (nat_lt now.window.0 order.place.0) _ refl refl is

  other : (same : Bool) → is_kept (if same then admits.Refused causes.Repeat else admits.Evidence) ≡ true → IsWithin
  other true is = let never : ⊥ = cc in absurd never
  other false is = let never : ⊥ = cc in absurd never

  beside : (kept : Option OrderFrame) → is_kept (judge_beside kept order (entry_of ask) now) ≡ true → IsWithin
  beside None is = fresh is
  beside (Some kept) is = other (same_order kept.order.stmt order) is

  pub kept_within : (orders : Orders) (admit : Admit) → admit ≡ judge_in orders order (entry_of ask) now → is_kept admit ≡ true → IsWithin
  kept_within orders admit judged is = beside (stored_in orders order.place.0) (subst (λ (a : Admit). is_kept a ≡ true) judged is)
