-- What a replica makes of two orders for one place, case by case.
use Rattle.std.proofs.Common.{◌≡◌, ℕ, true, false, nat_lt, Option, Some, None, refl, ap, rules}
use Rattle.std.specs.Prelude.{Err, option_map}
use Rattle.std.specs.Ordering.{is_lt, nat_cmp}
use Rattle.std.proofs.lemmas.Option.{same_Some}
use Rattle.zy_base.specs.Machine.{Rules}
use Rattle.zy_base.specs.declared.cause.Cause.TheVariants as causes
use Rattle.zy_parts.specs.declared.signed.Signed.{Signed}
use Rattle.zy_parts.specs.declared.statements.Order.{Order}
use Rattle.zy_frames.specs.declared.frame.Frame.TheVariants as frames
use Rattle.zy_frames.specs.declared.frame.OrderFrame.{OrderFrame}
use Rattle.zy_admit.specs.declared.judging.Admit.{Admit}
use Rattle.zy_admit.specs.declared.judging.Admit.TheVariants as admits
use Rattle.zy_cert.specs.Misbehaviour.{misbehaved}
use Rattle.zy_change.specs.Owing.{next_view}
use Rattle.zy_table.specs.declared.deeds.To.TheVariants.{All}
use Rattle.zy_table.specs.State.{State, own_view}
use Rattle.zy_table.specs.Deeds.{begin, send}
use Rattle.zy_table.specs.Leaving.{leave}
use Rattle.zy_table.specs.Misbehaviour.{blamed, pom, tell_all}
use Rattle.zy_table.specs.Whole.{order_judged}
use Rattle.zy_table.specs.Orders.{order_as}

-- ---- views are compared by their numbers

pub below : (a b : ℕ) → is_lt (nat_cmp a b) ≡ true → nat_lt a b ≡ true
below a b is = search rules

pub not_below : (a b : ℕ) → is_lt (nat_cmp a b) ≡ false → nat_lt a b ≡ false
not_below a b is = search rules

module _ {S : Type 0} (R : Rules S) (s : State S) where
  -- ---- told by another

  pub pom_older : (first second : Signed Order) → nat_lt first.stmt.view.0 (own_view s) ≡ true → pom R s first second ≡ Err causes.OldView
  unfolding pom
  pom_older first second is = rw is refl

  pub pom_newer : (first second : Signed Order) → nat_lt first.stmt.view.0 (own_view s) ≡ false → nat_lt (own_view s) first.stmt.view.0 ≡ true → pom R s first second ≡ Err causes.NewerView
  unfolding pom
  pom_newer first second not later = rw (not, later) refl

  pub pom_own : (first second : Signed Order) → nat_lt first.stmt.view.0 (own_view s) ≡ false → nat_lt (own_view s) first.stmt.view.0 ≡ false → pom R s first second ≡ blamed R s (misbehaved first second)
  unfolding pom
  pom_own first second not none = rw (not, none) refl

  -- ---- by an order that differs from the kept one

  pub told_none : (order : Signed Order) (frame : Option OrderFrame) → option_map (λ (o : OrderFrame). o.order) frame ≡ None → tell_all R s order frame ≡ Err causes.Unmatched
  told_none order None is = refl
  told_none order (Some frame) is = cc

  pub told_both : (order kept : Signed Order) (frame : Option OrderFrame) → option_map (λ (o : OrderFrame). o.order) frame ≡ Some kept
      → tell_all R s order frame ≡ leave R (next_view s.views) (send All (frames.Pom kept order) (begin s))
  told_both order kept None is = cc
  told_both order kept (Some frame) is = ap (λ (k : Signed Order). leave R (next_view s.views) (send All (frames.Pom k order) (begin s))) (same_Some _ _ is)

  pub judged_other : (frame : OrderFrame) (admit : Admit) → (admit ≡ admits.Evidence → ⊥) → order_as R s frame admit ≡ order_judged R s frame admit
  judged_other frame admits.Next other = refl
  judged_other frame admits.Held other = refl
  judged_other frame (admits.Refused cause) other = refl
  judged_other frame admits.Evidence other = absurd (other refl)
