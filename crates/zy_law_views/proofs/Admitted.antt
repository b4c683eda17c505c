-- An order that is judged next or held lies past the end of the history and in the window.
use Rattle.std.proofs.Common.{◌≡◌, ◌+◌, ◌<◌, ◌≤◌, true, Option, Some, None, ltb-false, leb-false}
use Rattle.std.specs.Prelude.{nat_le, nat_lt}
use Rattle.zy_admit.specs.Judging.{entry_of, judge_at_end, judge_beside, judge_fresh, judge_in, same_digest, same_order}
use Rattle.zy_admit.specs.Orders.{Orders, stored_in}
use Rattle.zy_admit.specs.declared.judging.Admit.{Admit}
use Rattle.zy_admit.specs.declared.judging.Admit.TheVariants as admits
use Rattle.zy_admit.specs.declared.judging.Position.{Position}
use Rattle.zy_chain.specs.Entries.{digest_of_entry, newer}
use Rattle.zy_chain.specs.Heads.{head_after}
use Rattle.zy_frames.specs.declared.frame.OrderFrame.{OrderFrame}
use Rattle.zy_law_normal.proofs.Own.{by_test}
use Rattle.zy_parts.specs.declared.signed.Signed.{Signed}
use Rattle.zy_parts.specs.declared.statements.Ask.{Ask}
use Rattle.zy_parts.specs.declared.statements.Order.{Order}

pub record IsFresh (order : Order) (now : Position) : Type 0 where
  pub above : now.end.0 < order.place.0
  pub below : order.place.0 ≤ now.window.0

pub record IsNext (order : Order) (ask : Signed Ask) (now : Position) : Type 0 where
  pub fresh : IsFresh order now
  pub new : newer ask.stmt.stamp now.last ≡ true

-- what an order comes to tells where it lies
abbrev pub IsPlaced : Order → Signed Ask → Position → Admit → Type 0
IsPlaced order ask now admits.Next = IsNext order ask now
IsPlaced order ask now admits.Held = IsFresh order now
IsPlaced order ask now (admits.Refused cause) = Unit {0}
IsPlaced order ask now admits.Evidence = Unit {0}

module _ (order : Order) (ask : Signed Ask) (now : Position) where
  at_end : IsFresh order now → IsPlaced order ask now (judge_at_end order (entry_of ask) now)
  at_end fresh =
      by_test (IsPlaced order ask now) (same_digest order.head (head_after now.head (digest_of_entry (entry_of ask)))) _ _
      (λ head. by_test (IsPlaced order ask now) (newer ask.stmt.stamp now.last) _ _ (λ new. record { fresh = fresh; new = new }) (λ old. tt))
      (λ other. tt)

  when_fresh : IsPlaced order ask now (judge_fresh order (entry_of ask) now)
  when_fresh =
      by_test (IsPlaced order ask now) (nat_le order.place.0 now.end.0) _ _ (λ old. tt)
      (λ fresh. by_test (IsPlaced order ask now) (nat_lt now.window.0 order.place.0) _ _ (λ past. tt)
      (λ inside.
      let here : IsFresh order now = record { above = leb-false _ _ fresh; below = ltb-false _ _ inside } in
      by_test (IsPlaced order ask now) (same_digest order.request (digest_of_entry (entry_of ask))) _ _
      (λ same. by_test (IsPlaced order ask now) (nat_lt (now.end.0 + 1) order.place.0) _ _ (λ later. here) (λ next. at_end here))
      (λ other. tt)))

  beside : (kept : Option OrderFrame) → IsPlaced order ask now (judge_beside kept order (entry_of ask) now)
  beside None = when_fresh
  beside (Some kept) = by_test (IsPlaced order ask now) (same_order kept.order.stmt order) _ _ (λ same. tt) (λ other. tt)

  pub placed : (orders : Orders) → IsPlaced order ask now (judge_in orders order (entry_of ask) now)
  placed orders = beside (stored_in orders order.place.0)
