-- The orders that are kept are those of their signers, as slots are filled and dropped.
use Rattle.std.proofs.Common.{ℕ, zero, suc, ◌+◌, ◌-◌, List, [], ◌∷◌, ◌++◌, length, replicate, set, Option, Some, None}
use Rattle.std.specs.List.{AllByRecursion}
use Rattle.zy_admit.specs.Orders.{Orders, with_order}
use Rattle.zy_frames.specs.declared.frame.OrderFrame.{OrderFrame}
use Rattle.zy_law.specs.World.{World}
use Rattle.zy_parts.specs.declared.signed.Signed.{Signed}
use Rattle.zy_parts.specs.declared.statements.Order.{Order}
use Rattle.zy_law_views.specs.Held.{IsHeldPart}
use Rattle.zy_law_views.specs.Told.{order_told}
use Rattle.zy_law_views.specs.Work.{IsSlotSigned}

-- in a world in which no less is held
slot_more : (w v : World) → ((order : Signed Order) → IsHeldPart w order_told order → IsHeldPart v order_told order) → (o : Option OrderFrame) → IsSlotSigned w o → IsSlotSigned v o
slot_more w v more None held = tt
slot_more w v more (Some o) held = more o.order held

pub signed_more : (w v : World) → ((order : Signed Order) → IsHeldPart w order_told order → IsHeldPart v order_told order) → (slots : List (Option OrderFrame)) → AllByRecursion (IsSlotSigned w) slots
    → AllByRecursion (IsSlotSigned v) slots
signed_more w v more [] all = tt
signed_more w v more (o ∷ slots) all = (slot_more w v more o all.0, signed_more w v more slots all.1)

pub signed_with : (w : World) (slots : List (Option OrderFrame)) (i : ℕ) (o : Option OrderFrame) → AllByRecursion (IsSlotSigned w) slots → IsSlotSigned w o → AllByRecursion (IsSlotSigned w) (set slots i o)
signed_with w [] i o all one = tt
signed_with w (first ∷ slots) zero o all one = (one, all.1)
signed_with w (first ∷ slots) (suc i) o all one = (all.0, signed_with w slots i o all.1 one)

signed_free : (w : World) (slots : List (Option OrderFrame)) (n : ℕ) → AllByRecursion (IsSlotSigned w) slots → AllByRecursion (IsSlotSigned w) (slots ++ replicate n None)
signed_free w [] zero all = tt
signed_free w [] (suc n) all = (tt, signed_free w [] n tt)
signed_free w (first ∷ slots) n all = (all.0, signed_free w slots n all.1)

pub signed_put : (w : World) (orders : Orders) (o : OrderFrame) → AllByRecursion (IsSlotSigned w) orders.slots → IsHeldPart w order_told o.order → AllByRecursion (IsSlotSigned w) (with_order orders o).slots
signed_put w orders o all held =
    let at = o.order.stmt.place.0 - orders.base - 1 in
    signed_with w (orders.slots ++ replicate (at + 1 - length orders.slots) None) at (Some o) (signed_free w orders.slots (at + 1 - length orders.slots) all) held
