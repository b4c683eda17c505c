-- What a replica answers to one that lacks orders.
use Rattle.std.specs.Prelude.{nat_le, if◌then◌else◌, List, [], ◌∷◌, map}
use Rattle.zy_base.specs.declared.ids.Party.{Party}
use Rattle.zy_base.specs.declared.cause.Cause.TheVariants as causes
use Rattle.zy_base.specs.declared.step.Answer.TheVariants.{Taken}
use Rattle.zy_parts.specs.declared.signed.Signed.{Signed}
use Rattle.zy_parts.specs.declared.statements.Hole.{Hole}
use Rattle.zy_frames.specs.declared.frame.OrderFrame.{OrderFrame}
use Rattle.zy_frames.specs.declared.frame.Frame.TheVariants as frames
use Rattle.zy_exec.specs.Kept.{last_place}
use Rattle.zy_admit.specs.Orders.{orders_from}
use Rattle.zy_table.specs.declared.deeds.AnyFrame.TheVariants.{Plain}
use Rattle.zy_table.specs.declared.deeds.To.TheVariants.{One}
use Rattle.zy_table.specs.declared.deeds.Sent.{Sent}
use Rattle.zy_table.specs.State.{State}
use Rattle.zy_table.specs.Deeds.{Outcome, refused}

abbrev pub order_to : Party → OrderFrame → Sent
order_to by frame = record { to = One by; frame = Plain (frames.Order frame) }

abbrev pub fill_with : {S : Type 0} → State S → Signed Hole → List OrderFrame → Outcome S
fill_with s hole [] =
    if nat_le hole.stmt.to.0 (last_place s.kept) then refused causes.OldPlace s else refused (causes.Behind hole.stmt.to) s
fill_with s hole (o ∷ orders) =
    record { answer = Taken; state = s; deeds = record { sent = map (order_to hole.by) (o ∷ orders); acts = [] } }

unfoldable pub fill_hole : {S : Type 0} → State S → Signed Hole → Outcome S
fill_hole s hole = fill_with s hole (orders_from hole.stmt.from.0 hole.stmt.to.0 s.orders)
