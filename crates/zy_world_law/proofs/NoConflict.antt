-- No two verified orders of one view and place that differ are a correct replica's.
use Rattle.std.proofs.Common.{◌≡◌, true, ap, subst}
use Rattle.zy_base.specs.Machine.{Rules}
use Rattle.zy_base.specs.declared.ids.ReplicaId.{ReplicaId}
use Rattle.zy_evidence.specs.Reading.{number_of_party}
use Rattle.zy_law.specs.World.{Statement}
use Rattle.zy_parts.specs.Numbers as numbers
use Rattle.zy_parts.specs.Signing.{part_of}
use Rattle.zy_parts.specs.Statements.{order_fields}
use Rattle.zy_parts.specs.declared.signed.Signed.{Signed}
use Rattle.zy_parts.specs.declared.statements.Order.{Order}
use Rattle.zy_table.specs.Roles.{is_replica}
use Rattle.zy_law_views.proofs.NoBlame.{never_in_conflict}
use Rattle.zy_law_views.proofs.ReadBack.{order_back}
use Rattle.zy_law_views.specs.Held.{IsHeldPart, IsVouchedBy}
use Rattle.zy_law_views.specs.Told.{order_told}
use Rattle.zy_world_law.specs.Blame.{HasNoConflict, IsOrderOf}
use Rattle.zy_world_law.specs.Good.{IsGood}
use Rattle.zy_world_law.specs.Seen.{seen}
use Rattle.zy_world_law.specs.World.{World}
use Rattle.zy_world_law.proofs.NotForged.{was_said}
use Rattle.zy_world_law.proofs.Vouched.{part_honest}

module _ {S : Type 0} (R : Rules S) (w : World S) (good : IsGood R w) where
  order_held : (id : ReplicaId) (order : Signed Order) → IsOrderOf w id order → IsHeldPart (seen R w) order_told order
  order_held id order is =
      let part = part_of numbers.order order_fields order in
      let role : is_replica order.by ≡ true = ap is_replica is.by in
      subst (λ (s : Statement). IsVouchedBy (seen R w) s order.by) (order_back (number_of_party order.by) order.by order.stmt is.fits)
      (part_honest R w part role is.signed (was_said w part is.unforged is.signed))

  pub no_conflict : HasNoConflict w
  no_conflict id x a b at first second conflict =
      let ready = (good.tied id.0 x at).ready in
      never_in_conflict (seen R w) good.lawful a b id first.by ready.correct (order_held id a first) (order_held id b second) conflict
