-- What holds of a replica between two steps, as far as laws of the table speak of it.
use Rattle.std.specs.Prelude.{◌≡◌}
use Rattle.zy_table.specs.State.{State}

-- The history is kept from the stable place on, and so are the orders.
pub record IsOnePlace {S : Type 0} (s : State S) : Type 0 where
  pub kept : s.kept.base.place ≡ s.board.stable.place.0
  pub orders : s.orders.base ≡ s.board.stable.place.0
