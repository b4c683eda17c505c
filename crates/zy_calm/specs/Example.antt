-- A small calm schedule: one request of the first client, on the fast path.
use Rattle.std.specs.Prelude.{List, [], ◌∷◌}
use Rattle.zy_tuple.specs.declared.values.Op.{Op}
use Rattle.zy_calm.specs.Asks.{CalmAsk}

-- ask c0 ..; flow 8
abbrev pub one_ask : Op → List CalmAsk
one_ask op = record { client = record { 0 = 0 }; op = op; flow = 8; again = 8 } ∷ []
