-- A space over time: its tuples now, and the earlier states that it can go back to.
use Rattle.std.specs.Prelude.{List, [], ◌∷◌, ◌++◌}
use Rattle.zy_tuple.specs.declared.values.Field.{Field}

pub record Timeline : Type 0 where
  -- the tuples that are in the space, oldest first
  pub tuples : List (List Field)
  -- the tuples of each earlier state, the oldest state first
  pub trail : List (List (List Field))

-- the tuples are now these, and those before are the last of the trail
abbrev pub onward : Timeline → List (List Field) → Timeline
onward before tuples = record { tuples = tuples; trail = before.trail ++ before.tuples ∷ [] }
