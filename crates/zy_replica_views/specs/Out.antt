-- An inner form, which only the code cites.
use Rattle.std.specs.Prelude.{Bool, true, false}
use Rattle.zy_change.specs.Views.{without_accepted}
use Rattle.zy_table.specs.State.{State}

-- The new view that was confirmed has moved into its certificate, unless that waits.
abbrev pub out_of : {S : Type 0} → State S → Bool → State S
out_of s true = s
out_of s false = record s { views = without_accepted s.views }
