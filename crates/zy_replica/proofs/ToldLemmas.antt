-- What the acts of a step gain.
use Rattle.std.proofs.Common.{◌∷◌, [], ◌++◌, List}
use Rattle.std.specs.List.{AllByRecursion}
use Rattle.zy_chain.specs.Entries.{IsEntryInRange}
use Rattle.zy_table.specs.Deeds.{gains_in}
use Rattle.zy_table.specs.declared.deeds.Act.{Act}
use Rattle.zy_table.specs.declared.deeds.Act.TheVariants.{Says, Gains, Adopts}
use Rattle.zy_table.specs.declared.deeds.Got.{Got}
use Rattle.zy_table.specs.Adopting.{IsGotInRange}
use Rattle.zy_replica_state.specs.Ready.{IsActInRange}

both_in_range : (gots more : List Got) → AllByRecursion IsGotInRange gots → AllByRecursion (λ (got : Got). IsEntryInRange got.entry) more
    → AllByRecursion (λ (got : Got). IsEntryInRange got.entry) (gots ++ more)
both_in_range [] more all rest = rest
both_in_range (got ∷ gots) more all rest = (all.0.entry, both_in_range gots more all.1 rest)

pub gains_in_range : (acts : List Act) → AllByRecursion IsActInRange acts → AllByRecursion (λ (got : Got). IsEntryInRange got.entry) (gains_in acts)
gains_in_range [] all = tt
gains_in_range (Says remark ∷ acts) all = gains_in_range acts all.1
gains_in_range (Gains got ∷ acts) all = (all.0.entry, gains_in_range acts all.1)
gains_in_range (Adopts view common gots ∷ acts) all = both_in_range gots (gains_in acts) all.0 (gains_in_range acts all.1)
