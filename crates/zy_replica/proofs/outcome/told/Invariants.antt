use Rattle.std.proofs.Common.{◌≡◌, ◌+◌, ◌^◌, ◌<◌, ◌++◌, length}
use Rattle.zy_base.specs.declared.ids.Party.TheVariants as parties
use Rattle.zy_table.specs.Deeds.{said_from, gains_in}
use Rattle.zy_replica.proofs.outcome.told.Given as goal

abbrev pub invariant-loop-act : goal.invariant-loop-act
invariant-loop-act l =
    (l.said ++ said_from (parties.Replica l.me) l.pairs l.act-iterator.rest.items ≡ said_from (parties.Replica l.me) 0 l.fn.acts)
    × (l.got ++ gains_in l.act-iterator.rest.items ≡ gains_in l.fn.acts)
    × (length l.act-iterator.rest.items ≡ l.act-iterator.rest.len)
    × (l.pairs + l.act-iterator.rest.len < 2 ^ 64)
