use Rattle.std.proofs.Common.{◌≡◌, ◌-◌, ◌++◌}
use Rattle.zy_ots.specs.Chain.{chain}
use Rattle.zy_ots.proofs.chain_block.ChainBlock.walk.Given as goal

abbrev pub invariant-steps : goal.invariant-steps
invariant-steps l =
    l.self ≡ record l.initial.self { value = chain (l.initial.self.key ++ l.initial.self.index) l.from (l.j - l.from) l.initial.self.value }
