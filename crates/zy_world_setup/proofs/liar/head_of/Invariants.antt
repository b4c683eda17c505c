use Rattle.std.proofs.Common.{◌≡◌, map, take}
use Rattle.zy_admit.specs.Judging.{entry_of}
use Rattle.zy_chain.specs.Heads.{head_of}
use Rattle.zy_world_setup.proofs.liar.head_of.Given as goal

abbrev pub invariant-loop-ask : goal.invariant-loop-ask
invariant-loop-ask l = l.head ≡ head_of (map entry_of (take l.ask-index l.asks))
