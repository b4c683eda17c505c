use Rattle.std.proofs.Common.{◌≡◌, map, take}
use Rattle.zy_table.specs.ClientState.{spoken_of}
use Rattle.zy_client.proofs.step.said_as.Given as goal

abbrev pub invariant-loop-ask : goal.invariant-loop-ask
invariant-loop-ask l = l.said ≡ map (spoken_of l.me) (take l.ask-index l.asks)
