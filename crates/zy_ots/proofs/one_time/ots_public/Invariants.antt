use Rattle.std.proofs.Common.{◌≡◌, ◌++◌}
use Rattle.std.specs.Int.{w32, to_be_bytes}
use Rattle.sha2.specs.Hashers.{Holds256}
use Rattle.zy_ots.specs.Chain.{prefix_of, joined}
use Rattle.zy_ots.specs.OneTime.{public_end}
use Rattle.zy_ots.proofs.one_time.ots_public.Given as goal

abbrev pub invariant-chains : goal.invariant-chains
invariant-chains l = record {
  key : l.block.key ≡ l.id ++ to_be_bytes w32 l.q;
  taken : Holds256 l.hasher (prefix_of l.id l.q 0x8080 ++ joined (public_end l.ots l.id l.q l.seed) l.i);
}
