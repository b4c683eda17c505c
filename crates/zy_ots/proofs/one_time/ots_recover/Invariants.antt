use Rattle.std.proofs.Common.{◌≡◌, ◌++◌, take, drop}
use Rattle.std.specs.Int.{w32, to_be_bytes}
use Rattle.sha2.specs.Hashers.{Holds256}
use Rattle.zy_ots.specs.Chain.{prefix_of, joined}
use Rattle.zy_ots.specs.OneTime.{message_digest, chain_end}
use Rattle.zy_ots.proofs.one_time.ots_recover.Given as goal

abbrev pub invariant-chains : goal.invariant-chains
invariant-chains l =
    let digest = message_digest l.id l.q (take 32 (drop 4 l.sig)) l.message in
    record {
      key : l.block.key ≡ l.id ++ to_be_bytes w32 l.q;
      taken : Holds256 l.hasher (prefix_of l.id l.q 0x8080 ++ joined (chain_end l.ots l.id l.q digest l.sig) l.i);
    }
