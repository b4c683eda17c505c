use Rattle.std.proofs.Common.{◌≡◌, ◌++◌}
use Rattle.std.specs.Int.{w32, to_be_bytes}
use Rattle.zy_ots.specs.Chain.{joined}
use Rattle.zy_ots.specs.OtsType.{number_of}
use Rattle.zy_ots.specs.OneTime.{message_digest, randomizer, signed_value}
use Rattle.zy_ots.proofs.one_time.ots_sign_onto.Given as goal

abbrev pub invariant-chains : goal.invariant-chains
invariant-chains l =
    let c = randomizer l.id l.q l.seed in
    let digest = message_digest l.id l.q c l.message in
    record {
      key : l.block.key ≡ l.id ++ to_be_bytes w32 l.q;
      out : l.out.items ≡ l.fn.out.items ++ to_be_bytes w32 (number_of l.ots) ++ c ++ joined (signed_value l.ots l.id l.q l.seed digest) l.i;
    }
