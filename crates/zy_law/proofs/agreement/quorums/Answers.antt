use Rattle.std.proofs.Common.{arith}
use Rattle.zy_law.proofs.QuorumLemmas.{both_said}
use Rattle.zy_law.proofs.agreement.quorums.Goals as goal

pub returns : goal.returns
returns c =
    record {
      sizes = λ n. (
        omega (arith, n.sound.two_certificates, n.sound.certificate_in_reach),
        omega (arith, n.sound.local_and_change, n.sound.change_in_reach),
        omega (arith, n.sound.fast_and_change, n.sound.two_agreements, n.sound.change_in_reach),
      );
      share = λ w first second s t lawful a b enough. both_said w lawful first second s t a b enough;
    }
