use Rattle.zy_cert.proofs.SignerLemmas.{has_signer-told, has_repeat-told, has_other-told}
use Rattle.zy_cert.proofs.laws.signers_and_statements.Goals as goal

pub returns-clause-signer : goal.returns-clause-signer
returns-clause-signer g c = has_signer-told

pub returns-clause-repeat : goal.returns-clause-repeat
returns-clause-repeat g c = has_repeat-told

pub returns-clause-other : goal.returns-clause-other
returns-clause-other g c = has_other-told g.S.PartialEq.eq g.met.S.Matching.equal
