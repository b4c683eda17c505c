use Rattle.zy_lms.proofs.LmsLemmas.{VerifiesAs-signature, leaf_is}
use Rattle.zy_lms.proofs.VerifiedLemmas.{Decides-verified}
use Rattle.zy_lms.specs.Lms.{public_of, signature_of}
use Rattle.zy_lms.proofs.laws.signatures.Goals as goal

pub returns : goal.returns
returns c = record {
  test = Decides-verified;
  signed = λ key message is_key left.
      (Decides-verified (public_of key) message (signature_of key message)).1 (key.height, key.ots, VerifiesAs-signature key message is_key.id_len left);
  leaf = λ key message is_key left. leaf_is key message is_key.id_len left;
}
