use Rattle.std.proofs.Common.{ap, sym, ◌∙◌}
use Rattle.zy_lms.specs.Hss.{hss_public_of, hss_signature_of, signed_key_of}
use Rattle.zy_lms.specs.KeyState.{at_leaf}
use Rattle.zy_lms.proofs.HssLemmas.{HssVerifies-signature, lower_leaf_is, same_number, signed_key_is, top_leaf_is}
use Rattle.zy_lms.proofs.HssVerifiedLemmas.{Decides-hss_verified}
use Rattle.zy_lms.proofs.laws.hss_signatures.Goals as goal

pub returns : goal.returns
returns c = record {
  test = Decides-hss_verified;
  signed = λ key message is_key left.
      (Decides-hss_verified (hss_public_of key) message (hss_signature_of key message)).1 (HssVerifies-signature key message is_key.id_len left);
  at_top_leaf = λ key message is_key left. top_leaf_is key message is_key.id_len left;
  at_lower_leaf = λ key message is_key left. lower_leaf_is key message is_key.id_len left;
  once = λ key a b top lower. same_number key.height a b top lower;
  one_lower_key = λ key a b first second is_key a_left b_left same.
      signed_key_is (at_leaf key a) first is_key.id_len a_left ∙ ap (signed_key_of key) same
      ∙ sym (signed_key_is (at_leaf key b) second is_key.id_len b_left);
}
