use Rattle.std.proofs.Common.{refl}
use Rattle.zy_lms.specs.Hss.{hss_signature_of}
use Rattle.zy_lms.proofs.hss.HssKey.sign_next.Goals as goal

pub returns-clause-value : goal.returns-clause-value
unfolding hss_signature_of
returns-clause-value c =
    let lower = c.in_ok-lower.ensures.lower in
    rw (c.in_ok-signature.ensures, lower.signed_is, lower.key_is, c.in_ok-lower.ensures.at, c.top_of.ensures.value, c.lower_of.ensures.value, c.height-height.ensures.value, ← c.self.view_is) refl
