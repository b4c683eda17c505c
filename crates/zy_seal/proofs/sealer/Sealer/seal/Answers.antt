use Rattle.std.proofs.Common.{◌≡◌, ◌<◌, ◌≤◌, List, ℕ, length, refl, ap, sym, subst, arith, ◌∙◌}
use Rattle.zy_lms.proofs.HssVerifiedLemmas.{Decides-hss_verified}
use Rattle.zy_lms.specs.Hss.{HssVerifies, hss_public_of, hss_signature_of}
use Rattle.zy_parts.specs.Signing.{text_of}
use Rattle.zy_seal.specs.Sealing.{SealerState, number_told, signatures_by}
use Rattle.zy_seal.proofs.SealedLemmas.{IsSealed-sealed_by}
use Rattle.zy_seal.proofs.sealer.Sealer.seal.Goals as goal

pub returns-in-Ok-clause-sealed : goal.returns-in-Ok-clause-sealed
returns-in-Ok-clause-sealed g c =
    let number = g.S.Statement.its_number in
    let fields = g.S.Spelled.spelling in
    let sealer = c.args.self.now in
    let left : sealer.key.next < signatures_by sealer.key.height = omega (arith, c.left.ensures) in
    let sealed = IsSealed-sealed_by number fields sealer c.args.stmt c.left.ensures.key left in
    let text-is : c.as_slice.result.now ≡ text_of number fields c.self.inside.me c.args.stmt = c.as_slice.ensures.value ∙ c.in_ok-text.ensures in
    let same : c.in-Ok.sig ≡ hss_signature_of sealer.key (text_of number fields sealer.me c.args.stmt) =
    c.in-Ok.ensures.value
    ∙ ap (hss_signature_of c.self.inside.key) text-is
    ∙ ap (λ (s : SealerState). hss_signature_of s.key (text_of number fields s.me c.args.stmt)) c.self.view_is in
    record {
      signer = ap (λ (s : SealerState). s.me) c.self.view_is;
      body = refl;
      told = ap number_told same ∙ sealed.told;
      verifies = subst (λ (sig : List ℕ). HssVerifies (hss_public_of sealer.key) (text_of number fields sealer.me c.args.stmt) sig) (sym same) sealed.verifies;
      short = subst (λ (sig : List ℕ). length sig ≤ 8192) (sym same) sealed.short;
    }

pub keep-requires : goal.keep-requires
keep-requires g c =
    rw (c.public-public.ensures, c.as_slice-in-Ok.ensures.value, c.as_slice-in-Ok-2.ensures.value)
    ((Decides-hss_verified (hss_public_of c.self.inside.key) c.in_ok-text.text c.in-Ok.sig).1
    (subst (λ (text : List ℕ). HssVerifies (hss_public_of c.self.inside.key) text c.in-Ok.sig) c.as_slice.ensures.value c.in-Ok.ensures.verifies))
