use Rattle.std.proofs.Common.{◌≡◌, ℕ, ◌+◌, ap, subst}
use Rattle.zy_seal.specs.Sealing.{signature_size}
use Rattle.zy_world_law.specs.Setup.{Setup}
use Rattle.zy_world_setup.proofs.FrameLengths.{short_is}
use Rattle.zy_world_setup.proofs.tellable.Tellable.is_short.Goals as goal

pub returns : goal.returns
returns c party number =
    short_is c.args.self.now c.args.setup.now party number _ _ c.in_ok-fields.ensures
    (subst (λ (s : Setup). 9 + c.signature_len-others.result ≡ 9 + signature_size s.height s.ots) c.setup.view_is
    (ap (λ (n : ℕ). 9 + n) c.signature_len-others.ensures.len))
