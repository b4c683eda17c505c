use Rattle.std.proofs.Common.{refl}
use Rattle.zy_lms.proofs.HssVerifiedLemmas.{Decides-hss_verified}
use Rattle.zy_seal.proofs.directory.Directory.verifies.Goals as goal

pub returns-then-has-clause-meaning : goal.returns-then-has-clause-meaning
returns-then-has-clause-meaning c = (λ _. (Decides-hss_verified c.args.key.now c.args.text.now c.args.sig.now).0 (c.has.ensures c.if-has.true), λ _. refl)
