use Rattle.std.proofs.Common.{refl}
use Rattle.zy_lms.proofs.key.LmsKey.signature.Goals as goal

pub returns : goal.returns
returns c = rw (c.into.ensures, c.in_ok-signature_onto.ensures, c.in_ok-out.ensures, ← c.self.view_is) refl
