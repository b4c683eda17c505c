use Rattle.zy_change.proofs.AcceptedLemmas.{certificate_certified}
use Rattle.zy_change.proofs.laws.certificates.Goals as goal

pub returns : goal.returns
returns c = λ v a cert fit is here. certificate_certified v a fit is cert here
