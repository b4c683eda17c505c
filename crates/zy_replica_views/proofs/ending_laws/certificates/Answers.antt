use Rattle.zy_replica_views.proofs.ConfirmLemmas.{certificate_ends, certificate_rests, confirmation_ends}
use Rattle.zy_replica_views.proofs.ending_laws.certificates.Goals as goal

pub returns-clause-confirmation : goal.returns-clause-confirmation
returns-clause-confirmation g c = confirmation_ends g.M.Machine.rules

pub returns-clause-certificate : goal.returns-clause-certificate
returns-clause-certificate g c = certificate_ends g.M.Machine.rules

pub returns-clause-refused : goal.returns-clause-refused
returns-clause-refused g c = certificate_rests g.M.Machine.rules
