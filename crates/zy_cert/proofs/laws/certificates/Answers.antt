use Rattle.zy_cert.proofs.CertificateLemmas.{certified-taken, certified-found}
use Rattle.zy_cert.proofs.laws.certificates.Goals as goal

pub returns-clause-taken : goal.returns-clause-taken
returns-clause-taken g c = certified-taken g.S.PartialEq.eq g.met.S.Matching.equal g.S.Located.point_of

pub returns-clause-found : goal.returns-clause-found
returns-clause-found g c = certified-found g.S.PartialEq.eq g.met.S.Matching.equal g.S.Located.point_of
