use Rattle.zy_cert.proofs.VoteLemmas.{stays}
use Rattle.zy_cert.proofs.laws.equal_votes.Goals as goal

pub returns : goal.returns
returns g c = stays g.S.PartialEq.eq g.met.S.Matching.equal
