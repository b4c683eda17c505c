use Rattle.zy_parts.proofs.Texts.{one_signer, one_statement}
use Rattle.zy_parts.proofs.laws.one_statement.Goals as goal

pub returns-clause-one : goal.returns-clause-one
returns-clause-one g c = one_signer g.S.Spelled.spelling g.T.Spelled.spelling g.S.Statement.its_number g.T.Statement.its_number

pub returns-clause-same : goal.returns-clause-same
returns-clause-same g c = one_statement g.S.Spelled.spelling g.met.S.Spelled.exact g.S.Statement.its_number
