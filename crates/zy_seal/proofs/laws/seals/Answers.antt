use Rattle.zy_seal.proofs.SealedLemmas.{IsSealed-sealed_by, sealed_by-accepted}
use Rattle.zy_seal.proofs.laws.seals.Goals as goal

pub returns-clause-sealed : goal.returns-clause-sealed
returns-clause-sealed g c sealer stmt is_key left =
    IsSealed-sealed_by g.S.Statement.its_number g.S.Spelled.spelling sealer stmt is_key left

pub returns-clause-accepted : goal.returns-clause-accepted
returns-clause-accepted g c keys sealer stmt is_key left known =
    sealed_by-accepted g.S.Statement.its_number g.S.Spelled.spelling keys sealer stmt is_key left known
