use Rattle.zy_slots.proofs.ColumnLemmas.{into_order, into_chain, beside_piles}
use Rattle.zy_slots.proofs.cells.put_in.Goals as goal

pub returns-clause-order : goal.returns-clause-order
returns-clause-order g c = into_order _ _ _ _ _ _ _ c.attach.ensures.links c.attach_chain.ensures.rest

pub returns-clause-chain : goal.returns-clause-chain
returns-clause-chain g c =
    rw (← c.bucket_at-bucket.ensures) (into_chain _ _ _ _ _ _ _ c.attach.ensures.rest c.attach_chain.ensures.links)

pub returns-clause-rest : goal.returns-clause-rest
returns-clause-rest g c =
    rw (← c.bucket_at-bucket.ensures) (beside_piles _ _ _ _ _ _ c.attach.ensures.rest c.attach_chain.ensures.rest c.attach_chain.ensures.chains)
