use Rattle.zy_law.proofs.ProvenStates.{proven_state, chain_base, chain_entries}
use Rattle.zy_law.proofs.results.proven_states.Goals as goal

pub returns : goal.returns
returns c =
    record {
      states = λ w count view m state t lawful backed enough passes. proven_state w lawful count view m state t backed enough passes;
      base = λ w t s m lawful texts has passes. chain_base w lawful t s m texts has passes;
      entries = λ w t s m lawful texts has passes. chain_entries w lawful t s m texts has passes;
      orders = λ w r view m k request second lawful correct x y same.
          lawful.one_order r x.0 y.0 x.1 y.1 view m k request second correct x.2 y.2 x.3 y.3 same;
    }
