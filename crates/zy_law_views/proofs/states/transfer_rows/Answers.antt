use Rattle.std.proofs.Common.{subst}
use Rattle.zy_law_views.proofs.Installing.{IsOfBytes, reading_of, state_lawful}
use Rattle.zy_law_views.proofs.states.transfer_rows.Goals as goal
use Rattle.zy_table.specs.Leaving.{Attempt}

pub returns : goal.returns
returns g c =
    let M = g.M.Machine in
    let reading = reading_of M.IsState M.rules c.showing.ensures.spelled c.installing.ensures.shown c.installing.ensures.stands in
    record {
      lawful = λ interval r texts w s history place bytes ready kept kept_bytes. (state_lawful M.rules interval texts w r s history ready kept bytes (reading bytes) place kept_bytes).step;
      blame = λ interval r texts w s history place bytes cause ready kept kept_bytes refused blamed.
          let free = (state_lawful M.rules interval texts w r s history ready kept bytes (reading bytes) place kept_bytes).of_bytes in
          subst (λ (attempt : Attempt _). IsOfBytes M.rules interval texts w r s history ready kept bytes (reading bytes) place attempt) refused free blamed;
    }
