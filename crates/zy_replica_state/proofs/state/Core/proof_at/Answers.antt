use Rattle.std.proofs.Common.{arith, ◌≡◌, List, Option, subst}
use Rattle.std.specs.Prelude.{IfOk}
use Rattle.zy_parts.specs.declared.signed.Signed.{Signed}
use Rattle.zy_parts.specs.declared.statements.Check.{Check}
use Rattle.zy_cert.specs.Equal.{same_check}
use Rattle.zy_check.specs.Votes.{only}
use Rattle.zy_table.specs.State.{State}
use Rattle.zy_table.specs.Gathering.{first_of, proof_at}
use Rattle.zy_replica_state.proofs.BoardLemmas.{all_prove}
use Rattle.zy_replica_state.proofs.state.Core.proof_at.Goals as goal

pub returns-clause-proof : goal.returns-clause-proof
returns-clause-proof g c =
    let own = c.args.own.now in
    subst (λ (s : State g.row.M-State.Denot). IfOk c.first_of.result (λ (found : Option (List (Signed Check))). found ≡ proof_at s own)) c.self.view_is
    (subst (λ (list : List (Signed Check)). IfOk c.first_of.result (λ (found : Option (List (Signed Check))). found ≡ first_of c.self.inside.counts.local (only same_check own list)))
    c.checks-list.ensures.list c.first_of.ensures)

pub returns-clause-proves : goal.returns-clause-proves
returns-clause-proves g c =
    let sound = c.self.inside.counts.sound in
    all_prove c.args.own.now c.checks-list.result.now c.self.inside.counts.local c.first_of.result (omega arith) c.first_of.ensures
