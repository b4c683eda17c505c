use Rattle.std.proofs.Common.{List, Option, Some, subst, sym, ◌∙◌, ap}
use Rattle.zy_parts.specs.declared.signed.Signed.{Signed}
use Rattle.zy_parts.specs.declared.statements.Check.{Check}
use Rattle.zy_check.specs.Board.{IsProof}
use Rattle.zy_table.specs.Gathering.{settled_at, settle_with}
use Rattle.zy_replica_state.proofs.state.Core.settle_own.Goals as goal

pub settle-requires-clause-proof : goal.settle-requires-clause-proof
settle-requires-clause-proof g c = sym c.in_ok-proof.ensures.proof ∙ c.in-Some.is ∙ ap Some (sym c.into_vec.ensures)

pub settle-requires-clause-proves : goal.settle-requires-clause-proves
settle-requires-clause-proves g c =
    subst (IsProof c.args.own.now.check.place.0) (sym c.into_vec.ensures) (c.in_ok-proof.ensures.proves c.in-Some.proof c.in-Some.is)

pub returns-in-Some : goal.returns-in-Some
returns-in-Some g c =
    let R = g.M.Machine.rules in
    let place = c.args.own.now.check.place.0 in
    c.settle.ensures
    ∙ ap (λ (proof : List (Signed Check)). settled_at R place proof c.args.self) c.into_vec.ensures
    ∙ ap (λ (found : Option (List (Signed Check))). settle_with R place found c.args.self) (sym c.in-Some.is ∙ c.in_ok-proof.ensures.proof)

pub returns-in-None : goal.returns-in-None
returns-in-None g c =
    ap (λ (found : Option (List (Signed Check))). settle_with g.M.Machine.rules c.args.own.now.check.place.0 found c.args.self) (sym c.in-None.is ∙ c.in_ok-proof.ensures.proof)
