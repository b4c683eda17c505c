use Rattle.std.proofs.Common.{◌≡◌, List, sym, ap, ◌∙◌, true, nat_lt, rules}
use Rattle.zy_parts.specs.declared.signed.Signed.{Signed}
use Rattle.zy_parts.specs.declared.statements.Check.{Check}
use Rattle.zy_table.specs.Gathering.{settled_at}
use Rattle.zy_replica_state.proofs.AdoptLemmas.{settled_further}
use Rattle.zy_replica_state.proofs.state.parts.Parts.settled_as.Goals as goal

pub settled_at-requires-clause-proof : goal.settled_at-requires-clause-proof
settled_at-requires-clause-proof g c =
    let further : nat_lt c.args.self.board.stable.place.0 c.args.told.now.stable_place.0 ≡ true = search rules in
    rw c.in_ok-proof.ensures (c.requires.proof further)

pub returns-in_ok-proof : goal.returns-in_ok-proof
returns-in_ok-proof g c =
    let R = g.M.Machine.rules in
    let s = c.args.self in
    let told = c.args.told.now in
    let further : nat_lt s.board.stable.place.0 told.stable_place.0 ≡ true = search rules in
    c.settled_at.ensures ∙ ap (λ (proof : List (Signed Check)). settled_at R told.stable_place.0 proof s) c.in_ok-proof.ensures ∙ sym (settled_further R told s further)
