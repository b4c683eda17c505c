use Rattle.std.proofs.Common.{◌+◌, List, not, ◌∙◌, ap}
use Rattle.std.specs.Prelude.{◌&&◌, nat_le, filter}
use Rattle.zy_base.specs.declared.ids.Party.TheVariants.{Replica}
use Rattle.zy_parts.specs.declared.signed.Signed.{Signed}
use Rattle.zy_parts.specs.declared.statements.Spec.{Spec}
use Rattle.zy_cert.specs.Equal.{same_spec}
use Rattle.zy_cert.specs.Signers.{same_party}
use Rattle.zy_check.specs.Votes.{equal_to}
use Rattle.zy_table.specs.State.{State}
use Rattle.zy_table.specs.Gathering.{equal_others, is_said}
use Rattle.zy_replica_state.proofs.BoardLemmas.{and_then, and_else}
use Rattle.zy_replica_state.proofs.state.Core.will_owe.Goals as goal

pub returns-then-is_enough_with_one : goal.returns-then-is_enough_with_one
returns-then-is_enough_with_one g c =
    let s = c.args.self.now in
    let spec = c.args.spec.now in
    let others =
    c.count_others-others.ensures
    ∙ ap (λ (list : List (Signed Spec)). equal_to same_spec spec (filter (λ vote. not (same_party vote.by (Replica c.self.inside.me))) list)) c.specs.ensures.list
    ∙ ap (λ (x : State g.row.M-State.Denot). equal_others x spec) c.self.view_is in
    let enough = c.is_enough_with_one.ensures ∙ ap (λ n. nat_le s.counts.cert (n + 1)) others in
    and_then _ _ _ c.if-is_enough_with_one.true (λ i. enough i && not (c.is_said.ensures i))

pub returns-else-is_enough_with_one : goal.returns-else-is_enough_with_one
returns-else-is_enough_with_one g c =
    let s = c.args.self.now in
    let spec = c.args.spec.now in
    let others =
    c.count_others-others.ensures
    ∙ ap (λ (list : List (Signed Spec)). equal_to same_spec spec (filter (λ vote. not (same_party vote.by (Replica c.self.inside.me))) list)) c.specs.ensures.list
    ∙ ap (λ (x : State g.row.M-State.Denot). equal_others x spec) c.self.view_is in
    let enough = c.is_enough_with_one.ensures ∙ ap (λ n. nat_le s.counts.cert (n + 1)) others in
    and_else _ _ _ c.if-is_enough_with_one.false (λ i. enough i && not (is_said s c.args.check))
