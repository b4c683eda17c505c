use Rattle.std.proofs.Common.{refl, not}
use Rattle.zy_table.specs.Gathering.{is_said}
use Rattle.zy_replica_state.proofs.BoardLemmas.{owes_with_spec, and_then, and_else}
use Rattle.zy_replica_state.proofs.state.Core.owes_with_spec.Goals as goal

pub returns-then-is_enough_with_one : goal.returns-then-is_enough_with_one
returns-then-is_enough_with_one g c =
    and_then _ _ _ c.if-is_enough_with_one.true
    (owes_with_spec c.args.self.now c.args.own.now c.count_specs-equal.ensures.board c.requires.ready.same_place c.args.vote.now c.requires.kept
    _ _ _ c.count_specs-equal.ensures.count c.is_enough_with_one.ensures c.is_said.ensures)

pub returns-else-is_enough_with_one : goal.returns-else-is_enough_with_one
returns-else-is_enough_with_one g c =
    and_else _ (not (is_said c.args.self.now c.args.own.now.check)) _ c.if-is_enough_with_one.false
    (owes_with_spec c.args.self.now c.args.own.now c.count_specs-equal.ensures.board c.requires.ready.same_place c.args.vote.now c.requires.kept
    _ _ _ c.count_specs-equal.ensures.count c.is_enough_with_one.ensures refl)
