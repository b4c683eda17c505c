use Rattle.zy_replica_state.proofs.BoardLemmas.{owes_with_check, and_then, and_else}
use Rattle.std.proofs.Common.{not}
use Rattle.zy_replica_state.proofs.state.Core.owes_with_check.Goals as goal

pub returns-then-owes_check : goal.returns-then-owes_check
returns-then-owes_check g c =
    and_then _ _ _ c.if-owes_check.true
    (owes_with_check c.args.self.now c.args.own.now c.is_own-mine.ensures.board c.requires.ready.same_place c.args.vote.now c.requires.kept c.requires.place
    _ _ c.owes_check.ensures c.is_own-mine.ensures.own)

pub returns-else-owes_check : goal.returns-else-owes_check
returns-else-owes_check g c =
    and_else _ (not c.is_own-mine.result) _ c.if-owes_check.false
    (owes_with_check c.args.self.now c.args.own.now c.is_own-mine.ensures.board c.requires.ready.same_place c.args.vote.now c.requires.kept c.requires.place
    _ _ c.owes_check.ensures c.is_own-mine.ensures.own)
