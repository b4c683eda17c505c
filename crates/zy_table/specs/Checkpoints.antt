-- What a replica answers to another's speculative response, and to another's checkpoint.
use Rattle.std.specs.Prelude.{nat_le, false, if◌then◌else◌, Option, option_map}
use Rattle.zy_base.specs.Machine.{Rules}
use Rattle.zy_base.specs.declared.cause.Cause.TheVariants as causes
use Rattle.zy_base.specs.declared.step.Answer.TheVariants.{Taken, Held}
use Rattle.zy_parts.specs.declared.signed.Signed.{Signed}
use Rattle.zy_parts.specs.declared.statements.Spec.{Spec}
use Rattle.zy_parts.specs.declared.statements.Check.{Check}
use Rattle.zy_check.specs.declared.kept.Kept.{Kept}
use Rattle.zy_check.specs.declared.kept.Kept.TheVariants as answers
use Rattle.zy_check.specs.Board.{Board, with_spec, with_check}
use Rattle.zy_check.specs.Judging.{judge_spec, judge_check}
use Rattle.zy_table.specs.declared.kept.OwnCheckpoint.{OwnCheckpoint}
use Rattle.zy_table.specs.State.{State, signs_left}
use Rattle.zy_table.specs.Deeds.{Outcome, refused, ends, begin}
use Rattle.zy_table.specs.Gathering.{own_at, checks_owed, gather_at}

abbrev pub with_board : {S : Type 0} → State S → Board → State S
with_board s board = record s { board = board }

-- a statement is kept beside the own one of its place, and what is kept there is looked through
abbrev pub gathered : {S : Type 0} → Rules S → State S → Option OwnCheckpoint → Board → Outcome S
gathered R s own board =
    if nat_le (checks_owed (with_board s board) own false) (signs_left s)
    then ends Taken (gather_at R own false (begin (with_board s board)))
    else refused causes.KeySpent s

-- a statement that was judged, and what is kept with it
abbrev pub kept_as : {S : Type 0} → Rules S → State S → Option OwnCheckpoint → Kept → Board → Outcome S
kept_as R s own answers.Held board = ends Held (begin (with_board s board))
kept_as R s own (answers.Kept number) board = gathered R s own board
kept_as R s own (answers.Refused cause) board = refused cause s

abbrev pub response_beside : {S : Type 0} → Rules S → State S → Signed Spec → Option OwnCheckpoint → Outcome S
response_beside R s vote own =
    kept_as R s own (judge_spec s.board vote (option_map (λ o. o.spec) own)) (with_spec s.board vote)

unfoldable pub response : {S : Type 0} → Rules S → State S → Signed Spec → Outcome S
response R s vote = response_beside R s vote (own_at R s vote.stmt.place.0)

abbrev pub checkpoint_beside : {S : Type 0} → Rules S → State S → Signed Check → Option OwnCheckpoint → Outcome S
checkpoint_beside R s vote own =
    kept_as R s own (judge_check s.board vote (option_map (λ o. o.check) own)) (with_check s.board vote)

unfoldable pub checkpoint : {S : Type 0} → Rules S → State S → Signed Check → Outcome S
checkpoint R s vote = checkpoint_beside R s vote (own_at R s vote.stmt.place.0)
