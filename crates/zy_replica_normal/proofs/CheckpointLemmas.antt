-- What was counted before a statement is kept.
use Rattle.std.proofs.Common.{◌≡◌, ◌≤◌, ◌<◌, true, false, Option, refl}
use Rattle.std.specs.Prelude.{nat_le}
use Rattle.std.proofs.lemmas.Bool.{le-leb, lt-leb}
use Rattle.zy_base.specs.Machine.{Rules}
use Rattle.zy_base.specs.declared.cause.Cause.TheVariants as causes
use Rattle.zy_base.specs.declared.step.Answer.TheVariants.{Taken}
use Rattle.zy_check.specs.Board.{Board}
use Rattle.zy_table.specs.declared.kept.OwnCheckpoint.{OwnCheckpoint}
use Rattle.zy_table.specs.State.{State, signs_left}
use Rattle.zy_table.specs.Deeds.{ends, begin, refused}
use Rattle.zy_table.specs.Gathering.{checks_owed, gather_at}
use Rattle.zy_table.specs.Checkpoints.{with_board, gathered}

pub gathered_is : {S : Type 0} (R : Rules S) (s : State S) (own : Option OwnCheckpoint) (board : Board) → checks_owed (with_board s board) own false ≤ signs_left s
    → gathered R s own board ≡ ends Taken (gather_at R own false (begin (with_board s board)))
gathered_is R s own board fits =
    let is : nat_le (checks_owed (with_board s board) own false) (signs_left s) ≡ true = le-leb _ _ fits in rw is refl

pub gathered_spent : {S : Type 0} (R : Rules S) (s : State S) (own : Option OwnCheckpoint) (board : Board) → signs_left s < checks_owed (with_board s board) own false
    → gathered R s own board ≡ refused causes.KeySpent s
gathered_spent R s own board lacks =
    let is : nat_le (checks_owed (with_board s board) own false) (signs_left s) ≡ false = lt-leb _ _ lacks in rw is refl
