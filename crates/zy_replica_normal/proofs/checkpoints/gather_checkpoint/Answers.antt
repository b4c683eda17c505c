use Rattle.std.proofs.Common.{◌≡◌, ◌≤◌, ◌<◌, false, IfOk, sym, ◌∙◌, ap, subst, arith}
use Rattle.zy_base.specs.declared.step.Answer.TheVariants.{Taken}
use Rattle.zy_check.specs.Board.{with_check}
use Rattle.zy_table.specs.Checkpoints.{with_board}
use Rattle.zy_table.specs.Deeds.{Outcome, ends, begin}
use Rattle.zy_table.specs.Gathering.{checks_owed, gather_at}
use Rattle.zy_table.specs.State.{State, signs_left}
use Rattle.zy_replica_normal.proofs.CheckpointLemmas.{gathered_is, gathered_spent}
use Rattle.zy_replica_normal.proofs.checkpoints.gather_checkpoint.Goals as goal

pub gather_kept-requires-clause-own : goal.gather_kept-requires-clause-own
gather_kept-requires-clause-own g c = rw c.in_ok-keep_check_vote.ensures c.requires.own

pub returns : goal.returns
returns g c =
    let board = with_check c.args.core.board c.args.check in
    let fits : checks_owed (with_board c.args.core board) c.args.own false ≤ signs_left c.args.core =
    omega (arith, c.owed_with_check.ensures, c.signs_left.ensures, c.if-owed_with_check-signs_left.false) in
    subst (λ (o : Outcome g.row.M-State.Denot). IfOk c.gather_kept.result (λ (m : Outcome g.row.M-State.Denot). m ≡ o))
    (ap (λ (s : State g.row.M-State.Denot). ends Taken (gather_at g.M.Machine.rules c.args.own false (begin s))) c.in_ok-keep_check_vote.ensures
    ∙ sym (gathered_is g.M.Machine.rules c.args.core c.args.own board fits))
    c.gather_kept.ensures

pub returns-then-owed_with_check-signs_left : goal.returns-then-owed_with_check-signs_left
returns-then-owed_with_check-signs_left g c =
    let board = with_check c.args.core.board c.args.check in
    let lacks : signs_left c.args.core < checks_owed (with_board c.args.core board) c.args.own false =
    omega (arith, c.owed_with_check.ensures, c.signs_left.ensures, c.if-owed_with_check-signs_left.true) in
    subst (λ (o : Outcome g.row.M-State.Denot). IfOk c.not_heard.result (λ (m : Outcome g.row.M-State.Denot). m ≡ o))
    (sym (gathered_spent g.M.Machine.rules c.args.core c.args.own board lacks))
    c.not_heard.ensures
