use Rattle.std.proofs.Common.{sym, ◌∙◌, ap}
use Rattle.zy_check.specs.Judging.{is_refused}
use Rattle.zy_check.proofs.JudgingLemmas.{check-new}
use Rattle.zy_check.proofs.checkpoints.Checkpoints.vote.Goals as goal

pub put_check-requires : goal.put_check-requires
put_check-requires c =
    check-new c.args.self.now c.args.vote _ (ap is_refused (sym c.judge_vote-answer.ensures) ∙ (sym c.is_refused.ensures ∙ c.if-is_refused.false))
