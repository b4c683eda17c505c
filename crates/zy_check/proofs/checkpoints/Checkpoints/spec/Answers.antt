use Rattle.std.proofs.Common.{sym, ◌∙◌, ap}
use Rattle.zy_check.specs.Judging.{is_refused}
use Rattle.zy_check.proofs.JudgingLemmas.{spec-new}
use Rattle.zy_check.proofs.checkpoints.Checkpoints.spec.Goals as goal

pub put_spec-requires : goal.put_spec-requires
put_spec-requires c =
    spec-new c.args.self.now c.args.vote _ (ap is_refused (sym c.judge_spec-answer.ensures) ∙ (sym c.is_refused.ensures ∙ c.if-is_refused.false))
