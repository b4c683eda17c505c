use Rattle.std.proofs.Common.{◌∙◌}
use Rattle.std.proofs.lemmas.Result.{err_from_is_err_and}
use Rattle.zy_top_words.proofs.Stops.{IsSent-none}
use Rattle.zy_top.proofs.top.run_keys.Goals as goal

pub returns-in_err-text-clause-written : goal.returns-in_err-text-clause-written
returns-in_err-text-clause-written g c =
    let p = err_from_is_err_and c.from_residual.result c.from_residual.ensures.1 in rw (p.1, p.2) (IsSent-none _ _)

pub returns-clause-written : goal.returns-clause-written
returns-clause-written g c =
    rw (c.as_slice.ensures.value ∙ c.in_ok-text.ensures) at c.write_all.ensures.written
