use Rattle.std.proofs.Common.{refl}
use Rattle.std.proofs.lemmas.Result.{err_from_is_err_and}
use Rattle.zy_top_words.proofs.Stops.{IsWritten-none}
use Rattle.zy_top_words.specs.declared.exit.Exit.TheVariants as exits
use Rattle.zy_top.proofs.replays.run_told.Goals as goal

pub returns-in_err-replayed-clause-written : goal.returns-in_err-replayed-clause-written
returns-in_err-replayed-clause-written g c =
    let p = err_from_is_err_and c.from_residual.result c.from_residual.ensures.1 in rw (p.1, p.2) (IsWritten-none _ exits.Want _ refl)

pub returns-clause-answer : goal.returns-clause-answer
returns-clause-answer g c = rw c.in_ok-replayed.ensures at c.write_replayed.ensures.answer

pub returns-clause-written : goal.returns-clause-written
returns-clause-written g c = rw c.in_ok-replayed.ensures at c.write_replayed.ensures.written
