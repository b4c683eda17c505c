use Rattle.std.proofs.Common.{sym, ◌∙◌}
use Rattle.zy_replica_views.proofs.ConfirmedLemmas.{vote_enters, vote_refused}
use Rattle.zy_replica_views.proofs.confirming.confirmation.Goals as goal

pub judge_owed-requires : goal.judge_owed-requires
judge_owed-requires g c = vote_enters g.M.Machine.rules c.args.core c.args.vote c.in_ok-owed.owed c.in_ok-owed.ensures.owed c.in_ok-owed.ensures.fit

pub returns-in-Err : goal.returns-in-Err
returns-in-Err g c =
    let owed = c.in_ok-owed in
    c.refused.ensures
    ∙ sym (vote_refused g.M.Machine.rules c.args.core c.args.vote owed.owed owed.ensures.owed owed.ensures.fit c.judge_owed.ensures.ready c.judge_owed.ensures.signer c.in-Err.cause (sym c.in_ok-ending.ensures.ending ∙ c.in-Err.is))
