use Rattle.std.proofs.Common.{sym, ◌∙◌}
use Rattle.zy_replica_views.proofs.NewViewLemmas.{new_enters, new_refusal}
use Rattle.zy_replica_views.proofs.confirming.new_view.Goals as goal

pub judge_owed-requires : goal.judge_owed-requires
judge_owed-requires g c = new_enters g.M.Machine.rules c.args.core c.args.new c.in_ok-owed.owed c.in_ok-owed.ensures.owed c.in_ok-owed.ensures.accepted

pub returns-in-Err : goal.returns-in-Err
returns-in-Err g c =
    let owed = c.in_ok-owed in
    c.refused.ensures
    ∙ sym (new_refusal g.M.Machine.rules c.args.core c.args.new owed.owed owed.ensures.owed owed.ensures.accepted c.judge_owed.ensures.signer c.judge_owed.ensures.ready c.in-Err.cause (sym c.in_ok-ending.ensures.ending ∙ c.in-Err.is))
