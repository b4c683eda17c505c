use Rattle.std.proofs.Common.{◌≡◌, ◌+◌, ◌≤◌, ◌<◌, true, IfOk, sym, ◌∙◌, ap, subst, arith}
use Rattle.zy_base.specs.declared.step.Answer.TheVariants.{Taken}
use Rattle.zy_table.specs.Deeds.{Outcome, ends}
use Rattle.zy_table.specs.State.{State, signs_left}
use Rattle.zy_table.specs.Gathering.{checks_owed, gather_at}
use Rattle.zy_table.specs.Commits.{locals_owed, give_local}
use Rattle.zy_replica_normal.proofs.CommitLemmas.{commit_fits, commit_spent}
use Rattle.zy_replica_normal.proofs.commits.commit_as.Goals as goal

pub returns-then-locals_owed-checks_owed : goal.returns-then-locals_owed-checks_owed
returns-then-locals_owed-checks_owed g c =
    let lacks : signs_left c.args.core < locals_owed c.args.said + checks_owed c.args.core c.args.own true =
    omega (arith, c.if-locals_owed-checks_owed.true, c.locals_owed.ensures, c.checks_owed.ensures, c.signs_left.ensures) in
    subst (λ (o : Outcome g.row.M-State.Denot). IfOk c.not_heard.result (λ (m : Outcome g.row.M-State.Denot). m ≡ o))
    (sym (commit_spent g.M.Machine.rules c.args.core c.args.specs c.args.client c.args.local c.args.said c.args.own lacks))
    c.not_heard.ensures

pub give_and_gather-requires-clause-own : goal.give_and_gather-requires-clause-own
give_and_gather-requires-clause-own g c = rw (c.keep_certificate-core.ensures.kept, c.keep_certificate-core.ensures.last) c.requires.own

pub returns : goal.returns
returns g c =
    let R = g.M.Machine.rules in
    let fits : locals_owed c.args.said + checks_owed c.args.core c.args.own true ≤ signs_left c.args.core =
    omega (arith, c.if-locals_owed-checks_owed.false, c.locals_owed.ensures, c.checks_owed.ensures, c.signs_left.ensures) in
    subst (λ (o : Outcome g.row.M-State.Denot). IfOk c.give_and_gather.result (λ (m : Outcome g.row.M-State.Denot). m ≡ o))
    (ap (λ (s : State g.row.M-State.Denot). ends Taken (gather_at R c.args.own true (give_local R c.args.client c.args.local c.args.said s))) c.keep_certificate-core.ensures.core
    ∙ sym (commit_fits R c.args.core c.args.specs c.args.client c.args.local c.args.said c.args.own fits))
    c.give_and_gather.ensures
