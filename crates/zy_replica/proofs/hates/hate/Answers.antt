use Rattle.std.proofs.Common.{◌∙◌, sym}
use Rattle.zy_table.specs.Deeds.{begin}
use Rattle.zy_table.specs.Hates.{hate, with_hate_of}
use Rattle.zy_replica_views.proofs.StepLemmas.{step_refused}
use Rattle.zy_replica.proofs.StepsLemmas.{hate_step}
use Rattle.zy_replica.proofs.hates.hate.Goals as goal

pub judge_owed-requires : goal.judge_owed-requires
judge_owed-requires g c = c.in_ok-owed.ensures.enters

pub returns-in-Err : goal.returns-in-Err
returns-in-Err g c =
    let R = g.M.Machine.rules in
    let s = c.args.core in
    let owed = c.in_ok-owed in
    let step = hate_step R s c.judge_owed.ensures.signer c.judge_owed.ensures.ready owed.owed owed.ensures.enters c.args.vote owed.ensures.owed in
    c.refused.ensures ∙ sym (step_refused R s 0 (hate R s c.args.vote) owed.owed (with_hate_of c.args.vote.by (begin s)) step c.in-Err.cause (sym c.in_ok-ending.ensures.ending ∙ c.in-Err.is))

pub carry_hate-requires-clause-judged : goal.carry_hate-requires-clause-judged
carry_hate-requires-clause-judged g c =
    let R = g.M.Machine.rules in
    let s = c.args.core in
    let owed = c.in_ok-owed in
    record {
      before = s;
      more = 0;
      attempt = hate R s c.args.vote;
      step = hate_step R s c.judge_owed.ensures.signer c.judge_owed.ensures.ready owed.owed owed.ensures.enters c.args.vote owed.ensures.owed;
      ends = sym c.in_ok-ending.ensures.ending ∙ c.in-Ok.is;
    }

pub returns-in-Ok : goal.returns-in-Ok
returns-in-Ok g c =
    let R = g.M.Machine.rules in
    let s = c.args.core in
    let owed = c.in_ok-owed in
    c.carry_hate.ensures s 0 (hate R s c.args.vote)
    (hate_step R s c.judge_owed.ensures.signer c.judge_owed.ensures.ready owed.owed owed.ensures.enters c.args.vote owed.ensures.owed)
    (sym c.in_ok-ending.ensures.ending ∙ c.in-Ok.is)
