use Rattle.std.proofs.Common.{◌∙◌, sym}
use Rattle.zy_table.specs.Deeds.{begin}
use Rattle.zy_table.specs.Changes.{change}
use Rattle.zy_table.specs.Leaving.{report_of}
use Rattle.zy_replica_views.specs.Carrying.{kept_unless}
use Rattle.zy_replica_views.proofs.StepLemmas.{step_refused}
use Rattle.zy_replica.proofs.HeardLemmas.{change_keeps, goes_on, no_pens}
use Rattle.zy_replica.proofs.StepsLemmas.{change_step}
use Rattle.zy_replica.proofs.changes.change.Goals as goal

pub judge_owed-requires : goal.judge_owed-requires
judge_owed-requires g c = c.in_ok-owed.ensures.enters

pub returns-in-Err : goal.returns-in-Err
returns-in-Err g c =
    let R = g.M.Machine.rules in
    let s = c.args.core in
    let owed = c.in_ok-owed in
    let step = change_step R s c.judge_owed.ensures.signer c.judge_owed.ensures.ready owed.owed owed.ensures.enters c.args.vote c.requires.replica owed.ensures.owed in
    c.refused.ensures
    ∙ sym (step_refused R s 0 (change R s c.args.vote) owed.owed (begin (kept_unless owed.owed.send c.args.vote s)) step c.in-Err.cause (sym c.in_ok-ending.ensures.ending ∙ c.in-Err.is))

pub carry_change-requires-clause-kept : goal.carry_change-requires-clause-kept
carry_change-requires-clause-kept g c =
    let R = g.M.Machine.rules in
    let s = c.args.core in
    let owed = c.in_ok-owed in
    change_keeps s.views c.args.vote (report_of s) no_pens c.requires.replica c.requires.range owed.owed (owed.ensures.owed no_pens)
    (goes_on R s owed.owed 0 c.in-Ok.ending (sym c.in_ok-ending.ensures.ending ∙ c.in-Ok.is))

pub carry_change-requires-clause-judged : goal.carry_change-requires-clause-judged
carry_change-requires-clause-judged g c =
    let R = g.M.Machine.rules in
    let s = c.args.core in
    let owed = c.in_ok-owed in
    record {
      before = s;
      more = 0;
      attempt = change R s c.args.vote;
      step = change_step R s c.judge_owed.ensures.signer c.judge_owed.ensures.ready owed.owed owed.ensures.enters c.args.vote c.requires.replica owed.ensures.owed;
      ends = sym c.in_ok-ending.ensures.ending ∙ c.in-Ok.is;
    }

pub returns-in-Ok : goal.returns-in-Ok
returns-in-Ok g c =
    let R = g.M.Machine.rules in
    let s = c.args.core in
    let owed = c.in_ok-owed in
    c.carry_change.ensures s 0 (change R s c.args.vote)
    (change_step R s c.judge_owed.ensures.signer c.judge_owed.ensures.ready owed.owed owed.ensures.enters c.args.vote c.requires.replica owed.ensures.owed)
    (sym c.in_ok-ending.ensures.ending ∙ c.in-Ok.is)
