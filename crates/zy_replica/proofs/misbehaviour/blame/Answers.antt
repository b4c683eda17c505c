use Rattle.std.proofs.Common.{◌∙◌, sym}
use Rattle.zy_frames.specs.declared.frame.Frame.TheVariants as frames
use Rattle.zy_change.specs.Owing.{next_view}
use Rattle.zy_table.specs.declared.deeds.To.TheVariants.{All}
use Rattle.zy_table.specs.Deeds.{begin, send}
use Rattle.zy_table.specs.Leaving.{leave}
use Rattle.zy_replica_views.proofs.StepLemmas.{step_refused}
use Rattle.zy_replica.proofs.StepsLemmas.{blame_step}
use Rattle.zy_replica.proofs.misbehaviour.blame.Goals as goal

pub judge_owed-requires : goal.judge_owed-requires
judge_owed-requires g c = c.in_ok-owed.ensures.enters

pub returns-in-Err : goal.returns-in-Err
returns-in-Err g c =
    let R = g.M.Machine.rules in
    let s = c.args.core in
    let told = send All (frames.Pom c.args.kept c.args.order) (begin s) in
    let owed = c.in_ok-owed in
    let step = blame_step R s c.judge_owed.ensures.signer c.judge_owed.ensures.ready owed.owed owed.ensures.enters c.args.kept c.args.order owed.ensures.owed in
    c.refused.ensures ∙ sym (step_refused R s 0 (leave R (next_view s.views) told) owed.owed told step c.in-Err.cause (sym c.in_ok-ending.ensures.ending ∙ c.in-Err.is))

pub carry_blame-requires-clause-judged : goal.carry_blame-requires-clause-judged
carry_blame-requires-clause-judged g c =
    let R = g.M.Machine.rules in
    let s = c.args.core in
    let owed = c.in_ok-owed in
    record {
      before = s;
      more = 0;
      attempt = leave R (next_view s.views) (send All (frames.Pom c.args.kept c.args.order) (begin s));
      step = blame_step R s c.judge_owed.ensures.signer c.judge_owed.ensures.ready owed.owed owed.ensures.enters c.args.kept c.args.order owed.ensures.owed;
      ends = sym c.in_ok-ending.ensures.ending ∙ c.in-Ok.is;
    }

pub returns-in-Ok : goal.returns-in-Ok
returns-in-Ok g c =
    let R = g.M.Machine.rules in
    let s = c.args.core in
    let owed = c.in_ok-owed in
    c.carry_blame.ensures s 0 (leave R (next_view s.views) (send All (frames.Pom c.args.kept c.args.order) (begin s)))
    (blame_step R s c.judge_owed.ensures.signer c.judge_owed.ensures.ready owed.owed owed.ensures.enters c.args.kept c.args.order owed.ensures.owed)
    (sym c.in_ok-ending.ensures.ending ∙ c.in-Ok.is)
