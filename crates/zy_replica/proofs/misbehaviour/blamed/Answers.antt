use Rattle.std.proofs.Common.{◌≡◌, ◌∙◌, IfOk, Result, sym, ap, subst}
use Rattle.zy_base.specs.declared.cause.Cause.{Cause}
use Rattle.zy_base.specs.declared.ids.View.{View}
use Rattle.zy_change.specs.Owing.{next_view}
use Rattle.zy_table.specs.Beginning.{finished}
use Rattle.zy_table.specs.Deeds.{Going, Outcome, begin}
use Rattle.zy_table.specs.Leaving.{leave}
use Rattle.zy_table.specs.Misbehaviour.{blamed}
use Rattle.zy_replica_views.specs.Entering.{IsJudged, IsStep}
use Rattle.zy_replica_views.proofs.StepLemmas.{step_refused}
use Rattle.zy_replica.proofs.StepsLemmas.{leave_step}
use Rattle.zy_replica.proofs.misbehaviour.blamed.Goals as goal

pub judge_owed-requires : goal.judge_owed-requires
judge_owed-requires g c = c.in_ok-owed-in-Ok.ensures.enters

pub returns-in-Err-2 : goal.returns-in-Err-2
returns-in-Err-2 g c =
    let R = g.M.Machine.rules in
    let s = c.args.core in
    let owed = c.in_ok-owed-in-Ok in
    let step = leave_step R s c.judge_owed.ensures.signer c.judge_owed.ensures.ready owed.owed owed.ensures.enters owed.ensures.owed in
    c.refused-in-Err-2.ensures ∙ sym (step_refused R s 0 (leave R (next_view s.views) (begin s)) owed.owed (begin s) step c.in-Err-2.cause (sym c.in_ok-ending-in-Ok.ensures.ending ∙ c.in-Err-2.is))
    ∙ ap (λ (r : Result View Cause). finished R s (blamed R s r)) (sym c.in-Ok.is)

pub carry-requires-clause-judged : goal.carry-requires-clause-judged
carry-requires-clause-judged g c =
    let R = g.M.Machine.rules in
    let s = c.args.core in
    let owed = c.in_ok-owed-in-Ok in
    subst (λ (x : Going g.row.M-State.Denot). IsJudged R owed.owed c.in-Ok-2.ending x) (sym c.begin.ensures)
    (record {
      before = s;
      more = 0;
      attempt = leave R (next_view s.views) (begin s);
      step = leave_step R s c.judge_owed.ensures.signer c.judge_owed.ensures.ready owed.owed owed.ensures.enters owed.ensures.owed;
      ends = sym c.in_ok-ending-in-Ok.ensures.ending ∙ c.in-Ok-2.is;
    })

pub returns-in-Ok-2 : goal.returns-in-Ok-2
returns-in-Ok-2 g c =
    let R = g.M.Machine.rules in
    let s = c.args.core in
    let owed = c.in_ok-owed-in-Ok in
    let step = leave_step R s c.judge_owed.ensures.signer c.judge_owed.ensures.ready owed.owed owed.ensures.enters owed.ensures.owed in
    subst (λ (r : Result View Cause). IfOk c.carry.result (λ (m : Outcome g.row.M-State.Denot). m ≡ finished R s (blamed R s r))) (sym c.in-Ok.is)
    (c.carry.ensures s 0 (leave R (next_view s.views) (begin s))
    (subst (λ (x : Going g.row.M-State.Denot). IsStep R s 0 (leave R (next_view s.views) (begin s)) owed.owed x) (sym c.begin.ensures) step)
    (sym c.in_ok-ending-in-Ok.ensures.ending ∙ c.in-Ok-2.is))
