use Rattle.std.proofs.Common.{◌≡◌, IfOk, sym, subst}
use Rattle.std.proofs.lemmas.Result.{IfOk-weaker}
use Rattle.zy_table.specs.Deeds.{Going, Outcome}
use Rattle.zy_table.specs.Beginning.{finished}
use Rattle.zy_replica_views.specs.Entering.{CanEnd, EndsAs}
use Rattle.zy_replica_views.proofs.StepLemmas.{step_can, step_ends, step_left}
use Rattle.zy_replica_views.proofs.ending.carry.Goals as goal

pub carry_out-carried-requires-clause-left : goal.carry_out-carried-requires-clause-left
carry_out-carried-requires-clause-left g c =
    let j = c.requires.judged in
    step_left g.M.Machine.rules j.before j.more j.attempt c.args.owed c.args.progress j.step c.args.ending j.ends

pub end-requires : goal.end-requires
end-requires g c =
    let R = g.M.Machine.rules in
    let j = c.requires.judged in
    subst (λ (x : Going g.row.M-State.Denot). CanEnd R c.args.ending x) (sym c.in_ok-carried.ensures) (step_can R j.before j.more j.attempt c.args.owed c.args.progress j.step c.args.ending j.ends)

pub returns : goal.returns
returns g c = λ s more attempt step same.
    let R = g.M.Machine.rules in
    let does = subst (λ (x : Going g.row.M-State.Denot). IfOk c.end.result (EndsAs R c.args.owed.answer c.args.ending x)) c.in_ok-carried.ensures c.end.ensures in
    IfOk-weaker c.end.result (EndsAs R c.args.owed.answer c.args.ending _) (λ (m : Outcome g.row.M-State.Denot). m ≡ finished R s attempt)
    (step_ends R s more attempt c.args.owed c.args.progress step c.args.ending same) does
