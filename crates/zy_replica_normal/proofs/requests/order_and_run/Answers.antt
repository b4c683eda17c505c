use Rattle.std.proofs.Common.{◌≡◌, IfOk, ◌∙◌, ap, subst}
use Rattle.zy_base.specs.declared.step.Answer.TheVariants.{Taken}
use Rattle.zy_frames.specs.declared.frame.OrderFrame.{OrderFrame}
use Rattle.zy_table.specs.Deeds.{Going, Outcome, ends}
use Rattle.zy_table.specs.Requests.{sealed_order}
use Rattle.zy_table.specs.Running.{run}
use Rattle.zy_replica_normal.proofs.RunLemmas.{ordered_signs, ordered_left}
use Rattle.zy_replica_normal.proofs.requests.order_and_run.Goals as goal

pub run_all-ran-requires-clause-left : goal.run_all-ran-requires-clause-left
run_all-ran-requires-clause-left g c =
    let R = g.M.Machine.rules in
    rw (c.in_ok-progress.ensures.progress, c.in_ok-progress.ensures.order, ordered_signs R c.args.core c.args.ask) (ordered_left R c.args.core c.args.ask c.requires.left)

pub returns : goal.returns
returns g c =
    let R = g.M.Machine.rules in
    subst (λ (o : Outcome g.row.M-State.Denot). IfOk c.run_all-ran.result (λ (m : Outcome g.row.M-State.Denot). m ≡ o))
    (ap (λ (f : OrderFrame). ends Taken (run R f c.in_ok-progress.progress)) c.in_ok-progress.ensures.order
    ∙ ap (λ (x : Going g.row.M-State.Denot). ends Taken (run R (sealed_order R c.args.core c.args.ask) x)) c.in_ok-progress.ensures.progress)
    c.run_all-ran.ensures
