use Rattle.std.proofs.Common.{◌≡◌, ◌∙◌, ap, subst}
use Rattle.zy_base.specs.declared.step.Timers.{Timers}
use Rattle.zy_node.specs.Timing.{kept_for}
use Rattle.zy_node.specs.Turn.{all_parcels, steps}
use Rattle.zy_node.proofs.SendLemmas.{reached_with}
use Rattle.zy_node.proofs.StepLemmas.{host_with, stepped}
use Rattle.zy_node.proofs.host.Host.handle.Goals as goal

pub returns-clause-steps : goal.returns-clause-steps
returns-clause-steps g c =
    let R = g.C.Core.rules in
    let moved = c.in_ok-core.field-0 in
    let before = host_with c.self.inside.gather c.self.inside.core c.self.inside.due in
    let timers : c.running_timers.result ≡ R.timers moved.core = cc in
    let kept = c.kept_for-due.ensures ∙ ap (λ (t : Timers). kept_for t c.self.inside.due) timers in
    subst (λ h. steps R c.args.event h ≡ reached_with (host_with c.self.inside.gather moved.core c.kept_for-due.result) (all_parcels moved.out)) c.self.view_is
    (stepped R c.args.event before moved.core c.kept_for-due.result moved.out c.in_ok-core.ensures.core kept c.in_ok-core.ensures.out)
