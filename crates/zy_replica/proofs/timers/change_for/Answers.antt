use Rattle.std.proofs.Common.{◌≡◌, Some, sym, ◌∙◌, subst}
use Rattle.std.proofs.lemmas.Option.{same_Some}
use Rattle.zy_parts.specs.declared.signed.Signed.{Signed}
use Rattle.zy_parts.specs.declared.reports.Change.{Change}
use Rattle.zy_vframes.specs.declared.frame.ViewFrame.TheVariants as frames
use Rattle.zy_change.specs.Views.{own_change}
use Rattle.zy_table.specs.Sending.{CanBeSent}
use Rattle.zy_table.specs.declared.deeds.AnyFrame.TheVariants as any
use Rattle.zy_replica.proofs.TimerLemmas.{own_sent}
use Rattle.zy_replica.proofs.timers.change_for.Goals as goal

pub returns-in_ok-change_copy-in-Some-clause-sends : goal.returns-in_ok-change_copy-in-Some-clause-sends
returns-in_ok-change_copy-in-Some-clause-sends g c x is =
    let v = c.views-views.result.now in
    let change = c.in-Some.change.now in
    let own : own_change v ≡ Some change = sym c.in-Some.ensures.change in
    subst (λ (y : Signed Change). CanBeSent (any.View (frames.ViewChange y))) (sym c.in_ok-change_copy-in-Some.ensures ∙ same_Some _ _ is) (own_sent v change c.view.ensures.fit own)
