use Rattle.std.proofs.Common.{◌≡◌, IfOk, IfSome, sym, subst}
use Rattle.std.proofs.lemmas.Option.{IfSome_then}
use Rattle.zy_change.specs.declared.kept.Chosen.{Chosen}
use Rattle.zy_change.specs.Fit.{IsAccepted}
use Rattle.zy_change.specs.EnteringAhead.{new_view_ahead}
use Rattle.zy_change.specs.declared.owed.Owed.{Owed}
use Rattle.zy_change.proofs.EnteringAheadLemmas.{new_view_same, confirmed_only, ok_after}
use Rattle.zy_change.proofs.JudgingLemmas.{accepted}
use Rattle.zy_change.proofs.entering.new_view.Goals as goal

pub returns-clause-owed : goal.returns-clause-owed
returns-clause-owed c = λ told pens.
    subst (λ (owed : Owed). IfOk c.new_view_owes.result (λ o. o ≡ owed))
    (sym (new_view_same c.args.machine.now c.args.frame.now told pens c.new_view_owes.ensures.fit))
    c.new_view_owes.ensures.owed

pub returns-clause-accepted : goal.returns-clause-accepted
returns-clause-accepted c =
    let v = c.args.machine.now in
    let frame = c.args.frame.now in
    ok_after c.new_view_owes.result (λ o. o ≡ new_view_ahead v frame) (λ o. IfSome o.confirm (λ chosen. IsAccepted v.counts v.interval (record { new = frame; chosen = chosen }))) c.new_view_owes.ensures.owed
    (λ o is. subst (λ (owed : Owed). IfSome owed.confirm (λ (chosen : Chosen). IsAccepted v.counts v.interval (record { new = frame; chosen = chosen }))) (sym is)
    (IfSome_then (new_view_ahead v frame).confirm (confirmed_only v frame) (λ chosen found. accepted v.counts v.interval frame chosen c.requires.signers c.requires.in_range found)))
