use Rattle.std.proofs.Common.{◌≡◌, None, IfOk, sym, subst}
use Rattle.zy_change.specs.declared.owed.Owed.{Owed}
use Rattle.zy_change.proofs.AheadLemmas.{leave_same}
use Rattle.zy_change.proofs.machine.ViewMachine.leaving.Goals as goal

pub returns-clause-owed : goal.returns-clause-owed
returns-clause-owed c = λ pens.
    subst (λ (owed : Owed). IfOk c.leave_owes.result (λ o. o ≡ owed)) (sym (leave_same c.args.self.now c.args.view None c.args.told.now pens c.leave_owes.ensures.fit tt)) c.leave_owes.ensures.owed
