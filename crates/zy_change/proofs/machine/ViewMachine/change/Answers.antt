use Rattle.std.proofs.Common.{◌≡◌, IfOk, sym, subst}
use Rattle.zy_change.specs.declared.owed.Owed.{Owed}
use Rattle.zy_change.proofs.AheadLemmas.{change_same}
use Rattle.zy_change.proofs.machine.ViewMachine.change.Goals as goal

pub returns-clause-owed : goal.returns-clause-owed
returns-clause-owed c = λ pens.
    subst (λ (owed : Owed). IfOk c.change_owes.result (λ o. o ≡ owed))
    (sym (change_same c.args.self.now c.args.vote.now c.args.told.now pens c.change_owes.ensures.fit c.requires.signer c.requires.member c.requires.in_range))
    c.change_owes.ensures.owed
