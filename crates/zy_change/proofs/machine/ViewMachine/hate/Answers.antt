use Rattle.std.proofs.Common.{◌≡◌, IfOk, sym, subst}
use Rattle.zy_change.specs.declared.owed.Owed.{Owed}
use Rattle.zy_change.proofs.AheadLemmas.{hate_same}
use Rattle.zy_change.proofs.machine.ViewMachine.hate.Goals as goal

pub returns-clause-owed : goal.returns-clause-owed
returns-clause-owed c = λ pens.
    subst (λ (owed : Owed). IfOk c.hate_owes.result (λ o. o ≡ owed))
    (sym (hate_same c.args.self.now c.args.vote.now.by c.args.vote.now.stmt.view c.args.told.now pens c.hate_owes.ensures.fit c.requires.signer))
    c.hate_owes.ensures.owed
