use Rattle.std.proofs.Common.{◌≡◌, IfOk, sym, subst}
use Rattle.zy_change.specs.declared.owed.Owed.{Owed}
use Rattle.zy_change.proofs.EnteringAheadLemmas.{began_same}
use Rattle.zy_change.proofs.entering.began.Goals as goal

pub returns : goal.returns
returns c =
    subst (λ (owed : Owed). IfOk c.began_owes.result (λ o. o ≡ owed))
    (sym (began_same c.args.machine.now c.args.vote.now c.began_owes.ensures.fit c.requires))
    c.began_owes.ensures.owed
