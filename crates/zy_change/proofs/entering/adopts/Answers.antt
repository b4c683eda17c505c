use Rattle.std.proofs.Common.{Option, IfSome, sym, ap, ◌∙◌, subst}
use Rattle.std.specs.Prelude.{option_copied}
use Rattle.zy_change.specs.declared.kept.Accepted.{Accepted}
use Rattle.zy_change.specs.declared.owed.Adoption.{Adoption}
use Rattle.zy_change.specs.Ahead.{adoption_ahead}
use Rattle.zy_change.specs.Owing.{provider_in}
use Rattle.zy_change.proofs.AheadLemmas.{adopted_as}
use Rattle.zy_change.specs.EnteringAhead.{IsInFrames}
use Rattle.zy_change.proofs.CertLemmas.{adopted_small}
use Rattle.zy_change.proofs.entering.adopts.Goals as goal

pub returns-clause-owed : goal.returns-clause-owed
returns-clause-owed c =
    let a : Accepted = record { new = c.args.frame.now; chosen = c.args.chosen } in
    ap (λ x. record c.args.owed { adopt = x }) (c.in_ok-adoption.ensures ∙ ap (adoption_ahead c.args.frame.now.stmt.view c.args.chosen) c.told_at.ensures ∙ sym (adopted_as a (provider_in a)))

pub returns-clause-place : goal.returns-clause-place
returns-clause-place c = λ small.
    subst (λ (o : Option Adoption). IfSome o IsInFrames) (sym c.in_ok-adoption.ensures) (adopted_small c.args.frame.now.stmt.view c.args.chosen (option_copied c.told_at.result) small)
