use Rattle.std.proofs.Common.{sym, ◌∙◌}
use Rattle.zy_change.proofs.AheadLemmas.{heard_well}
use Rattle.zy_change.proofs.machine.ViewMachine.change_owes.Goals as goal

pub kept_owes-requires-clause-heard : goal.kept_owes-requires-clause-heard
kept_owes-requires-clause-heard c = heard_well c.args.self.now c.args.vote.now c.requires.signer c.requires.member c.requires.in_range (sym c.in_ok-rule.ensures ∙ c.in-None.is)
