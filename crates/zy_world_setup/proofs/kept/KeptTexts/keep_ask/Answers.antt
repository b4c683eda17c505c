use Rattle.std.proofs.Common.{sym, subst}
use Rattle.zy_base.specs.declared.ids.Party.{Party}
use Rattle.zy_world_law.specs.Texts.{request_texts}
use Rattle.zy_world_setup.specs.Kept.{Keeps}
use Rattle.zy_world_setup.proofs.KeptLemmas.{keeps_none}
use Rattle.zy_world_setup.proofs.kept.KeptTexts.keep_ask.Goals as goal

pub returns-in-Replica-clause-keeps : goal.returns-in-Replica-clause-keeps
returns-in-Replica-clause-keeps c =
    let kept = c.args.self.now in
    subst (λ (by : Party). Keeps (request_texts by c.args.ask.now.stmt) kept kept) (sym c.in-Replica.is) (keeps_none kept)
