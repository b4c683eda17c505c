use Rattle.std.proofs.Common.{ℕ, List, Option, sym, subst}
use Rattle.zy_world_law.specs.Texts.{snapshot_texts}
use Rattle.zy_world_setup.specs.Kept.{Keeps}
use Rattle.zy_world_setup.proofs.KeptLemmas.{keeps_none}
use Rattle.zy_world_setup.proofs.kept.KeptTexts.keep_snapshot.Goals as goal

pub returns-in-None-clause-keeps : goal.returns-in-None-clause-keeps
returns-in-None-clause-keeps c =
    let kept = c.args.self.now in
    subst (λ (snapshot : Option (List ℕ)). Keeps (snapshot_texts snapshot) kept kept) (sym c.in-None.is) (keeps_none kept)
