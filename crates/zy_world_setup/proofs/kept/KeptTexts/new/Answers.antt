use Rattle.std.proofs.Common.{[], ap, ◌∙◌}
use Rattle.zy_book.specs.Texts.{Texts, with_text}
use Rattle.zy_chain.specs.Heads.{empty_head}
use Rattle.zy_world_setup.proofs.KeptLemmas.{first_shown}
use Rattle.zy_world_setup.proofs.kept.KeptTexts.new.Goals as goal

pub returns-in-Ok : goal.returns-in-Ok
returns-in-Ok c = first_shown _ (c.in-Ok.ensures.texts ∙ ap (λ (p : Texts). with_text p empty_head []) c.new-book.ensures)
