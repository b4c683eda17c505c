use Rattle.std.proofs.Common.{sym, subst}
use Rattle.zy_vframes.specs.declared.frame.ViewFrame.{ViewFrame}
use Rattle.zy_world_law.specs.Texts.{view_frame_texts}
use Rattle.zy_world_setup.specs.Kept.{Pairs, Keeps}
use Rattle.zy_world_setup.proofs.KeptLemmas.{keeps_none}
use Rattle.zy_world_setup.proofs.kept.KeptTexts.keep_view_frame.Goals as goal

abbrev KeepsFrame : Pairs → ViewFrame → Type 0
KeepsFrame kept frame = Keeps (view_frame_texts frame) kept kept

pub returns-in-ViewConfirm-clause-keeps : goal.returns-in-ViewConfirm-clause-keeps
returns-in-ViewConfirm-clause-keeps c = subst (KeepsFrame c.args.self.now) (sym c.in-ViewConfirm.is) (keeps_none c.args.self.now)

pub returns-in-Fetch-clause-keeps : goal.returns-in-Fetch-clause-keeps
returns-in-Fetch-clause-keeps c = subst (KeepsFrame c.args.self.now) (sym c.in-Fetch.is) (keeps_none c.args.self.now)
