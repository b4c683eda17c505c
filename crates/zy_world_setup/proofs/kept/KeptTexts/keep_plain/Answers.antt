use Rattle.std.proofs.Common.{sym, subst}
use Rattle.zy_frames.specs.declared.frame.Frame.{Frame}
use Rattle.zy_world_law.specs.Texts.{frame_texts}
use Rattle.zy_world_setup.specs.Kept.{Pairs, Keeps}
use Rattle.zy_world_setup.proofs.KeptLemmas.{keeps_none}
use Rattle.zy_world_setup.proofs.kept.KeptTexts.keep_plain.Goals as goal

abbrev KeepsFrame : Pairs → Frame → Type 0
KeepsFrame kept frame = Keeps (frame_texts frame) kept kept

pub returns-in-Commit-clause-keeps : goal.returns-in-Commit-clause-keeps
returns-in-Commit-clause-keeps c = subst (KeepsFrame c.args.self.now) (sym c.in-Commit.is) (keeps_none c.args.self.now)

pub returns-in-LocalCommit-clause-keeps : goal.returns-in-LocalCommit-clause-keeps
returns-in-LocalCommit-clause-keeps c = subst (KeepsFrame c.args.self.now) (sym c.in-LocalCommit.is) (keeps_none c.args.self.now)

pub returns-in-FillHole-clause-keeps : goal.returns-in-FillHole-clause-keeps
returns-in-FillHole-clause-keeps c = subst (KeepsFrame c.args.self.now) (sym c.in-FillHole.is) (keeps_none c.args.self.now)

pub returns-in-Hate-clause-keeps : goal.returns-in-Hate-clause-keeps
returns-in-Hate-clause-keeps c = subst (KeepsFrame c.args.self.now) (sym c.in-Hate.is) (keeps_none c.args.self.now)

pub returns-in-Pom-clause-keeps : goal.returns-in-Pom-clause-keeps
returns-in-Pom-clause-keeps c = subst (KeepsFrame c.args.self.now) (sym c.in-Pom.is) (keeps_none c.args.self.now)

pub returns-in-Checkpoint-clause-keeps : goal.returns-in-Checkpoint-clause-keeps
returns-in-Checkpoint-clause-keeps c = subst (KeepsFrame c.args.self.now) (sym c.in-Checkpoint.is) (keeps_none c.args.self.now)
