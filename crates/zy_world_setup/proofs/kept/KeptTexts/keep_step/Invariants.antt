use Rattle.std.proofs.Common.{take}
use Rattle.std.specs.List.{flat_map}
use Rattle.zy_world_law.specs.Texts.{got_texts}
use Rattle.zy_world_setup.specs.Kept.{Keeps}
use Rattle.zy_world_setup.proofs.kept.KeptTexts.keep_step.Given as goal

abbrev pub invariant-loop-got : goal.invariant-loop-got
invariant-loop-got l = Keeps (flat_map got_texts (take l.got-index l.gains)) l.fn.self l.self
