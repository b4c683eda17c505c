use Rattle.std.proofs.Common.{◌≡◌, take}
use Rattle.zy_chain.specs.Heads.{head_from}
use Rattle.zy_world_law.specs.Texts.{entry_texts}
use Rattle.zy_world_setup.specs.Kept.{Keeps}
use Rattle.zy_world_setup.proofs.kept.KeptTexts.keep_entries.Given as goal

abbrev pub invariant-loop-entry : goal.invariant-loop-entry
invariant-loop-entry l =
    (l.head ≡ head_from l.fn.head (take l.entry-index l.entries)) × Keeps (entry_texts l.fn.head (take l.entry-index l.entries)) l.fn.self l.self
