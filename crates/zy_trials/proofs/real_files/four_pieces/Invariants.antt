use Rattle.std.proofs.Common.{IsTrue}
use Rattle.zy_trials.proofs.real_files.four_pieces.Given as goal

abbrev pub invariant-loop : goal.invariant-loop
invariant-loop g l = IsTrue (g.F.Files.is_chosen l.files)
