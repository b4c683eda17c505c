use Rattle.std.proofs.Common.{length}
use Rattle.zy_cases.proofs.edge.+are_moments.Given as goal

abbrev pub decreases-are_moments : goal.decreases-are_moments
decreases-are_moments l = length l.moments.now
