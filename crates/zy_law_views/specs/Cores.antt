-- What of a replica's state the law of changes of view rests on.
use Rattle.zy_table.specs.State.{State}
use Rattle.zy_law_views.specs.Tied.{Core}

abbrev pub core_of : {S : Type 0} → State S → Core S
core_of s = record { views = s.views; kept = s.kept; stable = s.board.stable; proof = s.board.proof }
