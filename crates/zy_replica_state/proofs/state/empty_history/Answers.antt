use Rattle.std.proofs.Common.{◌∙◌, ap}
use Rattle.zy_check.specs.Board as boards
use Rattle.zy_replica_state.proofs.state.empty_history.Goals as goal

pub returns : goal.returns
returns g c = record { exec = c.in_ok-exec.ensures; board = c.start-board.ensures ∙ ap (boards.start_of c.args.k) c.empty_digest.ensures }
