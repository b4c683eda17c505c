use Rattle.zy_top_hosting.proofs.Seats.{may_start}
use Rattle.zy_top_hosting.proofs.seat.ask_seat.Goals as goal

pub returns-clause-left : goal.returns-clause-left
returns-clause-left c = rw c.in_ok-client.ensures (may_start c.args.id c.args.group _ _ (c.in_ok-key.ensures.left c.requires.left))
