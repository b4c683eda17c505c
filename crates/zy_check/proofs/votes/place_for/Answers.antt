use Rattle.zy_check.proofs.VoteLemmas.{place_for-first}
use Rattle.zy_check.proofs.votes.place_for.Goals as goal

pub returns : goal.returns
returns g c = rw (c.unwrap_or.ensures, c.first_behind.ensures) (place_for-first c.args.by c.args.list.now)
