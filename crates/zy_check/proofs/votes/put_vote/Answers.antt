use Rattle.std.proofs.Common.{arith}
use Rattle.zy_check.proofs.VoteLemmas.{place_for-within}
use Rattle.zy_check.proofs.votes.put_vote.Goals as goal

pub insert-requires : goal.insert-requires
insert-requires g c = omega (arith, c.place_for-at.ensures, place_for-within c.args.vote.by c.deref.result.now, c.deref.ensures.len)
