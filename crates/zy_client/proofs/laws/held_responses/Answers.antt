use Rattle.zy_client.proofs.HeldLemmas.{starts, asks_hold, steps_hold, steps_commit, steps_complete}
use Rattle.zy_client.proofs.laws.held_responses.Goals as goal

pub returns : goal.returns
returns c = record { starts = starts; asks = asks_hold; steps = steps_hold; commits = steps_commit; completes = steps_complete }
