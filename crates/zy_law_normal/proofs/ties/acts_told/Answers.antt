use Rattle.zy_law_normal.proofs.TieLemmas.{lists_after, numbers_are}
use Rattle.zy_law_normal.proofs.ties.acts_told.Goals as goal

pub returns : goal.returns
returns c = record { lists = lists_after; numbers = numbers_are }
