use Rattle.zy_top.proofs.MadeRuns.{made_starts}
use Rattle.zy_top.proofs.making.made_setup.Goals as goal

pub returns-clause-start : goal.returns-clause-start
returns-clause-start c = rw (c.plain_counts.ensures, c.new.ensures.items, c.new-2.ensures.items, c.made_seed.ensures) (made_starts c.args.number)
