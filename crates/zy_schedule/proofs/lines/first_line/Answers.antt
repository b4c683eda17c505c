use Rattle.zy_schedule.proofs.LineLemmas.{lines_of-fed, lines_of-last}
use Rattle.zy_schedule.proofs.lines.first_line.Goals as goal

pub returns-in-Some-clause-lines : goal.returns-in-Some-clause-lines
returns-in-Some-clause-lines c = lines_of-fed c.args.text.now c.in-Some.end c.requires c.in-Some.ensures

pub returns-in-None-clause-lines : goal.returns-in-None-clause-lines
returns-in-None-clause-lines c = lines_of-last c.args.text.now c.requires c.in-None.ensures
