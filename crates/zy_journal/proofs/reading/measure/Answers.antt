use Rattle.zy_journal.proofs.Moments.{rests_still}
use Rattle.zy_journal.proofs.reading.measure.Goals as goal

pub returns-then-left-lt7-clause-rests : goal.returns-then-left-lt7-clause-rests
returns-then-left-lt7-clause-rests g c =
    rests_still g.D.Disk.contents g.D.Disk.may_leave g.D.Disk.moment g.D.Disk.left_since c.args.disk.now (g.met.D.Disk.only_now c.args.disk.now) c.requires.image
