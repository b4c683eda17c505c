use Rattle.zy_journal.proofs.Moments.{rests_still}
use Rattle.zy_journal.proofs.reading.piece_at.Goals as goal

pub returns-in_default-clause-rests : goal.returns-in_default-clause-rests
returns-in_default-clause-rests g c =
    rests_still g.D.Disk.contents g.D.Disk.may_leave g.D.Disk.moment g.D.Disk.left_since c.args.disk.now (g.met.D.Disk.only_now c.args.disk.now) c.requires.image
