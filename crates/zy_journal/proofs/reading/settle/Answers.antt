-- Only a blank file is written.
use Rattle.std.proofs.Common.{◌≡◌, false}
use Rattle.zy_journal.specs.Disk.{Rests}
use Rattle.zy_journal.specs.Journal.{is_blank}
use Rattle.zy_journal.specs.Starting.{IsShutAtFirst, IsShort}
use Rattle.zy_journal.proofs.Begins.{blank_of}
use Rattle.zy_journal.proofs.Told.{if_some, from_some}
use Rattle.zy_journal.proofs.reading.settle.Goals as goal

pub returns-in-Shut-clause-spared : goal.returns-in-Shut-clause-spared
returns-in-Shut-clause-spared g c =
    let D = g.D.Disk in
    let old = c.args.disk.now in
    if_some (D.contents old) (λ file. is_blank file ≡ false → Rests D.contents D.may_leave D.moment D.left_since old c.begin.new.disk) (λ file is used.
    let blank = blank_of file (from_some (D.contents old) (λ f. IsShutAtFirst f) file c.in-Shut.ensures.start is) in
    absurd cc)

pub returns-in-Short-clause-spared : goal.returns-in-Short-clause-spared
returns-in-Short-clause-spared g c =
    let D = g.D.Disk in
    let old = c.args.disk.now in
    if_some (D.contents old) (λ file. is_blank file ≡ false → Rests D.contents D.may_leave D.moment D.left_since old c.shut_and_begin.new.disk) (λ file is used.
    let blank = (from_some (D.contents old) (λ f. IsShort f) file c.in-Short.ensures.start is).0 in
    absurd cc)
