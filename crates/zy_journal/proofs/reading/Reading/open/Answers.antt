use Rattle.std.proofs.Common.{◌≡◌, false, inr, ◌∙◌}
use Rattle.zy_journal.specs.Disk.{Only, LeavesOnly, Rests}
use Rattle.zy_journal.specs.Journal.{Keeps, is_blank}
use Rattle.zy_journal.proofs.Begins.{gate_of_open}
use Rattle.zy_journal.proofs.Moments.{rests_once, rests_on}
use Rattle.zy_journal.proofs.Told.{if_some, from_some}
use Rattle.zy_journal.proofs.reading.Reading.open.Goals as goal

pub returns-in-Did-clause-gate : goal.returns-in-Did-clause-gate
returns-in-Did-clause-gate g c =
    gate_of_open c.settle.result (g.D.Disk.contents c.sync.new.self) (g.D.Disk.contents c.settle.new.disk) (g.D.Disk.may_leave c.settle.new.disk) c.args.identity.now
    c.settle.ensures.size c.settle.ensures.told c.settle.ensures.first c.settle.ensures.contents

pub returns-in-Did-clause-any_moment : goal.returns-in-Did-clause-any_moment
returns-in-Did-clause-any_moment g c =
    let old = c.args.disk.now in
    let synced = c.sync.new.self in
    let new = c.settle.new.disk in
    let D = g.D.Disk in
    inr (
      synced,
      rests_once D.contents D.may_leave D.moment D.left_since old synced (g.met.D.Disk.only_now old) c.sync.ensures.contents c.sync.ensures.image c.sync.ensures.crash c.sync.ensures.time,
      if_some (D.contents old) (λ file. Only file (D.may_leave synced) × LeavesOnly D.moment D.left_since synced new (Keeps c.args.identity.now file)) (λ file is. (
        from_some (D.contents old) (λ f. Only f (D.may_leave synced)) file c.in-Did.ensures.durable is,
        from_some (D.contents synced) (λ f. LeavesOnly D.moment D.left_since synced new (Keeps c.args.identity.now f)) file c.settle.ensures.any_moment (c.sync.ensures.contents ∙ is),
      )),
    )

pub returns-in-Did-clause-spared : goal.returns-in-Did-clause-spared
returns-in-Did-clause-spared g c =
    let old = c.args.disk.now in
    let synced = c.sync.new.self in
    let new = c.settle.new.disk in
    let D = g.D.Disk in
    if_some (D.contents old) (λ file. is_blank file ≡ false → Rests D.contents D.may_leave D.moment D.left_since old new) (λ file is used.
    rests_on D.contents D.may_leave D.moment D.left_since old synced new
    (rests_once D.contents D.may_leave D.moment D.left_since old synced (g.met.D.Disk.only_now old) c.sync.ensures.contents c.sync.ensures.image c.sync.ensures.crash c.sync.ensures.time)
    (from_some (D.contents synced) (λ f. is_blank f ≡ false → Rests D.contents D.may_leave D.moment D.left_since synced new) file c.settle.ensures.spared (c.sync.ensures.contents ∙ is) used))
