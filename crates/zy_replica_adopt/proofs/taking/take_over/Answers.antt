use Rattle.std.proofs.Common.{◌≡◌, ◌≤◌, length, ap, ◌∙◌, arith}
use Rattle.zy_exec.specs.Kept.{last_place, stretch_of as own_stretch}
use Rattle.zy_evidence.specs.Reading.{stretch_of}
use Rattle.zy_table.specs.Adopting.{entries_between}
use Rattle.zy_replica_adopt.proofs.CommonLemmas.{common_low, common_within}
use Rattle.zy_replica_adopt.proofs.GotLemmas.{room_between, taken_is, gained_is}
use Rattle.zy_replica_adopt.proofs.taking.take_over.Goals as goal

pub go_back-requires-clause-below : goal.go_back-requires-clause-below
go_back-requires-clause-below g c =
    omega (arith, c.common_with-common.ensures, common_within (stretch_of c.args.told.now) (own_stretch c.args.exec.now) c.args.place.0)

pub entries_between-requires-clause-order : goal.entries_between-requires-clause-order
entries_between-requires-clause-order g c =
    omega (arith, c.common_with-common.ensures, common_low (stretch_of c.args.told.now) (own_stretch c.args.exec.now) c.args.place.0)

pub run_all-requires-clause-room : goal.run_all-requires-clause-room
run_all-requires-clause-room g c =
    let told = stretch_of c.args.told.now in
    let own = own_stretch c.args.exec.now in
    let low = c.common_with-common.result.0 in
    let is = c.common_with-common.ensures in
    let base : c.args.exec.now.base.place ≤ low = omega (arith, is, c.requires.base) in
    let told_base : c.args.told.now.stable_place.0 ≤ low = omega (arith, is, c.requires.told_base) in
    let end : low ≤ last_place c.args.exec.now = omega (arith, is, common_within told own c.args.place.0) in
    let up_to : low ≤ c.args.place.0 = omega (arith, is, common_low told own c.args.place.0) in
    let room = room_between told c.args.place.0 c.args.exec.now low base end told_base up_to in
    let last = ap last_place c.go_back.ensures in
    let count : length c.entries_between.result.now ≡ length (entries_between told low c.args.place.0) = ap length c.entries_between.ensures in
    omega (arith, room, last, count, c.requires.place)

pub returns-in-Ok-clause-exec : goal.returns-in-Ok-clause-exec
returns-in-Ok-clause-exec g c =
    c.in-Ok.ensures.exec
    ∙ taken_is (stretch_of c.args.told.now) c.args.place.0 c.args.exec.now c.go_back.new.exec c.common_with-common.result.0 c.entries_between.result.now c.common_with-common.ensures c.go_back.ensures c.entries_between.ensures

pub returns-in-Ok-clause-gained : goal.returns-in-Ok-clause-gained
returns-in-Ok-clause-gained g c =
    c.in-Ok.ensures.gained
    ∙ gained_is g.M.Machine.rules (stretch_of c.args.told.now) c.args.place.0 c.args.exec.now c.go_back.new.exec c.common_with-common.result.0 c.entries_between.result.now c.common_with-common.ensures c.go_back.ensures c.entries_between.ensures
