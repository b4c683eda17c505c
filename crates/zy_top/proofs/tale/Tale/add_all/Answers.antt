use Rattle.std.proofs.Common.{◌≡◌, ◌+◌, length, ap, arith}
use Rattle.zy_top.proofs.RunParts.{Adds-more, Adds-none, Adds-whole}
use Rattle.zy_top.proofs.tale.Tale.add_all.Goals as goal

pub loop-note-init : goal.loop-note-init
loop-note-init c = record { told = Adds-none c.args.self.now; within = omega arith; count = omega arith }

pub add-requires : goal.add-requires
add-requires c = omega (arith, c.loop-note.invariant.count, c.requires, c.loop-note-test.true, ap length c.as_slice-note-items.ensures.value)

pub loop-note-preserved : goal.loop-note-preserved
loop-note-preserved c = record {
  told = Adds-more c.args.self.now c.loop-note.self c.add.new.self c.args.notes.now c.as_slice-note-items.result.now c.loop-note.note-index c.note-item.result c.as_slice-note-items.ensures.value
      c.loop-note-test.true c.note-item.is c.loop-note.invariant.told c.in_ok-add.ensures.told;
  within = omega (arith, c.loop-note-test.true, ap length c.as_slice-note-items.ensures.value);
  count = omega (arith, c.loop-note.invariant.count, c.add.ensures.count);
}

pub returns-clause-told : goal.returns-clause-told
returns-clause-told c =
    Adds-whole c.args.self.now c.loop-note.self c.args.notes.now c.as_slice-note-items.result.now c.loop-note.note-index c.as_slice-note-items.ensures.value c.loop-note-test.false c.loop-note.invariant.told

pub returns-clause-count : goal.returns-clause-count
returns-clause-count c = omega (arith, c.loop-note.invariant.count, c.loop-note.invariant.within)

pub returns-in_err-add-clause-count : goal.returns-in_err-add-clause-count
returns-in_err-add-clause-count c = omega (arith, c.loop-note.invariant.count, c.add.ensures.count, c.loop-note-test.true, ap length c.as_slice-note-items.ensures.value)
