use Rattle.std.proofs.Common.{List, ℕ, IfSome, ◌∙◌, refl, subst}
use Rattle.zy_journal.specs.Journal.{HasRecord}
use Rattle.zy_journal.proofs.Moments.{rests_on, rests_still}
use Rattle.zy_node.specs.Recovering.{IsAfter}
use Rattle.zy_node.proofs.RecoverLemmas.{image_of_gate, none_so_far, one_so_far}
use Rattle.zy_node.proofs.recovering.recover.Goals as goal

pub records-init : goal.records-init
records-init g c =
    let disk = c.args.disk.now in
    record {
      so_far = none_so_far g.C.Core.rules c.args.core (g.D.Disk.contents disk) c.args.reading;
      gate = c.requires;
      rests = rests_still g.D.Disk.contents g.D.Disk.may_leave g.D.Disk.moment g.D.Disk.left_since disk (g.met.D.Disk.only_now disk) (image_of_gate (g.D.Disk.contents disk) (g.D.Disk.may_leave disk) c.args.reading c.requires);
      faults = refl;
    }

pub records-preserved : goal.records-preserved
records-preserved g c =
    let arm = c.in-Ok-Record in
    let later = c.in_ok-core-in-Ok-Record.core in
    let before = c.records.invariant in
    let placed = rw arm.field-0-is at arm.ensures.place in
    let has = subst (λ (told : _). IfSome told (λ file. HasRecord file c.records.reading arm.piece)) before.rests.same (rw arm.field-0-is at arm.ensures.found) in
    let stepped = subst (λ (p : List ℕ). IsAfter g.C.Core.rules c.records.core p later) c.as_slice.ensures.value c.in_ok-core-in-Ok-Record.ensures in
    record {
      so_far = one_so_far g.C.Core.rules c.args.core (g.D.Disk.contents c.args.disk.now) c.args.reading c.records.core c.records.reading arm.piece later arm.next before.so_far has stepped placed.0;
      gate = rw arm.field-0-is at arm.ensures.gate;
      rests = rests_on g.D.Disk.contents g.D.Disk.may_leave g.D.Disk.moment g.D.Disk.left_since c.args.disk.now c.records.disk c.next.new.disk before.rests arm.ensures.rests;
      faults = arm.ensures.count ∙ before.faults;
    }
