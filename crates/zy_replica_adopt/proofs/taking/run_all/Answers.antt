use Rattle.std.proofs.Common.{refl}
use Rattle.zy_replica_adopt.proofs.GotLemmas.{kept_more, gots_more, range_more}
use Rattle.zy_replica_adopt.proofs.taking.run_all.Goals as goal

pub loop-entry-preserved : goal.loop-entry-preserved
loop-entry-preserved g c =
    let i = c.loop-entry.entry-index in
    let e = c.entry-item.result in
    let got = c.in_ok-run_one.field-0 in
    let so_far = c.loop-entry.invariant in
    record {
      entries = refl;
      exec = kept_more c.args.exec.now c.loop-entry.exec c.run_one.new.exec c.args.entries.now i e c.loop-entry-test.true c.entry-item.is so_far.exec c.in_ok-run_one.ensures.exec;
      gained = gots_more g.M.Machine.rules c.args.exec.now c.loop-entry.exec c.args.entries.now i e c.loop-entry.gots c.push.new.self got c.loop-entry-test.true c.entry-item.is so_far.exec so_far.gained c.in_ok-run_one.ensures.got c.in_ok-push.ensures.ok;
      range = range_more c.loop-entry.gots c.push.new.self got so_far.range c.in_ok-run_one.ensures.range c.in_ok-push.ensures.ok;
    }
