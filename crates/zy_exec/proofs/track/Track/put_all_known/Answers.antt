use Rattle.std.proofs.Common.{◌<◌, ◌∙◌, ap, length, take, arith, append_assoc}
use Rattle.std.specs.List.{flat_map}
use Rattle.zy_exec.specs.Kept.{now_of}
use Rattle.zy_exec.specs.Snapshot.{listed, row_fields}
use Rattle.std.proofs.lemmas.List.{length-append}
use Rattle.zy_exec.specs.declared.row.Row.{Row}
use Rattle.zy_exec.proofs.ListedLemmas.{listed_none, listed_some, flat_map_more, row-at_most}
use Rattle.zy_exec.proofs.track.Track.put_all_known.Goals as goal
use Rattle.zy_exec.proofs.track.Track.put_all_known.Goals.{in-Some+in_ok-put_row-in-Some, in-None}

pub loop-client-preserved : goal.loop-client-preserved
loop-client-preserved g c =
    let known = (now_of g.M.Machine.rules c.args.self.now).known in
    let client = c.loop-client.client in
    let within : client < length known = omega (arith, c.clients-client-end.ensures.all, c.loop-client-test.true) in
    elim c.match-known.branch [
      | in-Some+in_ok-put_row-in-Some w ↦
          let row : Row = record { client = record { 0 = client }; known = w.in-Some.known.now } in
          let more = listed_some known client w.in-Some.known.now within w.in-Some.ensures.known in
          let bytes = ap (flat_map row_fields.spell) more ∙ flat_map_more (listed 0 (take client known)) row in
          record {
            bytes = rw (w.out-is, w.in_ok-put_row-in-Some.ensures.bytes, c.loop-client.invariant.bytes, bytes) (append_assoc c.args.out.now (flat_map row_fields.spell (listed 0 (take client known))) (row_fields.spell row));
            short = rw w.out-is
                (omega (arith, ap length w.in_ok-put_row-in-Some.ensures.bytes, length-append c.loop-client.out (row_fields.spell row), row-at_most.fits row w.in_ok-put_row-in-Some.ensures.fits, c.loop-client.invariant.short));
          }
      | in-None w ↦
          record {
            bytes = rw (w.out-is, listed_none known client within w.in-None.ensures.known) c.loop-client.invariant.bytes;
            short = rw w.out-is (omega (arith, c.loop-client.invariant.short));
          }
    ]
