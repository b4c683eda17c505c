use Rattle.std.proofs.Common.{◌<◌, ◌∙◌, ap, length, take, arith}
use Rattle.std.proofs.lemmas.List.{length_push}
use Rattle.zy_exec.specs.Kept.{now_of}
use Rattle.zy_exec.specs.Snapshot.{listed}
use Rattle.zy_exec.proofs.ListedLemmas.{listed_none, listed_some}
use Rattle.zy_exec.proofs.track.Track.known_count.Goals as goal
use Rattle.zy_exec.proofs.track.Track.known_count.Goals.{in-Some, in-None}

pub loop-client-preserved : goal.loop-client-preserved
loop-client-preserved g c =
    let known = (now_of g.M.Machine.rules c.args.self.now).known in
    let client = c.loop-client.client in
    let within : client < length known = omega (arith, c.clients-client-end.ensures.all, c.loop-client-test.true) in
    elim c.match-known.branch [
      | in-Some w ↦
          let more = listed_some known client w.in-Some.field-0.now within w.in-Some.ensures.known in
          let one_more = ap length more ∙ length_push (listed 0 (take client known)) (record { client = record { 0 = client }; known = w.in-Some.field-0.now }) in
          record {
            counted = omega (arith, w.count-is, c.loop-client.invariant.counted, one_more);
            few = omega (arith, w.count-is, c.loop-client.invariant.few);
          }
      | in-None w ↦
          let same = ap length (listed_none known client within w.in-None.ensures.known) in
          record {
            counted = omega (arith, w.count-is, c.loop-client.invariant.counted, same);
            few = omega (arith, w.count-is, c.loop-client.invariant.few);
          }
    ]
