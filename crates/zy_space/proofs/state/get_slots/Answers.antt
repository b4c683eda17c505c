use Rattle.zy_wire.specs.Spelling.{repeated_at}
use Rattle.zy_tuple.specs.Bytes.{tuple_spelling}
use Rattle.zy_tuple.proofs.Items.{goes_on}
use Rattle.zy_space.specs.Changes.{tuples_of}
use Rattle.zy_space.proofs.StateLemmas.{put_tuples, put_holds, put_stack, put_many, tuple_read}
use Rattle.zy_space.proofs.state.get_slots.Goals as goal

pub put_last-requires : goal.put_last-requires
put_last-requires c = (tuple_read c.loop-place.cut c.in_ok-tuple.tuple c.tuple_get.new.cut c.loop-place.invariant.bytes c.in_ok-tuple.ensures).0

pub loop-place-preserved : goal.loop-place-preserved
loop-place-preserved c =
    let put = c.in_ok-put_last.ensures.ok in
    let read = tuple_read c.loop-place.cut c.in_ok-tuple.tuple c.tuple_get.new.cut c.loop-place.invariant.bytes c.in_ok-tuple.ensures in
    record {
      so_far = rw (put_tuples c.loop-place.slots c.put_last.new.slots c.in_ok-tuple.tuple put)
          (goes_on tuple_spelling (tuples_of c.loop-place.slots.live) c.args.count c.loop-place.place c.loop-place.cut c.in_ok-tuple.tuple c.tuple_get.new.cut (repeated_at tuple_spelling c.args.count c.args.cut.now) c.loop-place-test.true c.in_ok-tuple.ensures c.loop-place.invariant.so_far);
      bytes = read.1;
      tuples = put_holds c.loop-place.slots c.put_last.new.slots c.in_ok-tuple.tuple put read.0 c.loop-place.invariant.tuples;
      stack = put_stack c.loop-place.slots c.put_last.new.slots c.in_ok-tuple.tuple put c.loop-place.invariant.stack;
      many = put_many c.loop-place.slots c.put_last.new.slots c.in_ok-tuple.tuple c.loop-place.place put c.loop-place.invariant.many;
    }
