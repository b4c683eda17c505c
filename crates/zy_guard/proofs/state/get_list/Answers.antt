use Rattle.std.proofs.Common.{arith}
use Rattle.zy_guard.proofs.StateLemmas.{count_read}
use Rattle.zy_guard.proofs.state.get_list.Goals as goal

pub get_slots-requires : goal.get_slots-requires
get_slots-requires c =
    count_read c.args.bytes.now c.in_ok-count.count c.count.new.self (λ i. omega (arith, c.type_inv.bytes i)) (rw c.new-cut.ensures at c.in_ok-count.ensures.read)
