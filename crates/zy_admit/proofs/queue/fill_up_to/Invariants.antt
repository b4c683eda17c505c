use Rattle.std.proofs.Common.{◌≡◌, ◌+◌, ◌≤◌, ◌++◌, replicate, None, deque_len}
use Rattle.std.specs.VecDeque.{deque_capacity}
use Rattle.zy_admit.proofs.queue.fill_up_to.Given as goal

abbrev pub invariant-loop : goal.invariant-loop
invariant-loop g l =
    (l.queue.items ≡ l.fn.queue.items ++ replicate l.counter None)
    × (deque_len l.queue ≡ deque_len l.fn.queue + l.counter)
    × (deque_len l.fn.queue + l.missing ≤ deque_capacity l.queue)
