use Rattle.std.proofs.Common.{◌≡◌, ◌++◌, length, map}
use Rattle.zy_world_law.specs.World.{mail_to}
use Rattle.zy_world.proofs.bag.Bag.send.Given as goal

abbrev pub invariant-loop-to : goal.invariant-loop-to
invariant-loop-to l =
    (l.self.mails ++ map mail_to l.to-iterator.rest.items ≡ l.fn.self.mails ++ map mail_to l.fn.sent)
    × (l.self.passed ≡ l.fn.self.passed)
    × (length l.to-iterator.rest.items ≡ l.to-iterator.rest.len)
