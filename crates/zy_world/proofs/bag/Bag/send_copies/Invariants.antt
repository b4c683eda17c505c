use Rattle.std.proofs.Common.{◌≡◌, ◌++◌, map, take}
use Rattle.zy_table.specs.Sending.{copies}
use Rattle.zy_world_law.specs.World.{mail_to}
use Rattle.zy_world.proofs.bag.Bag.send_copies.Given as goal

abbrev pub invariant-loop-party : goal.invariant-loop-party
invariant-loop-party l = record {
  mails : l.self.mails ≡ l.fn.self.mails ++ map mail_to (copies l.bytes (take l.party-index l.fn.to));
  passed : l.self.passed ≡ l.fn.self.passed;
}
