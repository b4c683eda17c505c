use Rattle.std.proofs.Common.{◌≡◌, drop}
use Rattle.std.specs.List.{AllByRecursion}
use Rattle.zy_parts.specs.Signing.{IsSignedInRange}
use Rattle.zy_parts.specs.Statements.{IsAskInRange}
use Rattle.zy_world.specs.Shown.{requests_in}
use Rattle.zy_world.proofs.Posting.{found_with}
use Rattle.zy_world.proofs.bag.Bag.requests.Given as goal

abbrev pub invariant-loop-number : goal.invariant-loop-number
invariant-loop-number l = record {
  found : found_with l.self.mails l.found (drop l.number-index l.numbers) ≡ requests_in l.self.mails l.numbers;
  range : AllByRecursion (IsSignedInRange IsAskInRange) l.found;
}
