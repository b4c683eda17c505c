use Rattle.std.proofs.Common.{◌≡◌, ◌++◌, map, take}
use Rattle.zy_parts.specs.Signing.{part_of}
use Rattle.zy_parts.proofs.signed.push_parts.Given as goal

abbrev pub invariant-loop-signed : goal.invariant-loop-signed
invariant-loop-signed g l = l.parts.items ≡ l.fn.parts.items ++ map (part_of g.S.Statement.its_number g.S.Spelled.spelling) (take l.signed-index l.list)
