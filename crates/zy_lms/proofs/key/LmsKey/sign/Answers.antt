use Rattle.std.proofs.Common.{arith, ◌≡◌, ◌<◌, ◌^◌, length}
use Rattle.zy_lms.specs.Height.{levels_of}
use Rattle.zy_lms.proofs.LmsLemmas.{leaf_is, VerifiesAs-signature}
use Rattle.zy_lms.proofs.key.LmsKey.sign.Goals as goal

pub returns-clause-verifies : goal.returns-clause-verifies
returns-clause-verifies c =
    let left : c.args.self.now.next < 2 ^ levels_of c.args.self.now.height = omega (arith, c.left.ensures) in
    let sized : length c.args.self.now.id ≡ 16 = rw (← c.self.view_is) c.self.told.1 in
    rw c.in_ok-signature.ensures (c.args.self.now.height, c.args.self.now.ots, VerifiesAs-signature c.args.self.now c.args.message.now sized left)

pub returns-clause-leaf : goal.returns-clause-leaf
returns-clause-leaf c =
    let left : c.args.self.now.next < 2 ^ levels_of c.args.self.now.height = omega (arith, c.left.ensures) in
    let sized : length c.args.self.now.id ≡ 16 = rw (← c.self.view_is) c.self.told.1 in
    rw c.in_ok-signature.ensures (leaf_is c.args.self.now c.args.message.now sized left)
