use Rattle.std.proofs.Common.{arith, ◌<◌}
use Rattle.zy_lms.specs.Height.{signatures_of}
use Rattle.zy_lms.proofs.HssLemmas.{HssVerifies-signature, lower_leaf_is, top_leaf_is}
use Rattle.zy_lms.proofs.hss.HssKey.sign.Goals as goal

pub returns-clause-verifies : goal.returns-clause-verifies
returns-clause-verifies c =
    let key = c.args.self.now in
    let left : key.next < signatures_of key.height = omega (arith, c.left.ensures) in
    rw c.in_ok-sign_next.ensures.value (HssVerifies-signature key c.args.message.now c.left.ensures.key.id_len left)

pub returns-clause-at_top_leaf : goal.returns-clause-at_top_leaf
returns-clause-at_top_leaf c =
    let key = c.args.self.now in
    let left : key.next < signatures_of key.height = omega (arith, c.left.ensures) in
    rw c.in_ok-sign_next.ensures.value (top_leaf_is key c.args.message.now c.left.ensures.key.id_len left)

pub returns-clause-at_lower_leaf : goal.returns-clause-at_lower_leaf
returns-clause-at_lower_leaf c =
    let key = c.args.self.now in
    let left : key.next < signatures_of key.height = omega (arith, c.left.ensures) in
    rw c.in_ok-sign_next.ensures.value (lower_leaf_is key c.args.message.now c.left.ensures.key.id_len left)
