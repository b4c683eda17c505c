use Rattle.std.proofs.Common.{refl}
use Rattle.zy_lms.proofs.hss.HssKey.make.Goals as goal

pub invariant_of-result : goal.invariant_of-result
invariant_of-result c = rw c.in_ok-top.ensures (record { id_len = c.told-id; within = c.requires }, tt)

pub returns : goal.returns
returns c = rw c.in_ok-top.ensures refl
