use Rattle.std.proofs.Common.{arith}
use Rattle.zy_check.proofs.TallyLemmas.{tallied-put, tallied-few}
use Rattle.zy_check.proofs.tally.Tally.put.Goals as goal

pub raised-number-requires : goal.raised-number-requires
raised-number-requires g c =
    let x = c.self.inside in
    omega (arith, tallied-few g.S.PartialEq.eq x.list.items x.counted x.number c.args.vote.stmt c.self.invariant, x.list.ok.0, x.list.ok.1, x.list.small)

pub invariant_of-self : goal.invariant_of-self
invariant_of-self g c =
    let x = c.self.inside in
    rw (c.in-Ok.ensures.ok, c.raised-number.ensures, c.counted_or-counted.ensures) (tallied-put g.S.PartialEq.eq c.args.vote x.list.items x.counted x.number c.self.invariant)

pub invariant_of-self-in-Err : goal.invariant_of-self-in-Err
invariant_of-self-in-Err g c = rw c.in-Err.ensures.err c.self.invariant
