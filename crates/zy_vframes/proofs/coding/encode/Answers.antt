use Rattle.std.proofs.Common.{IsErrOf, refl, arith}
use Rattle.zy_wire.specs.declared.encode_fault.EncodeFault.TheVariants.{TooLong}
use Rattle.zy_vframes.proofs.ViewFrameLengths.{spelling-len}
use Rattle.zy_vframes.proofs.coding.encode.Goals as goal

pub returns-clause-never : goal.returns-clause-never
returns-clause-never c = λ within same.
    let is : IsErrOf c.encode.result TooLong = rw same refl in
    let long = c.encode.ensures.too_long is in
    omega (arith, long.1, spelling-len c.args.frame.now long.0 within)
