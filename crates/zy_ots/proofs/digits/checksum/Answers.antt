use Rattle.std.proofs.Common.{arith, ◌≡◌, ◌-◌, ◌<◌, refl, sym}
use Rattle.std.proofs.Math.Nat.{mod-eq_of_lt}
use Rattle.zy_ots.specs.OtsType.{digest_coef_count_of, last_place_of, width_of}
use Rattle.zy_ots.specs.Coef.{coef_of}
use Rattle.zy_ots.proofs.CoefLemmas.{complement_none, complement_more, complement_fits, checksum_fits}
use Rattle.zy_ots.proofs.digits.checksum.Goals as goal

pub overflow_add-sum : goal.overflow_add-sum
overflow_add-sum c =
    let below : c.elements.i < digest_coef_count_of c.args.ots = rw c.digest_coef_count-i-end.ensures at c.elements-test.true in
    let fits = complement_fits c.args.ots c.args.q.now.0 c.elements.i below in
    let term : c.from-sum.result ≡ last_place_of c.args.ots - coef_of c.args.q.now.0 c.elements.i (width_of c.args.ots) =
    rw (c.from-sum.ensures, c.last_place.ensures, c.coef.ensures) refl in
    omega (arith, fits, term, c.elements.invariant)

pub elements-init : goal.elements-init
elements-init c = sym (complement_none _ _)

pub elements-preserved : goal.elements-preserved
elements-preserved c =
    rw (complement_more c.args.ots c.args.q.now.0 c.elements.i, c.from-sum.ensures, c.last_place.ensures, c.coef.ensures, c.elements.invariant)
    refl

pub returns : goal.returns
returns c =
    let end = c.digest_coef_count-i-end.ensures in
    let all : c.elements.i ≡ digest_coef_count_of c.args.ots = omega (arith, end) in
    rw (c.checksum_shift.ensures, c.elements.invariant, all) (mod-eq_of_lt (checksum_fits c.args.ots c.args.q.now.0))
