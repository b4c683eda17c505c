use Rattle.std.proofs.Common.{arith, ◌≡◌, ◌-◌, refl}
use Rattle.zy_ots.specs.OneTime.{public_end}
use Rattle.zy_ots.specs.OtsType.{last_place_of, chain_count_of}
use Rattle.zy_ots.proofs.OneTimeLemmas.{taken_none, taken_more, public_is}
use Rattle.zy_ots.proofs.one_time.ots_public.Goals as goal

pub chains-init : goal.chains-init
chains-init c = record { key = c.new-block.ensures; taken = taken_none _ _ _ c.prefix_hasher-hasher.ensures }

pub chains-preserved : goal.chains-preserved
chains-preserved c =
    let key = c.chains.invariant.key in
    let all : last_place_of c.args.ots - 0 ≡ last_place_of c.args.ots = omega arith in
    let next : c.value.result.now ≡ public_end c.args.ots c.args.id.now c.args.q c.args.seed.now c.chains.i =
    rw (c.value.ensures, c.walk.ensures, c.last_place.ensures, c.begin.ensures, key, all) refl in
    record {
      key = rw (c.walk.ensures, c.begin.ensures) key;
      taken = taken_more _ _ _ _ c.chains.i (c.update.ensures _ c.chains.invariant.taken) next;
    }

pub returns : goal.returns
returns c =
    let all : c.chains.i ≡ chain_count_of c.args.ots = omega (arith, c.chain_count-i-end.ensures) in
    public_is c.args.ots _ _ _ c.args.q c.chains.i all (c.finalize.ensures _ c.chains.invariant.taken)
