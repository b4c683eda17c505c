use Rattle.std.proofs.Common.{arith, ◌≡◌, ◌-◌, ◌+◌, ◌*◌, refl, take, drop}
use Rattle.zy_ots.specs.OneTime.{chain_end, message_digest}
use Rattle.zy_ots.specs.OtsType.{chain_count_of}
use Rattle.zy_ots.proofs.OneTimeLemmas.{taken_none, taken_more, candidate_is}
use Rattle.zy_ots.proofs.one_time.ots_recover.Goals as goal

pub chains-init : goal.chains-init
chains-init c = record { key = c.new-block.ensures; taken = taken_none _ _ _ c.prefix_hasher-hasher.ensures }

pub chains-preserved : goal.chains-preserved
chains-preserved c =
    let key = c.chains.invariant.key in
    let digest = message_digest c.args.id.now c.args.q (take 32 (drop 4 c.args.sig.now)) c.args.message.now in
    let whole : 36 + 32 * c.chains.i + 32 - (36 + 32 * c.chains.i) ≡ 32 = omega arith in
    let next : c.value.result.now ≡ chain_end c.args.ots c.args.id.now c.args.q digest c.args.sig.now c.chains.i =
    rw (c.value.ensures, c.walk.ensures, c.coef.ensures, c.last_place.ensures, c.with_checksum-places.ensures, c.message_digest-digest.ensures, c.load.ensures, key, whole)
    (refl {a = chain_end c.args.ots c.args.id.now c.args.q digest c.args.sig.now c.chains.i}) in
    record {
      key = rw (c.walk.ensures, c.load.ensures) key;
      taken = taken_more _ _ _ _ c.chains.i (c.update.ensures _ c.chains.invariant.taken) next;
    }

pub returns-clause-value : goal.returns-clause-value
returns-clause-value c =
    let all : c.chains.i ≡ chain_count_of c.args.ots = omega (arith, c.chain_count-i-end.ensures) in
    candidate_is c.args.ots _ _ _ _ c.args.q c.chains.i all (c.finalize.ensures _ c.chains.invariant.taken)
