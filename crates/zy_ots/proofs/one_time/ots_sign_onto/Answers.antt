use Rattle.std.proofs.Common.{arith, ◌≡◌, ◌++◌, refl}
use Rattle.std.specs.Int.{w32, to_be_bytes}
use Rattle.zy_ots.specs.OneTime.{randomizer, message_digest, signed_value}
use Rattle.zy_ots.specs.OtsType.{chain_count_of, number_of}
use Rattle.zy_ots.proofs.OneTimeLemmas.{joined_start, joined_next, signature_is, place_from_start}
use Rattle.zy_ots.proofs.one_time.ots_sign_onto.Goals as goal

pub chains-init : goal.chains-init
chains-init c =
    let key = c.new-block.ensures in
    let randomizer_is : c.value-2.result.now ≡ randomizer c.args.id.now c.args.q c.args.seed.now =
    rw (c.value-2.ensures, c.begin.ensures, key) refl in
    let type = c.in_ok-extend_from_slice.ensures.items in
    let before = c.in_ok-extend_from_slice-2.ensures.items in
    record {
      key = rw c.begin.ensures key;
      out = rw (joined_start, before, type, randomizer_is, c.to_be_bytes.ensures, c.number.ensures) refl;
    }

pub chains-preserved : goal.chains-preserved
chains-preserved c =
    let id = c.args.id.now in
    let q = c.args.q in
    let seed = c.args.seed.now in
    let key = c.chains.invariant.key in
    let randomizer_is : c.value.result.now ≡ randomizer id q seed = rw (c.value.ensures, c.begin.ensures, c.new-block.ensures) refl in
    let digest = message_digest id q (randomizer id q seed) c.args.message.now in
    let next : c.value-in-chains.result.now ≡ signed_value c.args.ots id q seed digest c.chains.i =
    rw (c.value-in-chains.ensures, c.walk.ensures, c.coef.ensures, place_from_start, c.with_checksum-places.ensures, c.message_digest-digest.ensures, randomizer_is, c.begin-in-chains.ensures, key)
    (refl {a = signed_value c.args.ots id q seed digest c.chains.i}) in
    record {
      key = rw (c.walk.ensures, c.begin-in-chains.ensures) key;
      out = rw (c.in_ok-extend_from_slice-3.ensures.items, c.chains.invariant.out)
          (joined_next (c.args.out.items ++ to_be_bytes w32 (number_of c.args.ots) ++ randomizer id q seed) _ (signed_value c.args.ots id q seed digest) c.chains.i next);
    }

pub returns : goal.returns
returns c =
    let all : c.chains.i ≡ chain_count_of c.args.ots = omega (arith, c.chain_count-i-end.ensures) in
    signature_is c.args.ots c.args.out.items _ c.args.id.now c.args.seed.now c.args.message.now c.args.q c.chains.i all c.chains.invariant.out
