use Rattle.std.proofs.Common.{arith, sym}
use Rattle.zy_lms.proofs.HssVerifiedLemmas.{other_count, too_short}
use Rattle.zy_lms.proofs.hss_verification.verify_below.Goals as goal
use Rattle.zy_lms.proofs.hss_verification.verify_below.Goals.{then-sig-len-via-then-sig-len, then-sig-len-via-else-sig-len+then-u32_at-ne-SIGNED_KEYS}

pub returns-then-sig-len : goal.returns-then-sig-len
returns-then-sig-len c =
    let len = c.args.len in
    let top = c.args.top.now in
    let message = c.args.message.now in
    let sig = c.args.sig.now in
    elim c.then-sig-len.branch [
      | then-sig-len-via-then-sig-len w ↦ sym (too_short len top message sig (omega (arith, w.if-sig-len.true)))
      | then-sig-len-via-else-sig-len+then-u32_at-ne-SIGNED_KEYS w ↦ sym (other_count len top message sig (rw w.u32_at.ensures at w.if-u32_at-ne-SIGNED_KEYS.true))
    ]
