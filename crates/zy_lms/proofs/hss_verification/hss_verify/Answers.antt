use Rattle.std.proofs.Common.{arith, ◌≡◌, ◌∙◌, ap, drop, length-drop, sym}
use Rattle.std.specs.Prelude.{None, Some, false}
use Rattle.std.proofs.lemmas.List.{take_all}
use Rattle.zy_ots.specs.Coef.{number_at}
use Rattle.zy_lms.specs.Hss.{len_under, verified_below}
use Rattle.zy_lms.proofs.HssVerifiedLemmas.{meaning, other_levels, two_levels}
use Rattle.zy_lms.proofs.hss_verification.hss_verify.Goals as goal

pub returns-then-u32_at-ne-LEVELS-clause-value : goal.returns-then-u32_at-ne-LEVELS-clause-value
returns-then-u32_at-ne-LEVELS-clause-value c =
    other_levels c.args.public.now c.args.message.now c.args.sig.now (rw c.u32_at.ensures at c.if-u32_at-ne-LEVELS.true)

pub returns-in-Some-clause-value : goal.returns-in-Some-clause-value
returns-in-Some-clause-value c =
    let public = c.args.public.now in
    let message = c.args.message.now in
    let sig = c.args.sig.now in
    let top : c.copy_from_slice.new.self ≡ drop 4 public =
    c.copy_from_slice.ensures.after ∙ take_all 56 (drop 4 public) (omega (arith, length-drop 4 public, c.told-public)) in
    let told : len_under (drop 4 public) ≡ Some c.in-Some.len =
    ap len_under (sym top) ∙ sym c.signature_len.ensures.value ∙ c.in-Some.is in
    let two : number_at public 0 ≡ 2 = sym c.u32_at.ensures ∙ c.if-u32_at-ne-LEVELS.false in
    c.verify_below.ensures ∙ ap (λ key. verified_below (Some c.in-Some.len) key message sig) top
    ∙ two_levels public message sig (Some c.in-Some.len) two told

pub returns-in-Some-clause-meaning : goal.returns-in-Some-clause-meaning
returns-in-Some-clause-meaning c =
    meaning c.args.public.now c.args.message.now c.args.sig.now c.verify_below.result (returns-in-Some-clause-value c)

pub returns-in-None-clause-value : goal.returns-in-None-clause-value
returns-in-None-clause-value c =
    let public = c.args.public.now in
    let top : c.copy_from_slice.new.self ≡ drop 4 public =
    c.copy_from_slice.ensures.after ∙ take_all 56 (drop 4 public) (omega (arith, length-drop 4 public, c.told-public)) in
    let told : len_under (drop 4 public) ≡ None =
    ap len_under (sym top) ∙ sym c.signature_len.ensures.value ∙ c.in-None.is in
    let two : number_at public 0 ≡ 2 = sym c.u32_at.ensures ∙ c.if-u32_at-ne-LEVELS.false in
    two_levels public c.args.message.now c.args.sig.now None two told

pub returns-in-None-clause-meaning : goal.returns-in-None-clause-meaning
returns-in-None-clause-meaning c =
    meaning c.args.public.now c.args.message.now c.args.sig.now false (returns-in-None-clause-value c)
