use Rattle.std.proofs.Common.{sym, ap, ◌∙◌, rules}
use Rattle.zy_ots.specs.OtsType.{type_with}
use Rattle.zy_lms.specs.Height.{height_with}
use Rattle.zy_lms.specs.Lms.{verified}
use Rattle.zy_lms.proofs.VerifiedLemmas.{verified-under}
use Rattle.zy_lms.proofs.verification.verify.Goals as goal

pub returns-in-Some-Some-clause-value : goal.returns-in-Some-Some-clause-value
returns-in-Some-Some-clause-value c =
    let height = ap height_with (sym c.u32_at.ensures) ∙ sym c.from_number-height.ensures ∙ c.in-Some-Some.is-0 in
    let ots = ap type_with (sym c.u32_at-2.ensures) ∙ sym c.from_number-ots.ensures ∙ c.in-Some-Some.is-1 in
    verified-under c.args.public.now c.args.message.now c.args.sig.now c.in-Some-Some.height c.in-Some-Some.ots c.verify_as.result height ots c.verify_as.ensures

pub returns-in_default-clause-value : goal.returns-in_default-clause-value
unfolding verified
returns-in_default-clause-value c = search rules

pub returns-in_default-2-clause-value : goal.returns-in_default-2-clause-value
unfolding verified
returns-in_default-2-clause-value c = search rules
