use Rattle.std.proofs.Common.{◌≡◌, IfSome, sym, subst}
use Rattle.zy_change.specs.declared.owed.Owed.{Owed}
use Rattle.zy_change.specs.Fit.{IsCertified}
use Rattle.zy_change.specs.EnteringAhead.{IsInFrames}
use Rattle.zy_change.specs.Confirming.{view_cert_owes}
use Rattle.zy_change.proofs.CertLemmas.{certified_only, ok_both, some_both}
use Rattle.zy_change.proofs.entering.view_cert.Goals as goal

pub returns-clause-certified : goal.returns-clause-certified
returns-clause-certified c =
    let v = c.args.machine.now in
    let cert = c.args.cert.now in
    ok_both c.view_cert_owes.result (λ o. o ≡ view_cert_owes v cert) (λ o. IfSome o.adopt IsInFrames) (λ o. IfSome o.adopt (λ a. IsCertified v.counts v.interval cert a.chosen)) c.view_cert_owes.ensures.owed c.view_cert_owes.ensures.place
    (λ o is small.
    some_both o.adopt IsInFrames (λ a. IsCertified v.counts v.interval cert a.chosen) small
    (subst (λ (owed : Owed). IfSome owed.adopt (λ a. IsInFrames a → IsCertified v.counts v.interval cert a.chosen)) (sym is) (certified_only v cert c.requires.signers c.requires.in_range)))
