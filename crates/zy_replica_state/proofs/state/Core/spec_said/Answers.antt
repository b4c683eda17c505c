use Rattle.std.proofs.Common.{Some, sym, ◌∙◌, ap}
use Rattle.std.specs.Prelude.{option_copied}
use Rattle.std.specs.List.{find}
use Rattle.zy_parts.specs.Signing.{IsSignedInRange}
use Rattle.zy_parts.specs.Statements.{IsSpecInRange}
use Rattle.zy_parts.specs.declared.signed.Signed.{Signed}
use Rattle.zy_parts.specs.declared.statements.Spec.{Spec}
use Rattle.zy_cert.specs.Equal.{same_spec}
use Rattle.zy_replica_state.proofs.ReadyLemmas.{found_is}
use Rattle.zy_replica_state.proofs.state.Core.spec_said.Goals as goal

pub returns-in_ok-signed_copy-in-Some-clause-range : goal.returns-in_ok-signed_copy-in-Some-clause-range
returns-in_ok-signed_copy-in-Some-clause-range g c x is =
    let says = λ (one : Signed Spec). same_spec one.stmt c.args.spec.now in
    found_is (IsSignedInRange IsSpecInRange) says c.self.inside.specs c.self.invariant.specs x
    (ap (find says) (sym c.as_slice.ensures.value) ∙ sym c.spec_among.ensures ∙ ap option_copied c.in-Some.is
    ∙ ap Some (sym c.in_ok-signed_copy-in-Some.ensures) ∙ is)
