use Rattle.std.proofs.Common.{Some, sym, ◌∙◌, ap}
use Rattle.std.specs.Prelude.{option_copied}
use Rattle.std.specs.List.{find}
use Rattle.zy_parts.specs.Signing.{IsSignedInRange}
use Rattle.zy_parts.specs.Reports.{IsFetchInRange}
use Rattle.zy_parts.specs.declared.signed.Signed.{Signed}
use Rattle.zy_parts.specs.declared.reports.Fetch.{Fetch}
use Rattle.zy_cert.specs.Equal.{same_fetch}
use Rattle.zy_replica_state.proofs.ReadyLemmas.{found_is}
use Rattle.zy_replica_state.proofs.state.Core.fetch_said.Goals as goal

pub returns-in_ok-signed_copy-in-Some-clause-range : goal.returns-in_ok-signed_copy-in-Some-clause-range
returns-in_ok-signed_copy-in-Some-clause-range g c x is =
    let says = λ (one : Signed Fetch). same_fetch one.stmt c.args.wanted.now in
    found_is (IsSignedInRange IsFetchInRange) says c.self.inside.fetches c.self.invariant.fetches x
    (ap (find says) (sym c.as_slice.ensures.value) ∙ sym c.fetch_among.ensures ∙ ap option_copied c.in-Some.is
    ∙ ap Some (sym c.in_ok-signed_copy-in-Some.ensures) ∙ is)
