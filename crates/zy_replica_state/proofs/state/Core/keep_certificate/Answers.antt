use Rattle.std.proofs.Common.{List, subst, sym}
use Rattle.zy_wire.specs.Fields.{FitsList}
use Rattle.zy_parts.specs.Signing.{IsSignedInRange}
use Rattle.zy_parts.specs.Statements.{IsSpecInRange}
use Rattle.zy_parts.specs.declared.signed.Signed.{Signed}
use Rattle.zy_parts.specs.declared.statements.Spec.{Spec}
use Rattle.zy_table.specs.State.{State}
use Rattle.zy_replica_state.specs.Ready.{IsOwnCertificate}
use Rattle.zy_replica_state.proofs.BoardLemmas.{owed_certain}
use Rattle.zy_replica_state.proofs.ReadyLemmas.{certificate_in_range, certificate_kept, ready_certificate}
use Rattle.zy_replica_state.proofs.state.Core.keep_certificate.Goals as goal

pub keep_specs-requires-clause-in_range : goal.keep_specs-requires-clause-in_range
keep_specs-requires-clause-in_range g c =
    subst (λ (list : List (Signed Spec)). FitsList (IsSignedInRange IsSpecInRange) 1 16 list) (sym c.into_vec.ensures) (certificate_in_range _ c.args.place c.args.specs c.requires)

pub keep_specs-requires-clause-proven : goal.keep_specs-requires-clause-proven
keep_specs-requires-clause-proven g c =
    let own = subst (λ (s : State g.row.M-State.Denot). IsOwnCertificate s c.args.place c.args.specs) (sym c.self.view_is) c.requires in
    certificate_kept _ c.self.invariant c.args.place c.args.specs _ own c.into_vec.ensures

pub invariant_of-self : goal.invariant_of-self
invariant_of-self g c =
    let own = subst (λ (s : State g.row.M-State.Denot). IsOwnCertificate s c.args.place c.args.specs) (sym c.self.view_is) c.requires in
    rw (c.keep_specs.ensures, c.into_vec.ensures) (ready_certificate _ c.self.invariant c.args.place c.args.specs own)

pub returns-clause-owed : goal.returns-clause-owed
returns-clause-owed g c own brought = owed_certain _ _ c.keep_specs.new.self c.self.view_is own brought
