use Rattle.std.proofs.Common.{List, Option, sym, ◌∙◌, ap}
use Rattle.zy_parts.specs.declared.signed.Signed.{Signed}
use Rattle.zy_parts.specs.declared.statements.Spec.{Spec}
use Rattle.zy_change.specs.Views.{is_further}
use Rattle.zy_table.specs.State.{State}
use Rattle.zy_table.specs.Gathering.{certificate_at, keep_certificate}
use Rattle.zy_replica_state.proofs.BoardLemmas.{not_further}
use Rattle.zy_replica_state.proofs.state.Core.keep_certificate_at.Goals as goal

pub returns-then-not-is_further-clause-core : goal.returns-then-not-is_further-clause-core
returns-then-not-is_further-clause-core g c =
    let own = c.args.own.now in
    let further = ap (λ (s : State g.row.M-State.Denot). is_further own.spec.place s.views.specs) (sym c.self.view_is) ∙ sym c.is_further.ensures ∙ c.if-not-is_further.true in
    not_further c.args.self own.spec.place (certificate_at c.args.self own.spec) further

pub keep_certificate-requires : goal.keep_certificate-requires
keep_certificate-requires g c = c.in_ok-specs.ensures.certifies c.in-Some.specs c.in-Some.is

pub returns-in-Some-clause-core : goal.returns-in-Some-clause-core
returns-in-Some-clause-core g c =
    c.keep_certificate.ensures.core
    ∙ ap (λ (found : Option (List (Signed Spec))). keep_certificate c.args.own.now.spec.place found c.args.self) (sym c.in-Some.is ∙ c.in_ok-specs.ensures.found)

pub returns-in-None-clause-core : goal.returns-in-None-clause-core
returns-in-None-clause-core g c =
    ap (λ (found : Option (List (Signed Spec))). keep_certificate c.args.own.now.spec.place found c.args.self) (sym c.in-None.is ∙ c.in_ok-specs.ensures.found)
