use Rattle.std.proofs.Common.{◌≡◌, List, Option, subst, sym}
use Rattle.std.specs.Prelude.{IfOk}
use Rattle.std.specs.Option.{ForSome}
use Rattle.zy_parts.specs.declared.signed.Signed.{Signed}
use Rattle.zy_parts.specs.declared.statements.Spec.{Spec}
use Rattle.zy_cert.specs.Equal.{same_spec}
use Rattle.zy_check.specs.Votes.{only}
use Rattle.zy_table.specs.State.{State}
use Rattle.zy_table.specs.Gathering.{first_of, certificate_at}
use Rattle.zy_replica_state.specs.Ready.{IsOwnCertificate, IsOwnReady}
use Rattle.zy_replica_state.proofs.ReadyLemmas.{all_certify}
use Rattle.zy_replica_state.proofs.state.Core.certificate_at.Goals as goal

pub returns-clause-found : goal.returns-clause-found
returns-clause-found g c =
    let own = c.args.own.now in
    subst (λ (s : State g.row.M-State.Denot). IfOk c.first_of.result (λ (found : Option (List (Signed Spec))). found ≡ certificate_at s own.spec)) c.self.view_is
    (subst (λ (list : List (Signed Spec)). IfOk c.first_of.result (λ (found : Option (List (Signed Spec))). found ≡ first_of c.self.inside.counts.cert (only same_spec own.spec list)))
    c.specs-list.ensures.list c.first_of.ensures)

pub returns-clause-certifies : goal.returns-clause-certifies
returns-clause-certifies g c =
    let own = c.args.own.now in
    let here = subst (λ (s : State g.row.M-State.Denot). IsOwnReady s.kept s.views.last_view own) (sym c.self.view_is) c.requires in
    subst (λ (s : State g.row.M-State.Denot). IfOk c.first_of.result (λ (found : Option (List (Signed Spec))). ForSome found (IsOwnCertificate s own.spec.place))) c.self.view_is
    (all_certify _ c.self.invariant own c.first_of.result here
    (subst (λ (list : List (Signed Spec)). IfOk c.first_of.result (λ (found : Option (List (Signed Spec))). found ≡ first_of c.self.inside.counts.cert (only same_spec own.spec list)))
    c.specs-list.ensures.list c.first_of.ensures))
