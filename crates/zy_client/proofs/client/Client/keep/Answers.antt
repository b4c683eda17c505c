use Rattle.std.proofs.Common.{◌≡◌, IfOk, subst}
use Rattle.zy_table.specs.ClientState.{ClientOutcome}
use Rattle.zy_client.specs.Ready.{IsReady}
use Rattle.zy_client.proofs.EvidenceLemmas.{evidence_fits, kept_by_way}
use Rattle.zy_client.proofs.client.Client.keep.Goals as goal

pub tells-requires : goal.tells-requires
tells-requires c = rw c.in_ok-evidence.ensures (evidence_fits _ c.args.response.order (subst IsReady c.self.view_is c.self.invariant) c.requires.order)

pub returns : goal.returns
returns c =
    subst (λ (o : ClientOutcome). IfOk c.tells.result (λ m. m ≡ o))
    (kept_by_way c.args.self c.vacate.new.self c.in_ok-fill.field-0 c.args.id.0 c.args.response c.in_ok-evidence.evidence c.vacate.ensures c.in_ok-evidence.ensures c.in_ok-fill.ensures)
    c.tells.ensures
