use Rattle.std.proofs.Common.{ℕ, List, sym, subst}
use Rattle.std.proofs.lemmas.Result.{err_from_is_err_and}
use Rattle.zy_base.specs.declared.ids.Party.{Party}
use Rattle.zy_node.specs.Told.{ComesTo}
use Rattle.zy_node.specs.Turn.{all_parcels, steps}
use Rattle.zy_node.proofs.SendLemmas.{nothing_sent, reached_with}
use Rattle.zy_node.proofs.host.Host.step.Goals as goal

pub returns-in_err-host-clause-comes : goal.returns-in_err-host-clause-comes
returns-in_err-host-clause-comes g c =
    let p = err_from_is_err_and c.from_residual.result c.from_residual.ensures.1 in
    rw (p.1, p.2) (nothing_sent (steps g.C.Core.rules c.args.event c.args.self).sent (g.L.Link.mail c.args.link.now))

pub returns-clause-comes : goal.returns-clause-comes
returns-clause-comes g c =
    let before = g.L.Link.mail c.args.link.now in
    let after = g.L.Link.mail c.send.new.link in
    let sent = subst (λ (out : List (Party × List ℕ)). ComesTo (reached_with c.in_ok-host.field-0.host (all_parcels out)) c.send.result before after) c.as_slice.ensures.value c.send.ensures.comes in
    subst (λ r. ComesTo r c.send.result before after) (sym c.in_ok-host.ensures.steps) sent
