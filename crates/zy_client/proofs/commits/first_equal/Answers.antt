use Rattle.std.proofs.Common.{◌++◌, take, option_to_list, ap, ◌∙◌}
use Rattle.zy_table.specs.ClientRows.{equal_in}
use Rattle.zy_client.proofs.CertificateLemmas.{next_taken}
use Rattle.zy_client.proofs.commits.first_equal.Goals as goal

pub loop-slot-preserved : goal.loop-slot-preserved
loop-slot-preserved c =
    next_taken c.args.count (equal_in c.args.spec.now) c.args.responses.now c.loop-slot.slot-index c.slot-item.result _ _ c.loop-slot-test.true c.slot-item.is c.loop-slot.invariant
    (c.in_ok-push_up_to.ensures ∙ ap (λ o. take c.args.count (c.loop-slot.list ++ option_to_list o)) c.equal_in.ensures)
