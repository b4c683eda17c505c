use Rattle.std.proofs.Common.{sym, subst}
use Rattle.std.specs.List.{AllByRecursion}
use Rattle.zy_table.specs.Sending.{CanBeSent}
use Rattle.zy_table.specs.declared.deeds.Sent.{Sent}
use Rattle.zy_replica_views.proofs.AskLemmas.{fetched_too}
use Rattle.zy_replica_views.proofs.waiting.send_to_each.Goals as goal

pub invariant_of-result : goal.invariant_of-result
invariant_of-result g c = record {
  frames = subst (AllByRecursion (λ (one : Sent). CanBeSent one.frame)) (sym c.in_ok-push_each.ensures) (fetched_too c.args.said.now c.requires c.progress.inside.deeds.sent c.args.asked.now c.progress.invariant.frames);
  acts = c.progress.invariant.acts;
}
