use Rattle.std.proofs.Common.{◌≡◌, IfOk, subst}
use Rattle.zy_parts.specs.declared.reports.Told.{Told}
use Rattle.zy_change.specs.Owing.{Pens}
use Rattle.zy_change.specs.Views.{Views}
use Rattle.zy_change.specs.declared.owed.Owed.{Owed}
use Rattle.zy_change.specs.Confirming.{new_view_owes}
use Rattle.zy_replica_views.proofs.NewViewLemmas.{for_all}
use Rattle.zy_replica_views.proofs.confirming.owed_by_new.Goals as goal

pub returns-clause-owed : goal.returns-clause-owed
returns-clause-owed g c =
    for_all (λ (o : Owed) (told : Told) (pens : Pens). o ≡ new_view_owes c.args.core.now.views c.args.new.now told pens) c.new_view.result
    (λ told pens. subst (λ (v : Views). IfOk c.new_view.result (λ (o : Owed). o ≡ new_view_owes v c.args.new.now told pens)) c.views.ensures.views (c.new_view.ensures.owed told pens))
