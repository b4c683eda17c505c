use Rattle.std.proofs.Common.{◌≡◌, IfOk, refl, sym, ◌∙◌, subst}
use Rattle.zy_table.specs.Deeds.{Outcome}
use Rattle.zy_replica_views.proofs.StateLemmas.{state_refused}
use Rattle.zy_replica_views.proofs.fetching.state_transfer.Goals as goal

pub returns-in-Some : goal.returns-in-Some
returns-in-Some g c =
    let same = state_refused g.M.Machine.rules c.args.core c.args.place c.args.snapshot c.in-Some.cause (sym c.state_cause.ensures ∙ c.in-Some.is) in
    subst (λ (o : Outcome g.row.M-State.Denot). IfOk c.not_heard.result (λ (m : Outcome g.row.M-State.Denot). m ≡ o)) (sym same) c.not_heard.ensures

pub returns-in-None : goal.returns-in-None
returns-in-None g c = c.show.ensures c.args.place c.args.snapshot refl (sym c.state_cause.ensures ∙ c.in-None.is)
