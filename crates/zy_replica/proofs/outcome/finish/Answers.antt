use Rattle.std.proofs.Common.{◌≡◌, ◌∙◌, ap}
use Rattle.zy_base.specs.declared.counts.Counts.{Counts}
use Rattle.zy_base.specs.declared.ids.ReplicaId.{ReplicaId}
use Rattle.zy_table.specs.Deeds.{Going, Outcome, outgoing_of}
use Rattle.zy_replica.proofs.outcome.finish.Goals as goal

pub returns-clause-out : goal.returns-clause-out
returns-clause-out g c =
    let core = c.progress.inside.core in
    let sent = c.progress.inside.deeds.sent in
    c.in_ok-out.ensures
    ∙ ap (λ (me : ReplicaId). outgoing_of me.0 c.counts.result.now.n sent) c.me-me.ensures
    ∙ ap (λ (counts : Counts). outgoing_of core.me.0 counts.n sent) c.counts.ensures
    ∙ ap (λ (g : Going g.row.M-State.Denot). outgoing_of g.state.me.0 g.state.counts.n g.deeds.sent) c.progress.view_is
    ∙ ap (λ (m : Outcome g.row.M-State.Denot). outgoing_of m.state.me.0 m.state.counts.n m.deeds.sent) c.moved.view_is
