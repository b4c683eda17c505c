use Rattle.std.proofs.Common.{◌∙◌, ap}
use Rattle.zy_table.specs.State.{State}
use Rattle.zy_replica_state.proofs.state.Core.hole.Goals as goal

pub returns-clause-range : goal.returns-clause-range
returns-clause-range g c x is = c.self.invariant.hole x (ap (λ (s : State g.row.M-State.Denot). s.hole) c.self.view_is ∙ is)
