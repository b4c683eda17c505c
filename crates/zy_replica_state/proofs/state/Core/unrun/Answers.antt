use Rattle.std.proofs.Common.{◌≡◌, sym, ◌∙◌, ap, subst}
use Rattle.zy_chain.specs.declared.entry.Entry.{Entry}
use Rattle.zy_exec.specs.Kept.{Kept, longer}
use Rattle.zy_change.specs.Fit.{IsTrueReport}
use Rattle.zy_table.specs.Leaving.{report_of}
use Rattle.zy_table.specs.State.{State}
use Rattle.zy_replica_state.proofs.ReadyLemmas.{ready_unrun, unrun_is}
use Rattle.zy_replica_state.proofs.state.Core.unrun.Goals as goal

pub invariant_of-self : goal.invariant_of-self
invariant_of-self g c =
    let true =
    subst (λ (s : State g.row.M-State.Denot). (k : Kept g.row.M-State.Denot) (e : Entry) → s.kept ≡ longer k e → IsTrueReport s.views (report_of (record s { kept = k }))) (sym c.self.view_is) c.requires in
    ready_unrun _ c.self.invariant _ c.unrun.result true c.unrun.ensures.some c.unrun.ensures.same

pub returns : goal.returns
returns g c k e is = unrun_is _ _ _ _ (c.unrun.ensures.back k e (ap (λ (s : State g.row.M-State.Denot). s.kept) c.self.view_is ∙ is)) c.self.view_is
