use Rattle.std.proofs.Common.{ap, subst}
use Rattle.zy_change.specs.Fit.{IsFit}
use Rattle.zy_table.specs.State.{State}
use Rattle.zy_replica_state.specs.Ready.{IsReady}
use Rattle.zy_replica_state.proofs.AdoptLemmas.{adopts, provided}
use Rattle.zy_replica_state.proofs.state.Core.provided.Goals as goal

pub told_in-requires : goal.told_in-requires
told_in-requires g c =
    let s = c.args.self.now in
    provided s.views.counts s.views.interval c.args.cert.now c.args.chosen.now c.requires.certified

pub returns-clause-can : goal.returns-clause-can
returns-clause-can g c =
    let ready = subst IsReady c.self.view_is c.self.invariant in
    let fit = subst IsFit (ap (λ (s : State g.row.M-State.Denot). s.views) c.self.view_is) c.view-own.ensures.fit in
    adopts g.M.Machine.rules c.args.self.now ready fit c.args.cert.now c.args.chosen.now c.requires.certified c.requires.later _ c.told_in.ensures c.requires.takes
