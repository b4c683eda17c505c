use Rattle.std.proofs.Common.{◌∙◌, ap, arith}
use Rattle.zy_exec.specs.Kept.{Kept}
use Rattle.zy_exec.specs.declared.install_fault.InstallFault.TheVariants.{NotState}
use Rattle.zy_replica_views.proofs.StateLemmas.{same_fault, shown_at, shows_none}
use Rattle.zy_replica_views.proofs.fetching.shown.Goals as goal

pub returns-in-Ok-clause-shown : goal.returns-in-Ok-clause-shown
returns-in-Ok-clause-shown g c =
    let M = g.M.Machine in
    let same = ap (λ (k : Kept g.row.M-State.Denot). k.interval) c.in_ok-exec.ensures ∙ c.interval-interval.ensures ∙ ap (λ (k : Kept g.row.M-State.Denot). k.interval) c.exec.ensures in
    shown_at M.IsState M.rules c.showing.ensures.spelled c.args.core.now.kept.interval _ c.args.told.now c.args.snapshot.now _ same c.in-Ok.ensures.ok

pub returns-in-Err-clause-not_state : goal.returns-in-Err-clause-not_state
returns-in-Err-clause-not_state g c = λ refused.
    let M = g.M.Machine in
    shows_none M.IsState M.rules c.showing.ensures.shown c.args.told.now.stable_place c.args.told.now.stable_head c.args.snapshot.now (λ i. omega (arith, c.type_inv.snapshot i)) (c.in-Err.ensures.not_state (same_fault c.in-Err.fault NotState refused))
