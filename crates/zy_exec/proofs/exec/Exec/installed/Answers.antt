use Rattle.std.proofs.Common.{arith}
use Rattle.std.proofs.lemmas.Result.{err_from_is_err_and}
use Rattle.zy_exec.specs.declared.install_fault.InstallFault.TheVariants.{NotState}
use Rattle.zy_exec.proofs.ShotLemmas.{kept_new}
use Rattle.zy_exec.proofs.SnapshotLemmas.{same_fault}
use Rattle.zy_exec.proofs.exec.Exec.installed.Goals as goal

pub invariant_of-result : goal.invariant_of-result
invariant_of-result g c =
    let M = g.M.Machine in
    let track = c.in_ok-track.track in
    let is = c.in_ok-track.ensures.ok in
    kept_new M.rules track c.in_ok-shot.field-0 c.in_ok-shots.shots.items is.nothing_above
    (omega (arith, is.interval_is, c.requires.least)) (omega (arith, is.interval_is, c.requires.most)) c.in_ok-shot.ensures.shot c.in_ok-shot.ensures.short c.in_ok-shots.ensures

pub returns-in_err-track-clause-not_state : goal.returns-in_err-track-clause-not_state
returns-in_err-track-clause-not_state g c =
    let p = err_from_is_err_and c.from_residual.result c.from_residual.ensures.1 in
    rw (p.1, p.2) (λ refused. c.in_err-track.ensures.not_state (same_fault c.in_err-track.field-0.0 NotState refused))
