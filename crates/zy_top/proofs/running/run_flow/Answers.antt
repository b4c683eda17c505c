use Rattle.std.proofs.Common.{◌≡◌, Err, refl, ap, ◌∙◌, arith}
use Rattle.std.proofs.lemmas.Result.{err_from_is_err_and}
use Rattle.zy_world_law.specs.Events as events
use Rattle.zy_top.proofs.running.run_flow.Goals as goal

pub returns-in_ok-add_all-in-Ok-clause-run : goal.returns-in_ok-add_all-in-Ok-clause-run
returns-in_ok-add_all-in-Ok-clause-run g c whole shows =
    let f = c.in-Ok.ensures.flows whole shows in
    (f.0, (c.in-Ok.field-0.notes, f.2, f.1, c.in_ok-add_all-in-Ok.ensures.told))

pub returns-in_ok-add_all-in-Err-Forged-clause-run : goal.returns-in_ok-add_all-in-Err-Forged-clause-run
returns-in_ok-add_all-in-Err-Forged-clause-run g c whole shows =
    let notes = c.in-Err-Forged.notes in
    let by = c.in-Err-Forged.field-0-1 in (
      notes,
      (
        events.Broken.Forged by,
        refl,
        c.flow.ensures.forged whole notes by shows (c.in-Err-Forged.is ∙ ap Err c.in-Err-Forged.field-0-is),
        c.in_ok-add_all-in-Err-Forged.ensures.told,
      ),
    )

pub returns-in_ok-add_all-in-Err-Clash-clause-run : goal.returns-in_ok-add_all-in-Err-Clash-clause-run
returns-in_ok-add_all-in-Err-Clash-clause-run g c whole shows =
    let notes = c.in-Err-Clash.notes in
    let digest = c.in-Err-Clash.field-0-1 in (
      notes,
      (
        events.Broken.Clash digest,
        refl,
        c.flow.ensures.clash whole notes digest shows (c.in-Err-Clash.is ∙ ap Err c.in-Err-Clash.field-0-is),
        c.in_ok-add_all-in-Err-Clash.ensures.told,
      ),
    )

pub returns-in_err-add_all-in-Ok-clause-run : goal.returns-in_err-add_all-in-Ok-clause-run
returns-in_err-add_all-in-Ok-clause-run g c whole shows =
    let p = err_from_is_err_and c.from_residual.result c.from_residual.ensures.1 in
    rw (p.1, p.2) tt

pub returns-in_err-add_all-in-Err-Forged-clause-run : goal.returns-in_err-add_all-in-Err-Forged-clause-run
returns-in_err-add_all-in-Err-Forged-clause-run g c whole shows =
    let p = err_from_is_err_and c.from_residual-in_err-add_all-in-Err-Forged.result c.from_residual-in_err-add_all-in-Err-Forged.ensures.1 in
    rw (p.1, p.2) tt

pub returns-in_err-add_all-in-Err-Clash-clause-run : goal.returns-in_err-add_all-in-Err-Clash-clause-run
returns-in_err-add_all-in-Err-Clash-clause-run g c whole shows =
    let p = err_from_is_err_and c.from_residual-in_err-add_all-in-Err-Clash.result c.from_residual-in_err-add_all-in-Err-Clash.ensures.1 in
    rw (p.1, p.2) tt
