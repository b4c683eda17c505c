use Rattle.std.proofs.Common.{sym, ◌∙◌, ap}
use Rattle.zy_table.specs.Deeds.{Going}
use Rattle.zy_table.specs.Running.{fits_end}
use Rattle.zy_replica_normal.proofs.HeldLemmas.{held_drops, drops_last, held_waits, held_runs, fewer_slots}
use Rattle.zy_replica_normal.proofs.running.run_if_fits.Goals as goal

pub returns-then-not-fits_end-clause-goes_on : goal.returns-then-not-fits_end-clause-goes_on
returns-then-not-fits_end-clause-goes_on g c =
    let here = ap (λ (x : Going g.row.M-State.Denot). fits_end g.M.Machine.rules x.state c.args.held.now) (sym c.progress.view_is) in
    rw c.drop_next.ensures
    (drops_last g.M.Machine.rules c.args.progress c.requires.base c.args.held.now c.requires.stored
    ∙ held_drops g.M.Machine.rules c.args.progress c.requires.base c.args.held.now c.requires.stored (here ∙ sym c.fits_end.ensures ∙ c.if-not-fits_end.true))

pub returns-then-not-fits_end-clause-ended : goal.returns-then-not-fits_end-clause-ended
returns-then-not-fits_end-clause-ended g c ended =
    rw c.drop_next.ensures (drops_last g.M.Machine.rules c.args.progress c.requires.base c.args.held.now c.requires.stored)

pub returns-then-not-can_run-clause-ended : goal.returns-then-not-can_run-clause-ended
returns-then-not-can_run-clause-ended g c ended =
    let here = ap (λ (x : Going g.row.M-State.Denot). fits_end g.M.Machine.rules x.state c.args.held.now) (sym c.progress.view_is) in
    rw c.in_ok-progress.ensures.progress
    (held_waits g.M.Machine.rules c.args.progress c.requires.base c.args.held.now c.requires.stored (here ∙ sym c.fits_end.ensures ∙ c.if-not-fits_end.false)
    (sym c.in_ok-progress.ensures.fits ∙ c.if-not-can_run.true))

pub returns-clause-goes_on : goal.returns-clause-goes_on
returns-clause-goes_on g c =
    let here = ap (λ (x : Going g.row.M-State.Denot). fits_end g.M.Machine.rules x.state c.args.held.now) (sym c.progress.view_is) in
    rw (c.in_ok-run_one.ensures.progress, c.in_ok-progress.ensures.progress)
    (sym
    (held_runs g.M.Machine.rules c.args.progress c.requires.base c.args.held.now c.requires.stored (here ∙ sym c.fits_end.ensures ∙ c.if-not-fits_end.false)
    (sym c.in_ok-progress.ensures.fits ∙ c.if-not-can_run.false)))

pub returns-clause-fewer : goal.returns-clause-fewer
returns-clause-fewer g c =
    rw (c.in_ok-run_one.ensures.progress, c.in_ok-progress.ensures.progress)
    (fewer_slots g.M.Machine.rules c.args.progress c.requires.base c.args.held.now c.requires.stored)
