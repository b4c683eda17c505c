use Rattle.std.proofs.Common.{[], Err, sym, ap, subst}
use Rattle.std.proofs.lemmas.Result.{err_from_is_err_and}
use Rattle.zy_world.specs.Shown.{Shown, with_replicas}
use Rattle.zy_world.specs.Stepping.{HasReplicaStepped}
use Rattle.zy_world_law.specs.Events.{replica_goes}
use Rattle.zy_world.proofs.Gone.{replica_gone, replica_clashes, broken_by_text}
use Rattle.zy_world.proofs.world.World.replica_stepped.Goals as goal

pub returns-clause-goes : goal.returns-clause-goes
returns-clause-goes g c w x event o others has =
    let i = subst (λ (v : Shown g.row.M-State.Denot). HasReplicaStepped w c.args.id x o c.args.step (with_replicas others v)) (sym c.self.view_is) has in
    rw (c.answered.ensures.world, c.answered.ensures.note, c.noted.ensures.world, c.noted.ensures.note)
    (replica_gone w c.args.id x event o c.args.step _ i _ _ _ _ c.in_ok-keep_step.ensures.keeps c.in_ok-add.ensures c.in_ok-send.ensures.within c.in_ok-send.ensures.sent c.replica_note-note.ensures)

pub returns-in_err-keep_step-clause-broken : goal.returns-in_err-keep_step-clause-broken
returns-in_err-keep_step-clause-broken g c w x event o others has =
    let i = subst (λ (v : Shown g.row.M-State.Denot). HasReplicaStepped w c.args.id x o c.args.step (with_replicas others v)) (sym c.self.view_is) has in
    let p = err_from_is_err_and c.from_residual.result c.from_residual.ensures.1 in
    rw (p.1, p.2) (broken_by_text (replica_goes w c.args.id x [] event o) c.in_err-keep_step.field-0.0 (λ d is. replica_clashes w c.args.id x event o c.args.step _ i d (c.in_err-keep_step.ensures.clash d (ap Err is))))

pub returns-in_err-add-clause-broken : goal.returns-in_err-add-clause-broken
returns-in_err-add-clause-broken g c w x event o others has =
    let p = err_from_is_err_and c.from_residual-in_err-add.result c.from_residual-in_err-add.ensures.1 in
    rw (p.1, p.2) tt

pub returns-in_err-send-clause-broken : goal.returns-in_err-send-clause-broken
returns-in_err-send-clause-broken g c w x event o others has =
    let p = err_from_is_err_and c.from_residual-in_err-send.result c.from_residual-in_err-send.ensures.1 in
    rw (p.1, p.2) tt
