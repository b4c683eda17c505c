use Rattle.std.proofs.Common.{sym, subst}
use Rattle.zy_world.specs.Shown.{Shown, with_replicas}
use Rattle.zy_world.specs.Stepping.{HasClientStepped}
use Rattle.zy_world.proofs.Gone.{client_gone}
use Rattle.zy_world.proofs.world.World.client_stepped.Goals as goal

pub returns-clause-goes : goal.returns-clause-goes
returns-clause-goes g c w x o others has =
    let i = subst (λ (v : Shown g.row.M-State.Denot). HasClientStepped w c.args.id x o c.args.step (with_replicas others v)) (sym c.self.view_is) has in
    rw (c.answered.ensures.world, c.answered.ensures.note, c.noted.ensures.world, c.noted.ensures.note)
    (client_gone w c.args.id x o c.args.step _ i _ _ _ _ c.in_ok-add.ensures c.in_ok-send.ensures.within c.in_ok-send.ensures.sent c.complete.ensures c.client_note.ensures)
