use Rattle.std.proofs.Common.{sym, subst}
use Rattle.zy_world.specs.Shown.{Shown}
use Rattle.zy_world.specs.Shows.{Shows}
use Rattle.zy_world.proofs.Changes.{shows_passed}
use Rattle.zy_world.proofs.world.World.passed.Goals as goal

pub returns : goal.returns
returns g c w s =
    let i = subst (λ (v : Shown g.row.M-State.Denot). Shows w v) (sym c.self.view_is) s in
    shows_passed w _ _ i c.pass.ensures.mails (c.pass.ensures.past i.past)
