use Rattle.std.proofs.Common.{sym, subst}
use Rattle.zy_world.specs.Shown.{Shown}
use Rattle.zy_world.specs.Shows.{Shows}
use Rattle.zy_world.proofs.Changes.{mail_there}
use Rattle.zy_world.proofs.world.World.mail.Goals as goal

pub returns : goal.returns
returns g c w s =
    let i = subst (λ (v : Shown g.row.M-State.Denot). Shows w v) (sym c.self.view_is) s in
    sym (mail_there w _ c.args.number _ i c.frame.ensures)
