use Rattle.std.proofs.Common.{true, sym, subst}
use Rattle.zy_world.specs.Passed.{ArePast}
use Rattle.zy_world.specs.Shown.{Mutes, Shown}
use Rattle.zy_world.specs.Shows.{Shows}
use Rattle.zy_world.proofs.Muting.{shows_muted, still_past}
use Rattle.zy_world.proofs.world.World.mute.Goals as goal

pub returns : goal.returns
returns g c w s =
    let i = subst (λ (v : Shown g.row.M-State.Denot). Shows w v) (sym c.self.view_is) s in
    shows_muted w _ c.args.party true i _ c.set.ensures
    (subst (λ (m : Mutes). ArePast c.self.inside.seats m c.self.inside.bag) (sym c.set.ensures) (still_past w _ c.args.party i))
