use Rattle.std.proofs.Common.{sym, subst}
use Rattle.zy_world.specs.Shown.{Shown}
use Rattle.zy_world.specs.Shows.{Shows}
use Rattle.zy_world.proofs.Lied.{all_there}
use Rattle.zy_world.proofs.world.World.are_parties.Goals as goal

pub returns : goal.returns
returns g c w s =
    let i = subst (λ (v : Shown g.row.M-State.Denot). Shows w v) (sym c.self.view_is) s in
    rw (c.are_seated.ensures, c.as_slice.ensures.value) (sym (all_there w _ i c.args.to.now))
