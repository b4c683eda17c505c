use Rattle.std.proofs.Common.{refl, sym, subst}
use Rattle.zy_table.specs.Sending.{copies}
use Rattle.zy_world.specs.Shown.{Shown}
use Rattle.zy_world.specs.Shows.{Shows}
use Rattle.zy_world_law.specs.World.{with_sent}
use Rattle.zy_world.proofs.Changes.{shows_sent}
use Rattle.zy_world.proofs.world.World.sends.Goals as goal

pub returns : goal.returns
returns g c w s =
    let i = subst (λ (v : Shown g.row.M-State.Denot). Shows w v) (sym c.self.view_is) s in
    let sent = copies c.args.bytes.now c.args.to.now in
    rw (c.noted.ensures.world, c.noted.ensures.note)
    (record { world = with_sent w sent; goes = refl; shows = shows_sent w _ sent c.send_copies.new.self i c.in_ok-send_copies.ensures.within c.in_ok-send_copies.ensures.sent })
