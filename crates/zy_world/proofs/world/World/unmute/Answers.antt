use Rattle.std.proofs.Common.{false, sym, subst}
use Rattle.zy_world.specs.Shown.{Shown}
use Rattle.zy_world.specs.Shows.{Shows}
use Rattle.zy_world.proofs.Changes.{shows_passed}
use Rattle.zy_world.proofs.Muting.{shows_muted}
use Rattle.zy_world.proofs.world.World.unmute.Goals as goal

pub returns : goal.returns
returns g c w s =
    let i = subst (λ (v : Shown g.row.M-State.Denot). Shows w v) (sym c.self.view_is) s in
    let looked = c.look_again.ensures.past c.self.inside.muted in
    shows_muted w _ c.args.party false (shows_passed w _ _ i c.look_again.ensures.mails (looked c.self.inside.muted i.past)) _ c.set.ensures (looked _ i.past)
