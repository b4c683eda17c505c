use Rattle.std.proofs.Common.{sym, ap, ◌∙◌, subst}
use Rattle.zy_world.specs.Passed.{ArePast}
use Rattle.zy_world.specs.Shown.{Posted, Shown}
use Rattle.zy_world.specs.Shows.{Shows}
use Rattle.zy_world.proofs.Changes.{past_dropped, shows_dropped}
use Rattle.zy_world.proofs.world.World.drop_frame.Goals as goal

pub returns : goal.returns
returns g c w s =
    let i = subst (λ (v : Shown g.row.M-State.Denot). Shows w v) (sym c.self.view_is) s in
    shows_dropped w _ c.args.frame _ i
    (c.pass.ensures.mails ∙ ap (λ (bag : Posted). bag.mails) c.drop_frame.ensures)
    (c.pass.ensures.past (subst (λ (bag : Posted). ArePast c.self.inside.seats c.self.inside.muted bag) (sym c.drop_frame.ensures) (past_dropped _ _ c.self.inside.bag c.args.frame i.past)))
