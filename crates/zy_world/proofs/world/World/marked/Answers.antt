use Rattle.std.proofs.Common.{sym, ap, ◌∙◌, subst}
use Rattle.zy_world.specs.Passed.{ArePast}
use Rattle.zy_world.specs.Shown.{Posted, Shown, with_replicas}
use Rattle.zy_world.specs.Shows.{Shows}
use Rattle.zy_world.proofs.Changes.{mail_is, past_delivered, shows_delivered}
use Rattle.zy_world.proofs.world.World.marked.Goals as goal

pub returns-clause-shows : goal.returns-clause-shows
returns-clause-shows g c w mail others s there =
    let i = subst (λ (v : Shown g.row.M-State.Denot). Shows w (with_replicas others v)) (sym c.self.view_is) s in
    shows_delivered w _ c.args.number mail _ i (sym (mail_is w c.args.number) ∙ there)
    (ap (λ (bag : Posted). bag.mails) c.deliver.ensures)
    (subst (λ (bag : Posted). ArePast (record c.self.inside.seats { replicas = others c.self.inside.seats.replicas }) c.self.inside.muted bag) (sym c.deliver.ensures) (past_delivered _ _ c.self.inside.bag c.args.number i.past))
