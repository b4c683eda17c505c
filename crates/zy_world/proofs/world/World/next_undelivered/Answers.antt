use Rattle.std.proofs.Common.{◌+◌, Some, sym, ap, ◌∙◌}
use Rattle.std.specs.Prelude.{option_map}
use Rattle.zy_world.specs.Shown.{Shown}
use Rattle.zy_world.specs.declared.world.World.TheInside.{Inside}
use Rattle.zy_world.proofs.Due.{next_is}
use Rattle.zy_world.proofs.world.World.next_undelivered.Goals as goal

pub returns-in-Some : goal.returns-in-Some
returns-in-Some g c w s =
    ap (λ (v : Inside g.row.M.Denot g.row.M-State.Denot). Some (v.bag.passed.idle + c.in-Some.ahead + 1)) c.self-inside.view_is
    ∙ ap (λ (v : Shown g.row.M-State.Denot). Some (v.bag.passed.idle + c.in-Some.ahead + 1)) c.self.view_is
    ∙ ap (option_map (λ ahead. c.args.self.now.bag.passed.idle + ahead + 1)) (sym c.in-Some.is)
    ∙ next_is w c.args.self.now s c.first_due.result c.first_due.ensures.within c.first_due.ensures.first

pub returns-in-None : goal.returns-in-None
returns-in-None g c w s =
    ap (option_map (λ ahead. c.args.self.now.bag.passed.idle + ahead + 1)) (sym c.in-None.is)
    ∙ next_is w c.args.self.now s c.first_due.result c.first_due.ensures.within c.first_due.ensures.first
