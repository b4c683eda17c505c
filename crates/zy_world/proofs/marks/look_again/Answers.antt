use Rattle.std.proofs.Common.{sym, subst}
use Rattle.zy_world.specs.Passed.{ArePast}
use Rattle.zy_world.specs.Shown.{Posted}
use Rattle.zy_world.proofs.Changes.{all_looked}
use Rattle.zy_world.proofs.marks.look_again.Goals as goal

pub returns-clause-past : goal.returns-clause-past
returns-clause-past g c mutes others past =
    all_looked c.args.seats.now mutes others c.bag.inside.mails.items c.bag.inside.passed.past c.bag.inside.passed.idle
    (subst (λ (bag : Posted). ArePast c.args.seats.now mutes bag) (sym c.bag.view_is) (c.pass_past.ensures.past mutes past))
