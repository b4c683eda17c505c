use Rattle.std.proofs.Common.{refl}
use Rattle.zy_choose.specs.Choice.IsPicked.{agreed, anchored}
use Rattle.zy_choose.proofs.choice.pick.Goals as goal

pub returns-in-Some : goal.returns-in-Some
returns-in-Some c = agreed c.in-Some.ensures.agreed c.in-Some.ensures.furthest

pub returns-in-None : goal.returns-in-None
returns-in-None c = anchored c.in-None.ensures.none refl
