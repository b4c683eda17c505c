use Rattle.zy_law_steps.proofs.NormalSteps.{order_refused, row_refused}
use Rattle.zy_law_steps.proofs.frames.leaving_refuses.Goals as goal

pub returns : goal.returns
returns g c =
    let R = g.M.Machine.rules in
    record { normal = λ s frame leaving normal. row_refused R s leaving frame normal; orders = λ s both leaving. order_refused R s leaving both }
