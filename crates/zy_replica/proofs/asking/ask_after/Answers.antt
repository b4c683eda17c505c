use Rattle.std.proofs.Common.{◌∙◌, ap}
use Rattle.zy_table.specs.Deeds.{Outcome, ends}
use Rattle.zy_replica.specs.Judging.{asked}
use Rattle.zy_replica.proofs.TimerLemmas.{going_asked}
use Rattle.zy_replica.proofs.asking.ask_after.Goals as goal

pub returns-in_ok-ask_for_hole-in-Taken : goal.returns-in_ok-ask_for_hole-in-Taken
returns-in_ok-ask_for_hole-in-Taken g c =
    c.ends.ensures
    ∙ ap (ends c.moved.inside.answer) c.in_ok-ask_for_hole-in-Taken.ensures
    ∙ going_asked c.moved.inside.answer c.moved.inside.progress c.in-Taken.is
    ∙ ap (λ (o : Outcome g.row.M-State.Denot). asked o) c.moved.view_is
