use Rattle.std.proofs.Common.{◌∙◌, ap}
use Rattle.zy_table.specs.Deeds.{Going}
use Rattle.zy_table.specs.State.{State}
use Rattle.zy_table.specs.Hates.{with_hate_of}
use Rattle.zy_replica.proofs.hates.count_hate.Goals as goal

pub returns : goal.returns
returns g c =
    ap (λ (s : State g.row.M-State.Denot). record { state = s; deeds = c.progress.inside.deeds }) c.keep_vote.ensures
    ∙ ap (λ (x : Going g.row.M-State.Denot). with_hate_of c.args.vote.by x) c.progress.view_is
