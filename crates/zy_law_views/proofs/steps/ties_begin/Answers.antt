use Rattle.zy_law_views.proofs.TieKept.{tied_at_start}
use Rattle.zy_law_views.proofs.TiedGrown.{tied_more}
use Rattle.zy_law_views.proofs.steps.ties_begin.Goals as goal

pub returns : goal.returns
returns g c =
    let R = g.M.Machine.rules in
    record {
      start = tied_at_start R;
      grows = λ interval r w c history asked said past kept more told stood tied. tied_more w asked said past kept more.asks more.says more.stands more.keeps R interval r c history told stood tied;
    }
