use Rattle.std.proofs.Common.{◌≤◌, ◌∙◌, subst}
use Rattle.zy_table.specs.Deeds.{Going}
use Rattle.zy_replica.proofs.JudgedLemmas.{taken_is}
use Rattle.zy_seal.specs.Sealing.{signatures_by}
use Rattle.zy_replica.proofs.judging.taken.Goals as goal

pub returns : goal.returns
returns g c = λ s.
    let within = subst (λ (x : Going g.row.M-State.Denot). x.state.sealer.key.next ≤ signatures_by x.state.sealer.key.height) c.progress.view_is c.can_sign-can_sign.ensures.within in
    c.ends.ensures ∙ taken_is g.M.Machine.rules s c.args.progress c.requires within
