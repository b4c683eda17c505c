use Rattle.zy_law_steps.proofs.AtStart.{ready_at_start, texts_at_start, work_at_start, work_grown}
use Rattle.zy_law_steps.proofs.ties.works_begin.Goals as goal

pub returns : goal.returns
returns g c =
    let R = g.M.Machine.rules in
    record {
      ready = λ interval r w me counts keys sealer some spaced lawful start agrees correct me_is counts_are signer. ready_at_start R interval r w me counts keys sealer some spaced lawful start agrees correct me_is counts_are signer;
      start = λ interval r w me counts keys sealer start correct me_is counts_are. work_at_start R interval r w me counts keys sealer start correct me_is counts_are;
      world = λ interval texts w start agrees links. texts_at_start R interval texts w start agrees links;
      grows = λ interval r w s asked said past kept more told stood work. work_grown interval r w s asked said past kept more told stood work;
    }
