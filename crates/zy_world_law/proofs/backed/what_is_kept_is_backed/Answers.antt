use Rattle.zy_world_law.proofs.BackedRuns.{run_backed}
use Rattle.zy_world_law.proofs.HeldLaw.{HeldLaw}
use Rattle.zy_world_law.proofs.PassLaws.{KeepLaws}
use Rattle.zy_world_law.proofs.StartGood.{start_good}
use Rattle.zy_world_law.proofs.StepLaws.{StepLaws}
use Rattle.zy_world_law.proofs.backed.what_is_kept_is_backed.Goals as goal

pub returns : goal.returns
returns g c =
    let R = g.M.Machine.rules in
    let promised = c.held_responses.ensures in
    let held : HeldLaw = record { starts = promised.starts; asks = promised.asks; steps = promised.steps; commits = promised.commits; completes = promised.completes } in
    let steps : StepLaws R =
    record {
      gained = λ interval r texts w s history event may. c.gained_entries.ensures interval r texts w s history event may.ready may.world may.works may.honest;
      lawful = λ interval r texts w s history event may gains. c.whole_steps.ensures.lawful interval r texts w s history event may.ready may.world may.works may.honest gains;
      spelled = λ interval r texts w s history event may gains spelled. (
        c.spelled_steps.ensures.says interval r texts w s history event may.ready may.world may.works may.honest gains spelled,
        c.spelled_steps.ensures.keeps interval r texts w s history event may.ready may.world may.works may.honest gains spelled,
      );
      back = c.said_back.ensures;
      state_blames = c.transfer_rows.ensures.blame;
      same_keys = c.same_keys.ensures.keys;
      spelled_first = c.spelled_start.ensures;
    } in
    let keep : KeepLaws g.M.Machine.IsState R =
    record {
      start = c.replicas_keep_what_was_said.ensures.start;
      keeps = c.replicas_keep_what_was_said.ensures.keeps;
      me = c.same_keys.ensures.me;
      client_start = c.clients_keep_what_was_said.ensures.start;
      keeps_asked = c.clients_keep_what_was_said.ensures.keeps_asked;
      client_keeps = c.clients_keep_what_was_said.ensures.keeps;
    } in
    λ setup schedule is. run_backed R g.M.Machine.IsState held steps keep setup is (start_good R held steps setup is) schedule
