use Rattle.zy_world_law.proofs.EachEvent.{event_good}
use Rattle.zy_world_law.proofs.HeldLaw.{HeldLaw}
use Rattle.zy_world_law.proofs.SafeFromGood as safety
use Rattle.zy_world_law.proofs.StartGood.{start_good}
use Rattle.zy_world_law.proofs.StepLaws.{StepLaws}
use Rattle.zy_world_law.proofs.honest.honest_keeps.Goals as goal

pub returns : goal.returns
returns g c =
    let R = g.M.Machine.rules in
    let promised = c.held_responses.ensures in
    let held : HeldLaw = record { starts = promised.starts; asks = promised.asks; steps = promised.steps; commits = promised.commits; completes = promised.completes } in
    let steps : StepLaws R =
    record {
      gained = λ interval r texts w s history event may. c.gained_entries.ensures interval r texts w s history event may.ready may.world may.works may.honest;
      lawful = λ interval r texts w s history event may gains. c.whole_steps.ensures.lawful interval r texts w s history event may.ready may.world may.works may.honest gains;
      spelled = λ interval r texts w s history event may gains spelled. (
        c.spelled_steps.ensures.says interval r texts w s history event may.ready may.world may.works may.honest gains spelled,
        c.spelled_steps.ensures.keeps interval r texts w s history event may.ready may.world may.works may.honest gains spelled,
      );
      back = c.said_back.ensures;
      state_blames = c.transfer_rows.ensures.blame;
      same_keys = c.same_keys.ensures.keys;
      spelled_first = c.spelled_start.ensures;
    } in
    record {
      start = start_good R held steps;
      keeps = λ w v event note good is. (event_good R held steps w good event v note is).good;
      safe = safety.safe R;
      grows = λ w v event note good is. safety.grows R w v (event_good R held steps w good event v note is);
    }
