use Rattle.zy_world_law.proofs.HeldLaw.{HeldLaw}
use Rattle.zy_world_law.proofs.RunsSafe.{run_all, run_grows}
use Rattle.zy_world_law.proofs.SafeFromGood.{safe}
use Rattle.zy_world_law.proofs.StartGood.{start_good}
use Rattle.zy_world_law.proofs.StepLaws.{StepLaws}
use Rattle.zy_world_law.proofs.runs.runs_are_safe.Goals as goal
use Rattle.zy_world_law.specs.Good.{IsGood}
use Rattle.zy_world_law.specs.Safe.{IsSafe}
use Rattle.zy_world_law.specs.World.{start}

pub returns : goal.returns
returns g c =
    let R = g.M.Machine.rules in
    let promised = c.held_responses.ensures in
    let held : HeldLaw = record { starts = promised.starts; asks = promised.asks; steps = promised.steps; commits = promised.commits; completes = promised.completes } in
    let steps : StepLaws R =
    record {
      gained = λ interval r texts w s history event may. c.gained_entries.ensures interval r texts w s history event may.ready may.world may.works may.honest;
      lawful = λ interval r texts w s history event may gains. c.whole_steps.ensures.lawful interval r texts w s history event may.ready may.world may.works may.honest gains;
      spelled = λ interval r texts w s history event may gains spelled. (
        c.spelled_steps.ensures.says interval r texts w s history event may.ready may.world may.works may.honest gains spelled,
        c.spelled_steps.ensures.keeps interval r texts w s history event may.ready may.world may.works may.honest gains spelled,
      );
      back = c.said_back.ensures;
      state_blames = c.transfer_rows.ensures.blame;
      same_keys = c.same_keys.ensures.keys;
      spelled_first = c.spelled_start.ensures;
    } in
    record {
      safe = λ setup schedule is. run_all R held steps (IsSafe R) (safe R) (start R setup) (start_good R held steps setup is) schedule;
      good = λ setup schedule is. run_all R held steps (IsGood R) (λ w good. good) (start R setup) (start_good R held steps setup is) schedule;
      grows = λ setup schedule is. run_grows R held steps (start R setup) (start_good R held steps setup is) schedule;
    }
