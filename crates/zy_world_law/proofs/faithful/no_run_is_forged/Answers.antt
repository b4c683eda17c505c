use Rattle.zy_world_law.proofs.HeldLaw.{HeldLaw}
use Rattle.zy_world_law.proofs.FaithfulRuns.{run_fair, start_faithful}
use Rattle.zy_world_law.proofs.PassLaws.{PassLaws}
use Rattle.zy_world_law.proofs.StartGood.{start_good}
use Rattle.zy_world_law.proofs.StepLaws.{StepLaws}
use Rattle.zy_world_law.proofs.faithful.no_run_is_forged.Goals as goal
use Rattle.zy_world_law.specs.World.{start}

pub returns : goal.returns
returns g c =
    let R = g.M.Machine.rules in
    let promised = c.held_responses.ensures in
    let held : HeldLaw = record { starts = promised.starts; asks = promised.asks; steps = promised.steps; commits = promised.commits; completes = promised.completes } in
    let steps : StepLaws R =
    record {
      gained = λ interval r texts w s history event may. c.gained_entries.ensures interval r texts w s history event may.ready may.world may.works may.honest;
      lawful = λ interval r texts w s history event may gains. c.whole_steps.ensures.lawful interval r texts w s history event may.ready may.world may.works may.honest gains;
      spelled = λ interval r texts w s history event may gains spelled. (
        c.spelled_steps.ensures.says interval r texts w s history event may.ready may.world may.works may.honest gains spelled,
        c.spelled_steps.ensures.keeps interval r texts w s history event may.ready may.world may.works may.honest gains spelled,
      );
      back = c.said_back.ensures;
      state_blames = c.transfer_rows.ensures.blame;
      same_keys = c.same_keys.ensures.keys;
      spelled_first = c.spelled_start.ensures;
    } in
    let pass : PassLaws g.M.Machine.IsState R =
    record {
      start = c.replicas_pass_on.ensures.start;
      keeps = c.replicas_pass_on.ensures.keeps;
      sends = c.replicas_pass_on.ensures.sends;
      me = c.same_keys.ensures.me;
      client_start = c.clients_pass_on.ensures.start;
      keeps_asked = c.clients_pass_on.ensures.keeps_asked;
      sends_asked = c.clients_pass_on.ensures.sends_asked;
      client_keeps = c.clients_pass_on.ensures.keeps;
      client_sends = c.clients_pass_on.ensures.sends;
      plain_parts = c.statements_are_parts.ensures.plain;
      view_parts = c.statements_are_parts.ensures.view;
    } in
    record {
      unforged = λ setup schedule is quiet. (run_fair R g.M.Machine.IsState held steps pass schedule quiet (start R setup) (start_good R held steps setup is) (start_faithful R g.M.Machine.IsState held steps pass setup is)).0;
      faithful = λ setup schedule is quiet.
          let first = start_faithful R g.M.Machine.IsState held steps pass setup is in
          (first, (run_fair R g.M.Machine.IsState held steps pass schedule quiet (start R setup) (start_good R held steps setup is) first).1);
    }
