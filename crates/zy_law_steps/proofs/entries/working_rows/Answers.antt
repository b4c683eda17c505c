use Rattle.std.proofs.Common.{ap}
use Rattle.zy_table.specs.State.{is_leaving_mode}
use Rattle.zy_law_steps.proofs.NormalSteps.{confirm_lawful, request_lawful}
use Rattle.zy_law_steps.proofs.WholeSteps.{order_fine}
use Rattle.zy_law_steps.proofs.entries.working_rows.Goals as goal

pub returns : goal.returns
returns g c =
    let R = g.M.Machine.rules in
    record {
      request = λ interval r texts w s history view ask ready kept work active may gains. request_lawful R interval texts w r s history ready kept work view active ask may gains;
      passed_on = λ interval r texts w s history view confirmed ask ready kept work active may gains. confirm_lawful R interval texts w r s history ready kept work view active confirmed ask may gains;
      order = λ interval r texts w s history view both ready kept work active may held gains. order_fine R interval texts w r s history ready kept work both (may, held) (ap is_leaving_mode active) gains;
    }
