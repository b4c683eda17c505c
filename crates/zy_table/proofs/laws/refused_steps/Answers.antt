use Rattle.zy_table.proofs.ClientRefusals as client
use Rattle.zy_table.proofs.Refusals as replica
use Rattle.zy_table.proofs.laws.refused_steps.Goals as goal

pub returns : goal.returns
returns g c = record { replica = replica.step_stays g.M.Machine.rules; client = client.step_stays; asks = client.ask_stays }
