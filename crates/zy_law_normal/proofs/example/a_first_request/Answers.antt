use Rattle.zy_law_normal.proofs.FirstRequest.{first_request}
use Rattle.zy_law_normal.proofs.example.a_first_request.Goals as goal

pub returns : goal.returns
returns g c = first_request g.M.Machine.rules
