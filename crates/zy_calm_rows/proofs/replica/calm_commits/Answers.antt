use Rattle.zy_calm_rows.proofs.CommitRow.{commit_calm, commit_row}
use Rattle.zy_calm_rows.proofs.replica.calm_commits.Goals as goal

pub returns : goal.returns
returns g c =
    let R = g.M.Machine.rules in
    record {
      row = λ p s a specs calm some inside place head view cert unsaid left. commit_row R p s calm a some inside place head specs view cert unsaid left;
      calm = λ p s a specs calm. commit_calm R p s calm a specs a.spec.client;
    }
