use Rattle.zy_replica_views.proofs.InstallLemmas.{installs}
use Rattle.zy_replica_views.proofs.ending_laws.installations.Goals as goal

pub returns : goal.returns
returns g c = λ s w provider point place bytes signer waits given fits shows can. installs g.M.Machine.rules s w provider point can place bytes signer waits given fits shows
