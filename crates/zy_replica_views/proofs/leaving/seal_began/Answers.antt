use Rattle.std.proofs.Common.{◌∙◌, ap}
use Rattle.zy_parts.specs.Numbers as numbers
use Rattle.zy_parts.specs.Reports.{began_fields}
use Rattle.zy_parts.specs.declared.reports.Began.{Began}
use Rattle.zy_seal.specs.Sealing.{sealed_by}
use Rattle.zy_replica_views.proofs.CarryLemmas.{own_began}
use Rattle.zy_replica_views.proofs.leaving.seal_began.Goals as goal

pub returns-clause-own : goal.returns-clause-own
returns-clause-own g c =
    let value = c.in_ok-core.ensures.value ∙ ap (λ (b : Began). sealed_by numbers.began began_fields c.args.core.sealer b) c.began_for.ensures in
    own_began c.args.core c.args.accepted.now c.in_ok-core.signed c.view_of-own.ensures.ready c.requires.accepted c.requires.place value c.in_ok-core.ensures.short
