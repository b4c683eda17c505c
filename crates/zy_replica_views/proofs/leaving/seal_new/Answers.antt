use Rattle.zy_replica_views.proofs.CarryLemmas.{enough_there, reports_given, new_sends}
use Rattle.zy_replica_views.proofs.leaving.seal_new.Goals as goal

pub gathered-requires : goal.gathered-requires
gathered-requires g c = record { enough = enough_there c.args.core.views c.views.result.now c.args.view.0 c.views.ensures.views c.requires.gathers }

pub returns-clause-reports : goal.returns-clause-reports
returns-clause-reports g c = reports_given c.args.core.views c.views.result.now c.args.view c.in_ok-new.new c.in_ok-core.signed c.args.core.sealer c.views.ensures.views c.in_ok-core.ensures.value c.in_ok-new.ensures.reports

pub returns-clause-sends : goal.returns-clause-sends
returns-clause-sends g c =
    new_sends c.args.core.views c.views.result.now c.args.view c.in_ok-new.new c.in_ok-core.signed c.args.core.sealer c.view_of-own.ensures.fit c.requires.gathers c.views.ensures.views c.in_ok-new.ensures.new c.in_ok-new.ensures.in_range
    c.in_ok-core.ensures.value c.in_ok-core.ensures.short
