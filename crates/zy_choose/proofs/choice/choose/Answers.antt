use Rattle.zy_choose.specs.Choice.{last_in}
use Rattle.zy_choose.proofs.AnchorLemmas.{some_proven, IsOne-anchor, IsOne-only, IsTwo-clash}
use Rattle.zy_choose.proofs.choice.choose.Goals as goal

pub unreachable-requires : goal.unreachable-requires
unreachable-requires c = some_proven c.greatest_view-view.result.0 c.args.reports.now c.greatest_view-view.ensures.told c.in-Nothing.ensures

pub chosen-requires-clause-anchored : goal.chosen-requires-clause-anchored
chosen-requires-clause-anchored c = IsOne-anchor c.in-One.place.0 c.in-One.head (last_in c.greatest_view-view.result.0 c.args.reports.now) c.in-One.ensures

pub chosen-requires-clause-only : goal.chosen-requires-clause-only
chosen-requires-clause-only c = IsOne-only c.in-One.place.0 c.in-One.head (last_in c.greatest_view-view.result.0 c.args.reports.now) c.in-One.ensures

pub returns-in-Two : goal.returns-in-Two
returns-in-Two c = IsTwo-clash c.greatest_view-view.result.0 c.in-Two.field-0.0 c.in-Two.first c.in-Two.second c.args.reports.now c.greatest_view-view.ensures c.in-Two.ensures
