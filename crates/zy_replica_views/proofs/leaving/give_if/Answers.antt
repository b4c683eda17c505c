use Rattle.zy_replica_views.proofs.leaving.give_if.Goals as goal

pub give-requires-clause-chosen : goal.give-requires-clause-chosen
give-requires-clause-chosen g c = c.requires.chosen c.in-Some-Some.view c.in-Some-Some.is-0 c.in-Some-Some.chosen c.in-Some-Some.is-1
