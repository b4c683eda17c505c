use Rattle.zy_replica_views.proofs.judging.judge_end.Goals as goal

pub judge_adoption-requires : goal.judge_adoption-requires
judge_adoption-requires g c = (c.requires c.in-Some.adoption c.in-Some.is).report.in_range
