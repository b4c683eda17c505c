use Rattle.std.proofs.Common.{sym, ◌∙◌, refl}
use Rattle.zy_replica_normal.proofs.HeldLemmas.{less_to_do}
use Rattle.zy_replica_normal.proofs.running.run_held.Goals as goal

pub loop-more-init : goal.loop-more-init
loop-more-init g c = (refl, c.requires, λ never. cc)

pub loop-more-smaller : goal.loop-more-smaller
loop-more-smaller g c = less_to_do c.in_ok-progress.field-0-1 c.loop-more.more _ _ c.loop-more-test.true c.in_ok-progress.ensures.fewer

pub loop-more-preserved : goal.loop-more-preserved
loop-more-preserved g c = (c.in_ok-progress.ensures.goes_on ∙ c.loop-more.invariant.0, c.in_ok-progress.ensures.active, c.in_ok-progress.ensures.ended)

pub returns : goal.returns
returns g c = sym (c.loop-more.invariant.2 c.loop-more-test.false) ∙ c.loop-more.invariant.0

pub run_next-requires : goal.run_next-requires
run_next-requires g c = c.loop-more.invariant.1
