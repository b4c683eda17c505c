use Rattle.std.proofs.Common.{arith, ◌-◌, refl, ◌∙◌}
use Rattle.zy_ots.proofs.ChainLemmas.{chain_none, chain_more}
use Rattle.zy_ots.proofs.chain_block.ChainBlock.walk.Goals as goal

pub steps-init : goal.steps-init
steps-init c = rw (← chain_none _ _ c.args.from (c.args.from - c.args.from) (omega arith)) refl

pub steps-preserved : goal.steps-preserved
steps-preserved c = rw (chain_more _ _ c.args.from c.steps.j c.steps.auto.j) (c.step.ensures ∙ rw c.steps.invariant refl)
