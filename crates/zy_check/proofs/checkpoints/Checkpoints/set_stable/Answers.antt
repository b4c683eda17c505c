use Rattle.std.proofs.Common.{ap, ◌∙◌}
use Rattle.zy_parts.specs.declared.signed.Signed.{Signed}
use Rattle.zy_parts.specs.declared.statements.Check.{Check}
use Rattle.zy_check.proofs.BoardLemmas.{stated-first, with_stable-moved}
use Rattle.zy_check.proofs.checkpoints.Checkpoints.set_stable.Goals as goal

pub returns : goal.returns
returns c =
    let first-is = ap (λ (s : Signed Check). s.stmt) c.index.ensures ∙ stated-first c.self.inside.stable c.args.proof.items c.index.result.now c.requires.proof.some in
    with_stable-moved _ _ c.self.view_is c.args.place.0 c.height-height.result c.height-height.ensures c.requires.not_below c.args.proof.items _ _ _ c.self.invariant c.requires.proof first-is c.move_rounds.ensures.near c.move_rounds.ensures.far
