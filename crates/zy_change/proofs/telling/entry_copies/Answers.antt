use Rattle.std.proofs.Common.{◌+◌, ◌++◌, option_to_list, ap, ◌∙◌}
use Rattle.std.specs.Prelude.{slice_get}
use Rattle.zy_chain.specs.Stretch.{entry_in}
use Rattle.zy_change.proofs.IndexLemmas.{entry_after, take_next}
use Rattle.zy_change.proofs.telling.entry_copies.Goals as goal

pub loop-above-preserved : goal.loop-above-preserved
loop-above-preserved c = (
  c.in_ok-push_entry.ensures.pushed
      ∙ ap (λ o. c.loop-above.entries ++ option_to_list o)
      (c.entry_at.ensures.entry ∙ ap (λ base. entry_in c.args.spine.now (base + c.loop-above.above + 1)) c.base-in-loop-above.ensures ∙ entry_after c.args.spine.now c.loop-above.above)
      ∙ ap (λ l. l ++ option_to_list (slice_get c.args.spine.now.entries c.loop-above.above)) c.loop-above.invariant.0
      ∙ take_next c.args.spine.now.entries c.loop-above.above,
  c.in_ok-push_entry.ensures.in_range,
)
