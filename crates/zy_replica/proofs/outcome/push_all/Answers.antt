use Rattle.std.proofs.Common.{◌++◌, List, length, refl, sym, ◌∙◌, ap, arith}
use Rattle.zy_table.specs.declared.deeds.Got.{Got}
use Rattle.zy_replica_normal.proofs.MovedLemmas.{moved, all_told}
use Rattle.zy_replica.proofs.outcome.push_all.Goals as goal

pub loop-entry-preserved : goal.loop-entry-preserved
loop-entry-preserved c =
    let steps = c.in-Some.ensures.steps in
    let held = c.loop-entry.invariant in (
      rw c.in_ok-push.ensures.ok (moved c.loop-entry.got _ _ _ (ap (λ (xs : List Got). c.loop-entry.got ++ xs) (sym steps.0) ∙ held.0)),
      omega (arith, ap length steps.0, steps.1, held.1),
    )

pub returns : goal.returns
returns c =
    let held = c.loop-entry.invariant in
    all_told c.loop-entry.got (λ (xs : List Got). xs) _ _ refl held.0 (held.1 ∙ c.in-None.ensures.steps.0)
