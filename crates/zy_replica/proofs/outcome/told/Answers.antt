use Rattle.std.proofs.Common.{◌++◌, ◌∷◌, List, length, refl, sym, ◌∙◌, ap, subst, arith, append_assoc}
use Rattle.std.specs.List.{AllByRecursion}
use Rattle.zy_chain.specs.Entries.{IsEntryInRange}
use Rattle.zy_base.specs.declared.ids.Party.TheVariants as parties
use Rattle.zy_table.specs.Deeds.{said_from, gains_in}
use Rattle.zy_table.specs.declared.deeds.Act.{Act}
use Rattle.zy_table.specs.declared.deeds.Got.{Got}
use Rattle.zy_replica_normal.proofs.MovedLemmas.{moved, all_told}
use Rattle.zy_replica.proofs.ToldLemmas.{gains_in_range}
use Rattle.zy_replica.proofs.outcome.told.Goals as goal

pub loop-act-preserved-in_ok-push-in-Says : goal.loop-act-preserved-in_ok-push-in-Says
loop-act-preserved-in_ok-push-in-Says c =
    let steps = c.in-Some.ensures.steps in
    let held = c.loop-act.invariant in
    let left = c.next.new.self.rest.items in
    let is = steps.0 ∙ ap (λ (act : Act). act ∷ left) c.in-Says.is in (
      rw (c.in_ok-push-in-Says.ensures.ok, c.in_ok-spoken-in-Says.ensures)
          (moved c.loop-act.said _ _ _
          (ap (λ (xs : List Act). c.loop-act.said ++ said_from (parties.Replica c.args.me) c.loop-act.pairs xs) (sym is) ∙ held.0)),
      ap (λ (xs : List Act). c.loop-act.got ++ gains_in xs) (sym is) ∙ held.1,
      omega (arith, ap length steps.0, steps.1, held.2),
      omega (arith, steps.1, held.3),
    )

pub loop-act-preserved : goal.loop-act-preserved
loop-act-preserved c =
    let steps = c.in-Some.ensures.steps in
    let held = c.loop-act.invariant in
    let left = c.next.new.self.rest.items in
    let is = steps.0 ∙ ap (λ (act : Act). act ∷ left) c.in-Adopts.is in (
      ap (λ (xs : List Act). c.loop-act.said ++ said_from (parties.Replica c.args.me) c.loop-act.pairs xs) (sym is) ∙ held.0,
      rw c.in_ok-push_all-in-Adopts.ensures
          (append_assoc c.loop-act.got c.in-Adopts.gots (gains_in left) ∙ ap (λ (xs : List Act). c.loop-act.got ++ gains_in xs) (sym is) ∙ held.1),
      omega (arith, ap length steps.0, steps.1, held.2),
      omega (arith, steps.1, held.3),
    )

pub returns-clause-said : goal.returns-clause-said
returns-clause-said c =
    let held = c.loop-act.invariant in
    all_told c.loop-act.said (said_from (parties.Replica c.args.me) c.loop-act.pairs) _ _ refl held.0 (held.2 ∙ c.in-None.ensures.steps.0)

pub returns-clause-got : goal.returns-clause-got
returns-clause-got c =
    let held = c.loop-act.invariant in
    all_told c.loop-act.got gains_in _ _ refl held.1 (held.2 ∙ c.in-None.ensures.steps.0)

pub returns-clause-range : goal.returns-clause-range
returns-clause-range c =
    let held = c.loop-act.invariant in
    let is = all_told c.loop-act.got gains_in _ _ refl held.1 (held.2 ∙ c.in-None.ensures.steps.0) in
    subst (λ (got : List Got). AllByRecursion (λ (g : Got). IsEntryInRange g.entry) got) (sym is) (gains_in_range c.args.acts c.requires)
