use Rattle.std.proofs.Common.{rules, ◌≡◌, ℕ, suc, ◌+◌, List, ◌++◌, take, drop, sym, subst, arith}
use Rattle.std.specs.List.{flat_map}
use Rattle.zy_table.specs.declared.deeds.Got.{Got}
use Rattle.zy_world_law.specs.Texts.{got_texts}
use Rattle.zy_world_setup.specs.Kept.{Keeps, Clashes}
use Rattle.zy_world_setup.proofs.KeptLemmas.{keeps_both, clashes_first, clashes_then, flat_next, flat_split}
use Rattle.zy_world_setup.proofs.kept.KeptTexts.keep_step.Goals as goal

pub returns-in_err-keep_got-clause-clash : goal.returns-in_err-keep_got-clause-clash
returns-in_err-keep_got-clause-clash c d err =
    let gains = c.as_slice-gains.result.now in
    let i = c.loop-got.got-index in
    let got = c.got-item.result in
    let old = c.args.self.now in
    let mid = c.loop-got.self in
    let rest = flat_map got_texts (drop (suc i) gains) in
    subst (λ (l : List Got). Clashes (flat_map got_texts l) old d) c.as_slice-gains.ensures.value
    (subst (λ (l : List (List ℕ)). Clashes l old d) (sym (flat_split got_texts gains i got c.loop-got-test.true c.got-item.is))
    (clashes_then (flat_map got_texts (take i gains)) (got_texts got ++ rest) old mid d c.loop-got.invariant
    (clashes_first (got_texts got) rest mid d (c.in_err-keep_got.ensures.clash d (search rules)))))

pub loop-got-preserved : goal.loop-got-preserved
loop-got-preserved c =
    let gains = c.as_slice-gains.result.now in
    let i = c.loop-got.got-index in
    let got = c.got-item.result in
    let old = c.args.self.now in
    let new = c.keep_got.new.self in
    let next : i + 1 ≡ suc i = omega arith in
    subst (λ (n : ℕ). Keeps (flat_map got_texts (take n gains)) old new) (sym next)
    (subst (λ (l : List (List ℕ)). Keeps l old new) (sym (flat_next got_texts gains i got c.loop-got-test.true c.got-item.is))
    (keeps_both (flat_map got_texts (take i gains)) (got_texts got) old c.loop-got.self new c.loop-got.invariant c.in_ok-keep_got.ensures.keeps))
