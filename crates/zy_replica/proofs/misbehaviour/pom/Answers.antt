use Rattle.std.proofs.Common.{◌≡◌, true, false, nat_lt, IfOk, sym, ◌∙◌, ap, subst}
use Rattle.zy_table.specs.Deeds.{Outcome}
use Rattle.zy_table.specs.Beginning.{finished}
use Rattle.zy_table.specs.Leaving.{Attempt}
use Rattle.zy_table.specs.Misbehaviour.{blamed}
use Rattle.zy_table.specs.State.{own_view}
use Rattle.zy_replica.proofs.BlameLemmas.{below, not_below, pom_older, pom_newer, pom_own}
use Rattle.zy_replica.proofs.misbehaviour.pom.Goals as goal

pub returns-then-lt : goal.returns-then-lt
returns-then-lt g c =
    let s = c.args.core in
    let first = c.args.first.now in
    let older : nat_lt first.stmt.view.0 (own_view s) ≡ true = rw (sym c.view.ensures.view) (below _ _ (sym c.lt.ensures ∙ c.if-lt.true)) in
    c.refused.ensures ∙ ap (finished g.M.Machine.rules s) (sym (pom_older g.M.Machine.rules s first c.args.second.now older))

pub returns-then-lt-2 : goal.returns-then-lt-2
returns-then-lt-2 g c =
    let s = c.args.core in
    let first = c.args.first.now in
    let not : nat_lt first.stmt.view.0 (own_view s) ≡ false = rw (sym c.view.ensures.view) (not_below _ _ (sym c.lt.ensures ∙ c.if-lt.false)) in
    let later : nat_lt (own_view s) first.stmt.view.0 ≡ true = rw (sym c.view-2.ensures.view) (below _ _ (sym c.lt-2.ensures ∙ c.if-lt-2.true)) in
    c.refused-then-lt-2.ensures ∙ ap (finished g.M.Machine.rules s) (sym (pom_newer g.M.Machine.rules s first c.args.second.now not later))

pub returns : goal.returns
returns g c =
    let R = g.M.Machine.rules in
    let s = c.args.core in
    let first = c.args.first.now in
    let not : nat_lt first.stmt.view.0 (own_view s) ≡ false = rw (sym c.view.ensures.view) (not_below _ _ (sym c.lt.ensures ∙ c.if-lt.false)) in
    let none : nat_lt (own_view s) first.stmt.view.0 ≡ false = rw (sym c.view-2.ensures.view) (not_below _ _ (sym c.lt-2.ensures ∙ c.if-lt-2.false)) in
    subst (λ (x : Attempt g.row.M-State.Denot). IfOk c.blamed.result (λ (m : Outcome g.row.M-State.Denot). m ≡ finished g.M.Machine.rules s x))
    (ap (blamed R s) c.pom.ensures ∙ sym (pom_own R s first c.args.second.now not none))
    c.blamed.ensures
