use Rattle.std.proofs.Common.{◌≡◌, ◌≤◌, ℕ, IfOk, sym, ◌∙◌, subst}
use Rattle.std.proofs.lemmas.Bool.{leb-true}
use Rattle.zy_table.specs.Deeds.{Outcome}
use Rattle.zy_table.specs.State.{signs_left}
use Rattle.zy_replica_views.proofs.StateLemmas.{installed_in, installed_spent}
use Rattle.zy_replica_views.proofs.fetching.install_counted.Goals as goal

pub begin_from-requires-clause-left : goal.begin_from-requires-clause-left
begin_from-requires-clause-left g c = λ w provider aw.
    subst (λ (n : ℕ). n ≤ signs_left c.args.core) (c.awaited-signs.ensures.signs w provider aw) (leb-true _ _ (sym c.can_sign.ensures.enough ∙ c.if-can_sign.true))

pub returns-then-can_sign : goal.returns-then-can_sign
returns-then-can_sign g c = λ w provider aw.
    let can = c.requires.shown w provider aw in
    let same = installed_in g.M.Machine.rules c.args.core w.cert w.chosen provider.stmt.told c.args.exec.base can.stable c.awaited-signs.result.2 (c.awaited-signs.ensures.signs w provider aw) (sym c.can_sign.ensures.enough ∙ c.if-can_sign.true) in
    subst (λ (o : Outcome g.row.M-State.Denot). IfOk c.begin_from.result (λ (m : Outcome g.row.M-State.Denot). m ≡ o)) same (c.begin_from.ensures w provider aw)

pub returns-else-can_sign : goal.returns-else-can_sign
returns-else-can_sign g c = λ w provider aw.
    let can = c.requires.shown w provider aw in
    let same = installed_spent g.M.Machine.rules c.args.core w.cert w.chosen provider.stmt.told c.args.exec.base can.stable c.awaited-signs.result.2 (c.awaited-signs.ensures.signs w provider aw) (sym c.can_sign.ensures.enough ∙ c.if-can_sign.false) in
    subst (λ (o : Outcome g.row.M-State.Denot). IfOk c.not_heard.result (λ (m : Outcome g.row.M-State.Denot). m ≡ o)) same c.not_heard.ensures
