use Rattle.std.proofs.Common.{◌≡◌, IfOk, sym, ◌∙◌, ap, subst}
use Rattle.zy_base.specs.declared.step.Mode.{Mode}
use Rattle.zy_change.specs.Views.{change_for, own_change}
use Rattle.zy_table.specs.State.{own_view}
use Rattle.zy_table.specs.Deeds.{Outcome}
use Rattle.zy_table.specs.Hates.{on_change_timer}
use Rattle.zy_table.specs.Beginning.{finished}
use Rattle.zy_replica.proofs.TimerLemmas.{leaving_same}
use Rattle.zy_replica.proofs.timers.on_change_timer.Goals as goal

pub returns-in-Active : goal.returns-in-Active
returns-in-Active g c =
    let R = g.M.Machine.rules in
    let s = c.args.core in
    c.idle.ensures ∙ ap (λ (m : Mode). finished R s (on_change_timer R s m)) (sym c.in-Active.is ∙ c.mode.ensures)

pub returns-in-Leaving : goal.returns-in-Leaving
returns-in-Leaving g c =
    let R = g.M.Machine.rules in
    let s = c.args.core in
    let is = sym c.in-Leaving.is ∙ c.mode.ensures in
    let same =
    ap (finished R s) (leaving_same R (change_for (own_view s) (own_change s.views)) s _ (sym is))
    ∙ ap (λ (m : Mode). finished R s (on_change_timer R s m)) is in
    subst (λ (o : Outcome g.row.M-State.Denot). IfOk c.tell_leaving.result (λ (m : Outcome g.row.M-State.Denot). m ≡ o)) same c.tell_leaving.ensures
