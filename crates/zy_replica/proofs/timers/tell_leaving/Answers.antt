use Rattle.std.proofs.Common.{◌≡◌, IfOk, ◌∙◌, ap, subst}
use Rattle.zy_change.specs.Views.{change_for, own_change}
use Rattle.zy_table.specs.State.{State, own_view}
use Rattle.zy_table.specs.Deeds.{Going, Outcome, begin}
use Rattle.zy_table.specs.Hates.{change_again, hate_from, then_ask}
use Rattle.zy_table.specs.Beginning.{finished}
use Rattle.zy_replica.proofs.TimerLemmas.{told_silent, told_state}
use Rattle.zy_replica.proofs.timers.tell_leaving.Goals as goal

pub hate_and_ask-requires : goal.hate_and_ask-requires
hate_and_ask-requires g c =
    let s = c.args.core in
    ap (λ (x : Going g.row.M-State.Denot). x.deeds.acts) c.in_ok-tell_again.ensures ∙ told_silent (change_for (own_view s) (own_change s.views)) s

pub returns : goal.returns
returns g c =
    let R = g.M.Machine.rules in
    let s = c.args.core in
    let change = change_for (own_view s) (own_change s.views) in
    let told =
    ap (λ (x : Going g.row.M-State.Denot). finished R x.state (then_ask (hate_from R x))) c.in_ok-tell_again.ensures
    ∙ ap (λ (t : State g.row.M-State.Denot). finished R t (then_ask (hate_from R (change_again change (begin s))))) (told_state change s) in
    subst (λ (o : Outcome g.row.M-State.Denot). IfOk c.hate_and_ask.result (λ (m : Outcome g.row.M-State.Denot). m ≡ o)) told c.hate_and_ask.ensures
