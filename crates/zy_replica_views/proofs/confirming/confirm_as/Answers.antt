use Rattle.std.proofs.Common.{◌≡◌, ◌≤◌, ◌+◌, nat_lt, if◌then◌else◌, IfOk, sym, ap, ◌∙◌, subst}
use Rattle.std.proofs.lemmas.Result.{IfOk-weaker}
use Rattle.zy_change.specs.Fit.{IsAccepted}
use Rattle.zy_table.specs.Beginning.{arrive, finished}
use Rattle.zy_table.specs.Confirming.{new_view}
use Rattle.zy_table.specs.Deeds.{Going, Outcome}
use Rattle.zy_table.specs.Leaving.{accept}
use Rattle.zy_table.specs.State.{signs_left, own_view}
use Rattle.zy_replica_views.specs.Entering.{CanEnd, EndsAs}
use Rattle.zy_replica_views.proofs.NewViewLemmas.{confirm_left, confirms_some, new_can, new_comes}
use Rattle.zy_replica_views.proofs.ShortLemmas.{accepted_sends}
use Rattle.zy_replica_views.proofs.confirming.confirm_as.Goals as goal

pub unreachable-requires : goal.unreachable-requires
unreachable-requires g c = confirms_some g.M.Machine.rules c.args.core c.args.new c.args.owed c.requires.owed c.requires.accepted c.requires.signer c.in-None.is c.args.ending c.requires.judged

pub confirm-requires-clause-left : goal.confirm-requires-clause-left
confirm-requires-clause-left g c =
    subst (λ (x : Going g.row.M-State.Denot). (if nat_lt (own_view x.state) c.args.new.stmt.view.0 then 1 else 0) + 1 ≤ signs_left x.state) (sym c.begin.ensures)
    (confirm_left g.M.Machine.rules c.args.core c.args.new c.args.owed c.requires.owed c.requires.accepted c.in-Some.chosen c.in-Some.is c.args.ending c.requires.judged)

pub end-requires : goal.end-requires
end-requires g c =
    let R = g.M.Machine.rules in
    let came = c.in_ok-confirm-in-Some.ensures ∙ ap (λ (x : Going g.row.M-State.Denot). accept R (record { new = c.args.new; chosen = c.in-Some.chosen }) (arrive R c.args.new.stmt.view x)) c.begin.ensures in
    subst (λ (x : Going g.row.M-State.Denot). CanEnd R c.args.ending x) (sym came)
    (new_can R c.args.core c.args.new c.args.owed c.requires.owed c.requires.accepted c.in-Some.chosen c.in-Some.is c.requires.ready c.requires.signer c.args.ending c.requires.judged)

pub returns : goal.returns
returns g c =
    let R = g.M.Machine.rules in
    let came = c.in_ok-confirm-in-Some.ensures ∙ ap (λ (x : Going g.row.M-State.Denot). accept R (record { new = c.args.new; chosen = c.in-Some.chosen }) (arrive R c.args.new.stmt.view x)) c.begin.ensures in
    let does = subst (λ (x : Going g.row.M-State.Denot). IfOk c.end.result (EndsAs R c.args.owed.answer c.args.ending x)) came c.end.ensures in
    IfOk-weaker c.end.result (EndsAs R c.args.owed.answer c.args.ending _) (λ (m : Outcome g.row.M-State.Denot). m ≡ finished R c.args.core (new_view R c.args.core c.args.new))
    (new_comes R c.args.core c.args.new c.args.owed c.requires.owed c.requires.accepted c.in-Some.chosen c.in-Some.is c.requires.ready c.requires.signer c.args.ending c.requires.judged) does

pub confirm-requires-clause-sends : goal.confirm-requires-clause-sends
confirm-requires-clause-sends g c = accepted_sends c.args.core c.args.new c.args.owed c.in-Some.chosen c.requires.owed c.in-Some.is c.requires.accepted

pub confirm-requires-clause-accepted : goal.confirm-requires-clause-accepted
confirm-requires-clause-accepted g c =
    subst (λ (x : Going g.row.M-State.Denot). IsAccepted x.state.views.counts x.state.views.interval (record { new = c.args.new; chosen = c.in-Some.chosen })) (sym c.begin.ensures)
    (c.requires.accepted c.in-Some.chosen c.in-Some.is)
