use Rattle.std.proofs.Common.{◌≡◌, ◌≤◌, if◌then◌else◌, IfOk, List, ap, ◌∙◌, subst, arith}
use Rattle.std.specs.Prelude.{is_some}
use Rattle.zy_base.specs.declared.ids.Party.{Party}
use Rattle.zy_parts.specs.declared.reports.Fetch.{Fetch}
use Rattle.zy_change.proofs.AcceptedLemmas.{accepted_provider}
use Rattle.zy_table.specs.State.{State, signs_left}
use Rattle.zy_table.specs.Deeds.{Going}
use Rattle.zy_table.specs.Beginning.{arrive, ask_each, asked_of, fetch_said, kept_waiting, wait_for, wanted_of}
use Rattle.zy_replica_views.proofs.ArriveLemmas.{arrived_fetches, arrived_group, arrived_interval, arrived_left, find_said}
use Rattle.zy_replica_views.proofs.waiting.wait_for.Goals as goal

pub arrive-requires-clause-left : goal.arrive-requires-clause-left
arrive-requires-clause-left g c =
    let v = c.args.progress.state.views in
    let (p, there, head) = accepted_provider v.counts v.interval (record { new = c.args.cert.new; chosen = c.args.chosen }) c.requires.certified.accepted in
    let both = c.requires.left p there in
    omega (arith, both)

pub wanted_by-requires-clause-certified : goal.wanted_by-requires-clause-certified
wanted_by-requires-clause-certified g c =
    let R = g.M.Machine.rules in
    let view = c.args.cert.new.stmt.view in
    let at = c.arrived.view_is ∙ c.in_ok-arrived.ensures in
    let group = ap (λ (x : Going g.row.M-State.Denot). x.state.views.counts) at ∙ arrived_group R view c.args.progress in
    let interval = ap (λ (x : Going g.row.M-State.Denot). x.state.views.interval) at ∙ arrived_interval R view c.args.progress in
    rw (group, interval) c.requires.certified

pub wait-core-requires-clause-certified : goal.wait-core-requires-clause-certified
wait-core-requires-clause-certified g c =
    let R = g.M.Machine.rules in
    let view = c.args.cert.new.stmt.view in
    let at = c.arrived.view_is ∙ c.in_ok-arrived.ensures in
    let group = ap (λ (x : Going g.row.M-State.Denot). x.state.views.counts) at ∙ arrived_group R view c.args.progress in
    let interval = ap (λ (x : Going g.row.M-State.Denot). x.state.views.interval) at ∙ arrived_interval R view c.args.progress in
    rw (group, interval) c.requires.certified

pub ask_each-requires-clause-left : goal.ask_each-requires-clause-left
ask_each-requires-clause-left g c =
    let R = g.M.Machine.rules in
    let s = c.args.progress.state in
    let view = c.args.cert.new.stmt.view in
    let (p, there, head) = accepted_provider s.views.counts s.views.interval (record { new = c.args.cert.new; chosen = c.args.chosen }) c.requires.certified.accepted in
    let h : Going g.row.M-State.Denot = arrive R view c.args.progress in
    let at : c.arrived.inside.core ≡ h.state = ap (λ (x : Going g.row.M-State.Denot). x.state) (c.arrived.view_is ∙ c.in_ok-arrived.ensures) in
    let want = wanted_of p.stmt.told in
    let left : (if is_some (fetch_said s want) then 0 else 1) ≤ signs_left h.state = arrived_left R view c.args.progress _ (c.requires.left p there) in
    let said = find_said (c.wait-core.result.fetches) s.fetches want (ap (λ (x : State g.row.M-State.Denot). x.fetches) c.wait-core.ensures ∙ ap (λ (x : State g.row.M-State.Denot). x.fetches) at ∙ arrived_fetches R view c.args.progress) in
    let same_left : signs_left c.wait-core.result ≡ signs_left h.state = ap (λ (x : State g.row.M-State.Denot). signs_left x) c.wait-core.ensures ∙ ap (λ (x : State g.row.M-State.Denot). signs_left x) at in
    rw (c.in_ok-fetch.ensures.wanted p there, said, same_left) left

pub returns : goal.returns
unfolding wait_for
returns g c = λ p there.
    let R = g.M.Machine.rules in
    let told = p.stmt.told in
    let want = wanted_of told in
    let waits : Going g.row.M-State.Denot = kept_waiting c.args.cert c.args.chosen (arrive R c.args.cert.new.stmt.view c.args.progress) in
    let before : Going g.row.M-State.Denot = record { state = c.wait-core.result; deeds = c.arrived.inside.deeds } in
    let at = c.arrived.view_is ∙ c.in_ok-arrived.ensures in
    let here : before ≡ waits = ap (λ (s : State g.row.M-State.Denot). record { state = s; deeds = c.arrived.inside.deeds }) c.wait-core.ensures ∙ ap (kept_waiting c.args.cert c.args.chosen) at in
    let asked : c.deref.result.now ≡ asked_of waits.state told.checks = c.deref.ensures.value ∙ c.in_ok-fetch.ensures.asked p there ∙ ap (λ (x : Going g.row.M-State.Denot). asked_of x.state told.checks) at in
    let same =
    ap (λ (f : Fetch). ask_each R f (fetch_said before.state f) c.deref.result.now before) (c.in_ok-fetch.ensures.wanted p there)
    ∙ ap (λ (to : List Party). ask_each R want (fetch_said before.state want) to before) asked
    ∙ ap (λ (x : Going g.row.M-State.Denot). ask_each R want (fetch_said x.state want) (asked_of waits.state told.checks) x) here in
    subst (λ (x : Going g.row.M-State.Denot). IfOk c.ask_each.result (λ (end : Going g.row.M-State.Denot). end ≡ x)) same c.ask_each.ensures
