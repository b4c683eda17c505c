use Rattle.std.proofs.Common.{◌≡◌, ℕ, ◌≤◌, if◌then◌else◌, refl, sym, ap, ◌∙◌, subst}
use Rattle.zy_change.proofs.AcceptedLemmas.{accepted_provider}
use Rattle.zy_change.specs.Views.{certificate}
use Rattle.zy_table.specs.declared.deeds.Verdict.TheVariants.{Take, Wait}
use Rattle.zy_table.specs.State.{State, signs_left, own_view}
use Rattle.zy_table.specs.Deeds.{Going}
use Rattle.zy_table.specs.Adopting.{verdict_of}
use Rattle.zy_table.specs.Beginning.{adopt}
use Rattle.zy_replica_views.specs.Signing.{signs_by}
use Rattle.zy_replica_views.proofs.AdoptingLemmas.{adopts_out, certified_ok, out_signs, out_stays}
use Rattle.zy_replica_views.proofs.adopting.certify.Goals as goal

pub adopt-requires-clause-certified : goal.adopt-requires-clause-certified
adopt-requires-clause-certified g c =
    let s : State g.row.M-State.Denot = c.progress.inside.core in
    let counts = ap (λ (x : State g.row.M-State.Denot). x.views.counts) c.in_ok-core.ensures.core ∙ out_stays (λ x. x.views.counts) s refl c.args.waits in
    let interval = ap (λ (x : State g.row.M-State.Denot). x.views.interval) c.in_ok-core.ensures.core ∙ out_stays (λ x. x.views.interval) s refl c.args.waits in
    rw (counts, interval) c.in_ok-core.ensures.certified

pub adopt-requires-clause-later : goal.adopt-requires-clause-later
adopt-requires-clause-later g c =
    let s : State g.row.M-State.Denot = c.progress.inside.core in
    let enough = ap (λ (x : Going g.row.M-State.Denot). certificate x.state.views) (sym c.progress.view_is) ∙ c.in_ok-core.ensures.cert in
    let view : own_view c.in_ok-core.core ≡ own_view c.args.progress.state =
    ap (λ (x : State g.row.M-State.Denot). own_view x) c.in_ok-core.ensures.core ∙ out_stays (λ x. own_view x) s refl c.args.waits
    ∙ ap (λ (x : Going g.row.M-State.Denot). own_view x.state) c.progress.view_is in
    subst (λ (n : ℕ). n ≤ c.in_ok-core.cert.new.stmt.view.0) (sym view) (c.requires.later c.in_ok-core.cert enough)

pub adopt-requires-clause-judged : goal.adopt-requires-clause-judged
adopt-requires-clause-judged g c = λ p there.
    let R = g.M.Machine.rules in
    let s : State g.row.M-State.Denot = c.progress.inside.core in
    let chosen = c.in_ok-core.chosen in
    let accepted = ap (λ (x : Going g.row.M-State.Denot). x.state.views.accepted) (sym c.progress.view_is) ∙ c.in_ok-core.ensures.chosen in
    let verdict : verdict_of R c.in_ok-core.core.kept c.in_ok-core.core.board.stable p.stmt.told chosen.place chosen.head ≡ verdict_of R c.args.progress.state.kept c.args.progress.state.board.stable p.stmt.told chosen.place chosen.head =
    ap (λ (x : State g.row.M-State.Denot). verdict_of R x.kept x.board.stable p.stmt.told chosen.place chosen.head) c.in_ok-core.ensures.core
    ∙ out_stays (λ x. verdict_of R x.kept x.board.stable p.stmt.told chosen.place chosen.head) s refl c.args.waits
    ∙ ap (λ (x : Going g.row.M-State.Denot). verdict_of R x.state.kept x.state.board.stable p.stmt.told chosen.place chosen.head) c.progress.view_is in
    verdict ∙ c.requires.judged c.in_ok-core.cert chosen p accepted there

pub adopt-requires-clause-left : goal.adopt-requires-clause-left
adopt-requires-clause-left g c = λ p there.
    let s : State g.row.M-State.Denot = c.progress.inside.core in
    let view = c.in_ok-core.cert.new.stmt.view in
    let place = c.in_ok-core.chosen.place in
    let waits = c.args.waits in
    let accepted = ap (λ (x : Going g.row.M-State.Denot). x.state.views.accepted) (sym c.progress.view_is) ∙ c.in_ok-core.ensures.chosen in
    let signs : signs_by c.in_ok-core.core view p.stmt.told place waits ≡ signs_by c.args.progress.state view p.stmt.told place waits =
    ap (λ (x : State g.row.M-State.Denot). signs_by x view p.stmt.told place waits) c.in_ok-core.ensures.core
    ∙ out_signs s view p.stmt.told place waits
    ∙ ap (λ (x : Going g.row.M-State.Denot). signs_by x.state view p.stmt.told place waits) c.progress.view_is in
    let same_left : signs_left c.in_ok-core.core ≡ signs_left c.args.progress.state =
    ap (λ (x : State g.row.M-State.Denot). signs_left x) c.in_ok-core.ensures.core
    ∙ out_stays (λ x. signs_left x) s refl waits
    ∙ ap (λ (x : Going g.row.M-State.Denot). signs_left x.state) c.progress.view_is in
    rw (signs, same_left) (c.requires.left c.in_ok-core.cert c.in_ok-core.chosen p accepted there)

pub returns : goal.returns
returns g c =
    let R = g.M.Machine.rules in
    let s : State g.row.M-State.Denot = c.progress.inside.core in
    let cert = c.in_ok-core.cert in
    let chosen = c.in_ok-core.chosen in
    let inside : Going g.row.M-State.Denot = record { state = s; deeds = c.progress.inside.deeds } in
    let from : Going g.row.M-State.Denot = record { state = c.in_ok-core.core; deeds = c.progress.inside.deeds } in
    let same : inside ≡ c.args.progress = c.progress.view_is in
    let accepted = ap (λ (x : Going g.row.M-State.Denot). x.state.views.accepted) (sym same) ∙ c.in_ok-core.ensures.chosen in
    let enough = ap (λ (x : Going g.row.M-State.Denot). certificate x.state.views) (sym same) ∙ c.in_ok-core.ensures.cert in
    let (p, there, head) = accepted_provider s.views.counts s.views.interval (record { new = cert.new; chosen = chosen }) c.in_ok-core.ensures.certified.accepted in
    let judged =
    subst (λ (x : Going g.row.M-State.Denot). verdict_of R x.state.kept x.state.board.stable p.stmt.told chosen.place chosen.head ≡ (if c.args.waits then Wait else Take)) (sym same)
    (c.requires.judged cert chosen p accepted there) in
    let adopts =
    ap (λ (x : State g.row.M-State.Denot). adopt R cert chosen (record { state = x; deeds = c.progress.inside.deeds })) c.in_ok-core.ensures.core
    ∙ adopts_out R cert chosen p there inside c.args.waits judged
    ∙ ap (adopt R cert chosen) same in
    certified_ok R c.args.progress from cert chosen accepted enough adopts c.adopt.result c.adopt.ensures
