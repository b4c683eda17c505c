use Rattle.std.proofs.Common.{◌≡◌, ◌≤◌, sym, ap, ◌∙◌, subst}
use Rattle.std.proofs.lemmas.Result.{IfOk-weaker}
use Rattle.zy_change.specs.Fit.{IsCertified}
use Rattle.zy_replica_views.specs.Signing.{signs_by}
use Rattle.zy_table.specs.Adopting.{verdict_of}
use Rattle.zy_table.specs.Beginning.{adopt, finished}
use Rattle.zy_table.specs.Confirming.{view_certificate}
use Rattle.zy_table.specs.Deeds.{Going, Outcome}
use Rattle.zy_table.specs.Leaving.{goes}
use Rattle.zy_table.specs.State.{signs_left, own_view}
use Rattle.zy_replica_views.proofs.CertifiedLemmas.{cert_adopts, cert_does, chosen_all}
use Rattle.zy_replica_views.proofs.EndLemmas.{verdict_if}
use Rattle.zy_replica_views.proofs.ShortLemmas.{sends_some}
use Rattle.zy_replica_views.proofs.confirming.adopt_as.Goals as goal

pub chosen_of-chosen-requires : goal.chosen_of-chosen-requires
chosen_of-chosen-requires g c = cert_adopts g.M.Machine.rules c.args.core c.args.cert c.args.owed c.requires.owed c.requires.signers c.requires.range.0 c.args.ending c.requires.judged

pub adopt-requires-clause-certified : goal.adopt-requires-clause-certified
adopt-requires-clause-certified g c =
    let s = c.args.core in
    let adopts = cert_adopts g.M.Machine.rules s c.args.cert c.args.owed c.requires.owed c.requires.signers c.requires.range.0 c.args.ending c.requires.judged in
    subst (λ (x : Going g.row.M-State.Denot). IsCertified x.state.views.counts x.state.views.interval c.args.cert c.chosen_of-chosen.result) (sym c.begin.ensures)
    (chosen_all c.args.owed.adopt (IsCertified s.views.counts s.views.interval c.args.cert) c.chosen_of-chosen.result adopts c.requires.certified c.chosen_of-chosen.ensures)

pub adopt-requires-clause-later : goal.adopt-requires-clause-later
adopt-requires-clause-later g c =
    let does = cert_does g.M.Machine.rules c.args.core c.args.cert c.args.owed c.requires.owed c.requires.signers c.requires.range.0 c.requires.ready c.requires.signer c.chosen_of-chosen.result c.chosen_of-chosen.ensures c.args.ending c.requires.judged in
    subst (λ (x : Going g.row.M-State.Denot). own_view x.state ≤ c.args.cert.new.stmt.view.0) (sym c.begin.ensures) does.later

pub adopt-requires-clause-judged : goal.adopt-requires-clause-judged
adopt-requires-clause-judged g c = λ provider given.
    let R = g.M.Machine.rules in
    let chosen = c.chosen_of-chosen.result in
    let does = cert_does R c.args.core c.args.cert c.args.owed c.requires.owed c.requires.signers c.requires.range.0 c.requires.ready c.requires.signer chosen c.chosen_of-chosen.ensures c.args.ending c.requires.judged in
    ap (λ (x : Going g.row.M-State.Denot). verdict_of R x.state.kept x.state.board.stable provider.stmt.told chosen.place chosen.head) c.begin.ensures ∙ does.judged provider given ∙ ap verdict_if (sym c.is_waiting.ensures)

pub adopt-requires-clause-left : goal.adopt-requires-clause-left
adopt-requires-clause-left g c = λ provider given.
    let R = g.M.Machine.rules in
    let chosen = c.chosen_of-chosen.result in
    let does = cert_does R c.args.core c.args.cert c.args.owed c.requires.owed c.requires.signers c.requires.range.0 c.requires.ready c.requires.signer chosen c.chosen_of-chosen.ensures c.args.ending c.requires.judged in
    subst (λ (x : Going g.row.M-State.Denot). signs_by x.state c.args.cert.new.stmt.view provider.stmt.told chosen.place c.is_waiting.result ≤ signs_left x.state) (sym c.begin.ensures)
    (subst (λ waits. signs_by c.args.core c.args.cert.new.stmt.view provider.stmt.told chosen.place waits ≤ signs_left c.args.core) (sym c.is_waiting.ensures) (does.left provider given))

pub returns : goal.returns
returns g c =
    let R = g.M.Machine.rules in
    let chosen = c.chosen_of-chosen.result in
    let does = cert_does R c.args.core c.args.cert c.args.owed c.requires.owed c.requires.signers c.requires.range.0 c.requires.ready c.requires.signer chosen c.chosen_of-chosen.ensures c.args.ending c.requires.judged in
    IfOk-weaker c.adopt.result (λ (m : Outcome g.row.M-State.Denot). adopt R c.args.cert chosen c.begin.result ≡ goes m.answer (record { state = m.state; deeds = m.deeds }))
    (λ (m : Outcome g.row.M-State.Denot). m ≡ finished R c.args.core (view_certificate R c.args.core c.args.cert))
    (λ m adopted. does.comes m (ap (λ (x : Going g.row.M-State.Denot). adopt R c.args.cert chosen x) (sym c.begin.ensures) ∙ adopted)) c.adopt.ensures

pub adopt-requires-clause-sends : goal.adopt-requires-clause-sends
adopt-requires-clause-sends g c =
    let s = c.args.core in
    let adopts = cert_adopts g.M.Machine.rules s c.args.cert c.args.owed c.requires.owed c.requires.signers c.requires.range.0 c.args.ending c.requires.judged in
    sends_some s c.args.cert c.args.owed c.requires.owed adopts c.requires.certified c.requires.range
