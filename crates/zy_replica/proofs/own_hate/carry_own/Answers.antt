use Rattle.std.proofs.Common.{◌≡◌, ◌<◌, IfOk, ◌∙◌, ap, sym, subst}
use Rattle.zy_base.specs.declared.counts.Counts.{Counts}
use Rattle.zy_base.specs.declared.ids.Party.{Party}
use Rattle.zy_base.specs.declared.ids.Party.TheVariants.{Replica}
use Rattle.zy_evidence.specs.Reading.{number_of_party}
use Rattle.zy_table.specs.Deeds.{Going, Outcome}
use Rattle.zy_table.specs.Hates.{own_hate, with_hate_of}
use Rattle.zy_replica_views.specs.Entering.{IsJudged, IsStep}
use Rattle.zy_replica.specs.Judging.{asked_if}
use Rattle.zy_replica.proofs.OwnHateLemmas.{group_stays}
use Rattle.zy_replica.proofs.own_hate.carry_own.Goals as goal

pub count_hate-requires : goal.count_hate-requires
count_hate-requires g c =
    let same = ap (λ (x : Going g.row.M-State.Denot). x.state.counts) c.in_ok-said.ensures ∙ group_stays g.M.Machine.rules c.args.progress (own_hate c.args.progress.state) in
    subst (λ (counts : Counts). number_of_party c.args.own.by < counts.n) (sym same) c.requires.member

pub carry-requires-clause-judged : goal.carry-requires-clause-judged
carry-requires-clause-judged g c =
    let came =
    c.count_hate.ensures
    ∙ ap (λ (by : Party). with_hate_of by c.in_ok-said.said) c.requires.by
    ∙ ap (λ (x : Going g.row.M-State.Denot). with_hate_of (Replica c.args.progress.state.me) x) c.in_ok-said.ensures in
    subst (λ (x : Going g.row.M-State.Denot). IsJudged g.M.Machine.rules c.args.owed c.args.ending x) (sym came) c.requires.judged

pub returns : goal.returns
returns g c = λ s more attempt step same.
    let came =
    c.count_hate.ensures
    ∙ ap (λ (by : Party). with_hate_of by c.in_ok-said.said) c.requires.by
    ∙ ap (λ (x : Going g.row.M-State.Denot). with_hate_of (Replica c.args.progress.state.me) x) c.in_ok-said.ensures in
    let step = subst (λ (x : Going g.row.M-State.Denot). IsStep g.M.Machine.rules s more attempt c.args.owed x) (sym came) step in
    subst (λ (o : Outcome g.row.M-State.Denot). IfOk c.ask_unless.result (λ (m : Outcome g.row.M-State.Denot). m ≡ o))
    (ap (asked_if c.args.ending) (c.in_ok-carried.ensures s more attempt step same))
    c.ask_unless.ensures
