use Rattle.std.proofs.Common.{◌≡◌, ◌∙◌, ap, subst, sym}
use Rattle.zy_table.specs.Deeds.{Going}
use Rattle.zy_table.specs.Hates.{with_hate_of}
use Rattle.zy_replica_views.specs.Entering.{IsJudged, IsStep}
use Rattle.zy_replica.proofs.hates.carry_hate.Goals as goal

pub carry-requires-clause-judged : goal.carry-requires-clause-judged
carry-requires-clause-judged g c =
    let came = c.count_hate.ensures ∙ ap (λ (x : Going g.row.M-State.Denot). with_hate_of c.args.vote.by x) c.begin.ensures in
    subst (λ (x : Going g.row.M-State.Denot). IsJudged g.M.Machine.rules c.args.owed c.args.ending x) (sym came) c.requires.judged

pub returns : goal.returns
returns g c = λ s more attempt step same.
    let came = c.count_hate.ensures ∙ ap (λ (x : Going g.row.M-State.Denot). with_hate_of c.args.vote.by x) c.begin.ensures in
    c.carry.ensures s more attempt (subst (λ (x : Going g.row.M-State.Denot). IsStep g.M.Machine.rules s more attempt c.args.owed x) (sym came) step) same
