use Rattle.std.proofs.Common.{◌≡◌, ◌∙◌, ap, subst, sym}
use Rattle.zy_table.specs.State.{State}
use Rattle.zy_table.specs.Deeds.{Going, begin}
use Rattle.zy_replica_views.specs.Entering.{IsJudged, IsStep}
use Rattle.zy_replica.proofs.changes.carry_change.Goals as goal

pub carry-requires-clause-judged : goal.carry-requires-clause-judged
carry-requires-clause-judged g c =
    let begun = c.begin.ensures ∙ ap (λ (s : State g.row.M-State.Denot). begin s) c.kept_unless-core.ensures in
    subst (λ (x : Going g.row.M-State.Denot). IsJudged g.M.Machine.rules c.args.owed c.args.ending x) (sym begun) c.requires.judged

pub returns : goal.returns
returns g c = λ s more attempt step same.
    let begun = c.begin.ensures ∙ ap (λ (s : State g.row.M-State.Denot). begin s) c.kept_unless-core.ensures in
    c.carry.ensures s more attempt (subst (λ (x : Going g.row.M-State.Denot). IsStep g.M.Machine.rules s more attempt c.args.owed x) (sym begun) step) same
