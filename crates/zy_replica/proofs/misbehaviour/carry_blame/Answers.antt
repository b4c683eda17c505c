use Rattle.std.proofs.Common.{◌≡◌, ◌∙◌, ap, subst, sym}
use Rattle.zy_frames.specs.declared.frame.Frame.TheVariants as frames
use Rattle.zy_table.specs.declared.deeds.To.TheVariants.{All}
use Rattle.zy_table.specs.Deeds.{Going, send}
use Rattle.zy_replica_views.specs.Entering.{IsJudged, IsStep}
use Rattle.zy_replica.proofs.misbehaviour.carry_blame.Goals as goal

pub carry-requires-clause-judged : goal.carry-requires-clause-judged
carry-requires-clause-judged g c =
    let sent = c.in_ok-told.ensures ∙ ap (send All (frames.Pom c.args.kept c.args.order)) c.begin.ensures in
    subst (λ (x : Going g.row.M-State.Denot). IsJudged g.M.Machine.rules c.args.owed c.args.ending x) (sym sent) c.requires.judged

pub returns : goal.returns
returns g c = λ s more attempt step same.
    let sent = c.in_ok-told.ensures ∙ ap (send All (frames.Pom c.args.kept c.args.order)) c.begin.ensures in
    c.carry.ensures s more attempt (subst (λ (x : Going g.row.M-State.Denot). IsStep g.M.Machine.rules s more attempt c.args.owed x) (sym sent) step) same
