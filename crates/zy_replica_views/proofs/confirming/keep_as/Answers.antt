use Rattle.std.proofs.Common.{◌≡◌, IfOk, ap, ◌∙◌, sym, subst}
use Rattle.std.proofs.lemmas.Result.{IfOk-weaker}
use Rattle.zy_table.specs.Beginning.{finished}
use Rattle.zy_table.specs.Confirming.{confirmation}
use Rattle.zy_table.specs.Deeds.{Going, Outcome, begin}
use Rattle.zy_table.specs.State.{State}
use Rattle.zy_replica_views.specs.Entering.{CanEnd, EndsAs}
use Rattle.zy_replica_views.proofs.ConfirmedLemmas.{vote_can, vote_ends}
use Rattle.zy_replica_views.proofs.confirming.keep_as.Goals as goal

pub end-requires : goal.end-requires
end-requires g c =
    let R = g.M.Machine.rules in
    let kept = c.begin.ensures ∙ ap (λ (s : State g.row.M-State.Denot). begin s) c.keep_vote.ensures in
    subst (λ (x : Going g.row.M-State.Denot). CanEnd R c.args.ending x) (sym kept)
    (vote_can R c.args.core c.args.vote c.args.owed c.requires.owed c.requires.fit c.requires.ready c.requires.signer c.args.ending c.requires.judged)

pub returns : goal.returns
returns g c =
    let R = g.M.Machine.rules in
    let kept = c.begin.ensures ∙ ap (λ (s : State g.row.M-State.Denot). begin s) c.keep_vote.ensures in
    let does = subst (λ (x : Going g.row.M-State.Denot). IfOk c.end.result (EndsAs R c.args.owed.answer c.args.ending x)) kept c.end.ensures in
    IfOk-weaker c.end.result (EndsAs R c.args.owed.answer c.args.ending _) (λ (m : Outcome g.row.M-State.Denot). m ≡ finished R c.args.core (confirmation R c.args.core c.args.vote))
    (vote_ends R c.args.core c.args.vote c.args.owed c.requires.owed c.requires.fit c.requires.ready c.requires.signer c.args.ending c.requires.judged) does
