use Rattle.std.proofs.Common.{◌≡◌, IfOk, Option, Some, true, false, sym, ◌∙◌, ap, subst}
use Rattle.zy_base.specs.declared.ids.Digest.{Digest}
use Rattle.zy_parts.specs.declared.signed.Signed.{Signed}
use Rattle.zy_parts.specs.declared.statements.Local.{Local}
use Rattle.zy_cert.specs.Equal.{digest-equal, same_digest}
use Rattle.zy_table.specs.declared.kept.OwnCheckpoint.{OwnCheckpoint}
use Rattle.zy_table.specs.Commits.{commit_as, commit_beside, local_said}
use Rattle.zy_table.specs.Deeds.{Outcome}
use Rattle.zy_replica_normal.proofs.CommitLemmas.{is_false, is_true}
use Rattle.zy_replica_normal.proofs.commits.commit_beside.Goals as goal

pub returns-then-ne : goal.returns-then-ne
returns-then-ne g c =
    let other : same_digest c.in-Some.own c.args.local.head ≡ false = is_false _ (sym c.ne.ensures ∙ c.if-ne.true) in
    subst (λ (o : Option Digest). IfOk c.not_heard-then-ne.result (λ (m : Outcome g.row.M-State.Denot). m ≡ commit_beside g.M.Machine.rules c.args.core c.args.specs c.args.client c.args.local o)) (sym c.in-Some.is)
    (rw other c.not_heard-then-ne.ensures)

pub commit_as-requires-clause-certificate : goal.commit_as-requires-clause-certificate
commit_as-requires-clause-certificate g c =
    c.requires.certificate (c.in-Some.is ∙ ap (λ (d : Digest). Some d) ((digest-equal c.in-Some.own c.args.local.head).0 (is_true _ (sym c.ne.ensures ∙ c.if-ne.false))))

pub returns : goal.returns
returns g c =
    let R = g.M.Machine.rules in
    let same : same_digest c.in-Some.own c.args.local.head ≡ true = is_true _ (sym c.ne.ensures ∙ c.if-ne.false) in
    subst (λ (o : Option Digest). IfOk c.commit_as.result (λ (m : Outcome g.row.M-State.Denot). m ≡ commit_beside R c.args.core c.args.specs c.args.client c.args.local o)) (sym c.in-Some.is)
    (rw same
    (subst (λ (o : Outcome g.row.M-State.Denot). IfOk c.commit_as.result (λ (m : Outcome g.row.M-State.Denot). m ≡ o))
    (ap (λ (said : Option (Signed Local)). commit_as R c.args.core c.args.specs c.args.client c.args.local said c.own_at-own.result) c.in_ok-said.ensures.said
    ∙ ap (λ (own : Option OwnCheckpoint). commit_as R c.args.core c.args.specs c.args.client c.args.local (local_said c.args.core c.args.local) own) c.own_at-own.ensures.own)
    c.commit_as.ensures))
