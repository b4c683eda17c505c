-- What a report whose proofs hold is judged as.
use Rattle.std.proofs.Common.{◌≡◌, ℕ, Option, Some, None, Ok, Err, sym, ap, ◌∙◌, subst}
use Rattle.zy_base.specs.declared.counts.Counts.{Counts}
use Rattle.zy_base.specs.declared.ids.ReplicaId.{ReplicaId}
use Rattle.zy_base.specs.declared.ids.Party.{Party}
use Rattle.zy_base.specs.declared.ids.Party.TheVariants.{Replica}
use Rattle.zy_parts.specs.declared.signed.Signed.{Signed}
use Rattle.zy_parts.specs.declared.reports.Change.{Change}
use Rattle.zy_choose.specs.Reports.{PlainReport}
use Rattle.zy_choose.specs.Rules.{IsWellFormed, IsFirstBroken}
use Rattle.zy_choose.specs.declared.report.ReportRule.{ReportRule}
use Rattle.zy_evidence.specs.Reading.{read, read_by, number_of_party}
use Rattle.zy_evidence.specs.Rules.{rule_of_proofs, rule_of_itself, rule_or, judged, judged_by}
use Rattle.zy_evidence.specs.declared.rule.Rule.{Rule}
use Rattle.zy_evidence.specs.declared.rule.Rule.TheVariants as rules
use Rattle.zy_evidence.proofs.ItselfLemmas.{itself_clear, itself_broken}

module _ (counts : Counts) (interval : ℕ) (c : Signed Change) (by : ReplicaId) (signer : c.by ≡ Replica by) (proven : rule_of_proofs counts c.stmt ≡ None) (r : PlainReport)
    (is : r ≡ read_by by.0 c.stmt.told) where
  decided : (itself : Option ReportRule) → rule_of_itself interval c.stmt.told ≡ itself → judged counts interval c ≡ judged_by (rule_or None itself) c
  decided itself told = ap (λ (a : Option Rule). judged_by (rule_or a (rule_of_itself interval c.stmt.told)) c) proven ∙ ap (λ (b : Option ReportRule). judged_by (rule_or None b) c) told

  own : read c ≡ r
  own = ap (λ (p : Party). read_by (number_of_party p) c.stmt.told) signer ∙ sym is

  pub judged_read : IsWellFormed interval r → judged counts interval c ≡ Ok r
  judged_read well = decided None ((itself_clear interval by.0 c.stmt.told).1 (subst (IsWellFormed interval) is well)) ∙ ap Ok own

  pub judged_broken : (rule : ReportRule) → IsFirstBroken interval r rule → judged counts interval c ≡ Err (rules.Itself rule)
  judged_broken rule broken = decided (Some rule) (itself_broken interval by.0 c.stmt.told rule (subst (λ (x : PlainReport). IsFirstBroken interval x rule) is broken))
