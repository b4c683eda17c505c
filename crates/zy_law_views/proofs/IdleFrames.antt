-- A report that tells an entry of a client that there can't be is nothing to a replica: by it, and by what has it, nothing is said or
-- gained, and nothing that is kept changes.
use Rattle.std.proofs.Common.{◌≡◌, ◌⊎◌, inl, inr, Bool, true, false, cond, [], Option, Some, None, Err, refl, sym, subst}
use Rattle.std.specs.Prelude.{All, nat_lt}
use Rattle.zy_base.specs.Machine.{Rules}
use Rattle.zy_base.specs.declared.cause.Cause.{Cause}
use Rattle.zy_base.specs.declared.cause.Cause.TheVariants as causes
use Rattle.zy_base.specs.declared.step.Answer.TheVariants.{Refused, Taken}
use Rattle.zy_law_views.proofs.Reported.{all_of_clients, cert_refused, new_refused, of_clients}
use Rattle.zy_change.specs.Views.{has_begun, is_from, slot_of}
use Rattle.zy_change.specs.Judging.{first_broken}
use Rattle.zy_evidence.specs.Rules.{number_of, rule_of}
use Rattle.zy_evidence.specs.declared.rule.Rule.{Rule}
use Rattle.zy_parts.specs.declared.reports.Change.{Change}
use Rattle.zy_parts.specs.declared.signed.Signed.{Signed}
use Rattle.zy_table.specs.Beginning.{finished}
use Rattle.zy_table.specs.Changes.{change, change_judged, send_cert}
use Rattle.zy_table.specs.Deeds.{Outcome, begin, ends, refused}
use Rattle.zy_table.specs.Leaving.{Attempt, goes, is_overspent}
use Rattle.zy_table.specs.State as table
use Rattle.zy_table.specs.State.{State}
use Rattle.zy_table.specs.Whole.{view_row}
use Rattle.zy_vframes.specs.declared.frame.ViewCert.{ViewCert}
use Rattle.zy_vframes.specs.declared.frame.ViewFrame.{ViewFrame}
use Rattle.zy_vframes.specs.declared.frame.ViewFrame.TheVariants as frames
use Rattle.zy_law_views.specs.Rows.{blames}
use Rattle.zy_law_views.specs.Frames.{AreOfClients}

-- a frame whose reports tell entries of such clients alone
abbrev pub TellsOfClients : ViewFrame → Type 0
TellsOfClients (frames.ViewChange change) = AreOfClients change
TellsOfClients (frames.NewView new) = All AreOfClients new.stmt.changes
TellsOfClients (frames.ViewConfirm began) = Unit {0}
TellsOfClients (frames.ViewCert cert) = All AreOfClients cert.new.stmt.changes
TellsOfClients (frames.Fetch fetch) = Unit {0}
TellsOfClients (frames.State place snapshot) = Unit {0}

-- nothing is said, gained or changed
pub record IsIdle {S : Type 0} (s : State S) (o : Outcome S) : Type 0 where
  pub state : o.state ≡ s
  pub acts : o.deeds.acts ≡ []
  -- and if it is refused, that blames nobody
  pub blameless : (cause : Cause) → o.answer ≡ Refused cause → blames cause ≡ false

-- ---- the rows

module _ {S : Type 0} (R : Rules S) (s : State S) where
  by_cause : (cause : Cause) → blames cause ≡ false → IsIdle s (refused cause s)
  by_cause cause free = record { state = refl; acts = refl; blameless = λ other is. let same : cause ≡ other = cc in subst (λ (c : Cause). blames c ≡ false) same free }

  refused_idle : (attempt : Attempt S) (cause : Cause) → attempt ≡ Err cause → blames cause ≡ false → IsIdle s (finished R s attempt)
  refused_idle attempt cause is free = subst (λ (a : Attempt S). IsIdle s (finished R s a)) (sym is) (by_cause cause free)

  -- the certificate of the own view is sent at most
  sent_idle : (vote : Signed Change) (cert : Option ViewCert) → IsIdle s (finished R s (goes Taken (send_cert vote.by cert (begin s))))
  sent_idle vote None = by (is_overspent s.sealer)
    where
      by : (over : Bool) → IsIdle s (cond over (refused causes.KeySpent s) (ends Taken (begin s)))
      by true = by_cause causes.KeySpent refl
      by false = record { state = refl; acts = refl; blameless = λ cause is. absurd cc }
  sent_idle vote (Some cert) = by (is_overspent s.sealer)
    where
      by : (over : Bool) → IsIdle s (cond over (refused causes.KeySpent s) (ends Taken (send_cert vote.by (Some cert) (begin s))))
      by true = by_cause causes.KeySpent refl
      by false = record { state = refl; acts = refl; blameless = λ cause is. absurd cc }

  change_idle : (vote : Signed Change) (rule : Rule) → rule_of s.views.counts s.views.interval vote.stmt ≡ Some rule → IsIdle s (finished R s (change R s vote))
  unfolding change
  change_idle vote rule broken =
      by (nat_lt vote.stmt.view.0 (table.own_view s)) (has_begun s.views.mode vote.stmt.view.0) (is_from vote.stmt.view.0 (slot_of vote.by s.views.changes)) (rule_of s.views.counts s.views.interval vote.stmt) broken
    where
      by : (old begun repeated : Bool) (found : Option Rule) → found ≡ Some rule
          → IsIdle s (finished R s (cond old (Err causes.OldView) (cond begun (goes Taken (send_cert vote.by s.views.view_cert (begin s))) (cond repeated (Err causes.Repeat) (change_judged R s vote found)))))
      by true begun repeated found is = by_cause causes.OldView refl
      by false true repeated found is = sent_idle vote s.views.view_cert
      by false false true found is = by_cause causes.Repeat refl
      by false false false (Some other) is = by_cause (causes.BadReport (number_of other)) refl
      by false false false None is = absurd cc

  abbrev Splits : ViewFrame → Type 0
  Splits frame = TellsOfClients frame ⊎ IsIdle s (view_row R s frame)

  -- a frame's reports tell entries of clients that there may be, or it is nothing to the replica
  pub of_clients_or_idle : (frame : ViewFrame) → Splits frame
  of_clients_or_idle (frames.ViewChange vote) = by (rule_of s.views.counts s.views.interval vote.stmt) refl
    where
      by : (rule : Option Rule) → rule_of s.views.counts s.views.interval vote.stmt ≡ rule → Splits (frames.ViewChange vote)
      by None clear = inl (of_clients s.views.counts s.views.interval vote clear)
      by (Some rule) broken = inr (change_idle vote rule broken)
  of_clients_or_idle (frames.NewView new) = by (first_broken s.views.counts s.views.interval new.stmt.changes) refl
    where
      by : (rule : Option Rule) → first_broken s.views.counts s.views.interval new.stmt.changes ≡ rule → Splits (frames.NewView new)
      by None clear = inl (all_of_clients s.views.counts s.views.interval new.stmt.changes clear)
      by (Some rule) broken = let end = new_refused R s new rule broken in inr (refused_idle _ end.0 end.1 end.2)
  of_clients_or_idle (frames.ViewConfirm began) = inl tt
  of_clients_or_idle (frames.ViewCert cert) = by (first_broken s.views.counts s.views.interval cert.new.stmt.changes) refl
    where
      by : (rule : Option Rule) → first_broken s.views.counts s.views.interval cert.new.stmt.changes ≡ rule → Splits (frames.ViewCert cert)
      by None clear = inl (all_of_clients s.views.counts s.views.interval cert.new.stmt.changes clear)
      by (Some rule) broken = let end = cert_refused R s cert rule broken in inr (refused_idle _ end.0 end.1 end.2)
  of_clients_or_idle (frames.Fetch fetch) = inl tt
  of_clients_or_idle (frames.State place snapshot) = inl tt
