-- A report that tells an entry of a client that there can't be breaks a rule: its row refuses it, or reads nothing of it.
use Rattle.std.proofs.Common.{◌≡◌, ℕ, nat_lt, Bool, true, false, cond, if◌then◌else◌, ◌||◌, List, [], ◌∷◌, length, map, Option, Some, None, Result, Err, refl, ap, ◌∙◌}
use Rattle.std.specs.Prelude.{All}
use Rattle.std.proofs.lemmas.List.Elements.{All-cons, All-nil}
use Rattle.zy_base.specs.Machine.{Rules}
use Rattle.zy_base.specs.declared.cause.Cause.{Cause}
use Rattle.zy_base.specs.declared.cause.Cause.TheVariants as causes
use Rattle.zy_base.specs.declared.counts.Counts.{Counts}
use Rattle.zy_base.specs.declared.step.Answer.TheVariants.{Taken}
use Rattle.zy_cert.specs.Signers.{has_repeat}
use Rattle.zy_chain.specs.declared.entry.Entry.{Entry}
use Rattle.zy_change.specs.Choosing.{choice_of}
use Rattle.zy_change.specs.Views.{has_begun, is_accepted, is_from, leads, slot_of}
use Rattle.zy_change.specs.declared.kept.Chosen.{Chosen}
use Rattle.zy_choose.specs.declared.choice.Choice.{Choice}
use Rattle.zy_change.specs.Confirming.{is_over}
use Rattle.zy_change.specs.Judging.{chosen_in, chosen_unless, first_broken, is_for_other, or_later}
use Rattle.zy_evidence.proofs.ProofLemmas.{all_clear}
use Rattle.zy_evidence.specs.Reading.{read}
use Rattle.zy_evidence.specs.Rules.{number_of, rule_of}
use Rattle.zy_evidence.specs.declared.rule.Rule.{Rule}
use Rattle.zy_law.specs.World.{World}
use Rattle.zy_parts.specs.declared.reports.Change.{Change}
use Rattle.zy_parts.specs.declared.reports.New.{New}
use Rattle.zy_parts.specs.declared.signed.Signed.{Signed}
use Rattle.zy_table.specs.Changes.{change, change_judged, send_cert}
use Rattle.zy_table.specs.Confirming.{certificate_judged, new_view, new_view_judged, view_certificate}
use Rattle.zy_table.specs.Deeds.{begin}
use Rattle.zy_table.specs.Leaving.{goes}
use Rattle.zy_table.specs.State as table
use Rattle.zy_table.specs.State.{State}
use Rattle.zy_vframes.specs.declared.frame.ViewCert.{ViewCert}
use Rattle.zy_law_views.specs.Held.{AreLinksKept}
use Rattle.zy_law_views.proofs.HeardRows.{sent_more}
use Rattle.zy_law_views.proofs.Leaves.{IsLawfulAttempt, IsOnWay, at_begin}
use Rattle.zy_law_views.specs.Rows.{IsReady, blames}
use Rattle.zy_law_views.specs.Frames.{AreLinksBrought, AreOfClients}

-- ---- entries of clients that there may be

module _ (counts : Counts) (interval : ℕ) where
  both_clear : (first later : Option Rule) → or_later first later ≡ None → (first ≡ None) × (later ≡ None)
  both_clear None later is = (refl, is)
  both_clear (Some rule) later is = absurd cc

  -- one that breaks no rule
  pub of_clients : (c : Signed Change) → rule_of counts interval c.stmt ≡ None → AreOfClients c
  of_clients c clear = ((all_clear counts interval c).0 clear).itself.entries.clients

  -- and so each of many
  pub all_of_clients : (list : List (Signed Change)) → first_broken counts interval list ≡ None → All AreOfClients list
  all_of_clients [] clear = All-nil AreOfClients
  all_of_clients (c ∷ rest) clear =
      let both = both_clear (rule_of counts interval c.stmt) (first_broken counts interval rest) clear in
      All-cons AreOfClients c rest (of_clients c both.0) (all_of_clients rest both.1)

-- ---- so their links are kept

module _ (w : World) (counts : Counts) (interval : ℕ) where
  pub links_of : (c : Signed Change) → AreLinksBrought w c → rule_of counts interval c.stmt ≡ None → AreLinksKept w c
  links_of c brought clear = brought (of_clients counts interval c clear)

  pub links_of_all : (list : List (Signed Change)) → All (AreLinksBrought w) list → first_broken counts interval list ≡ None → All (AreLinksKept w) list
  links_of_all list brought clear k d within = brought k d within (all_of_clients counts interval list clear k d within)

-- ---- what refuses it

-- Nothing is chosen out of a new view where a report breaks a rule, and that blames nobody.
unchosen : (counts : Counts) (interval : ℕ) (n : New) (rule : Rule) → first_broken counts interval n.changes ≡ Some rule → (cause : Cause) × (chosen_in counts interval n ≡ Err cause) × (blames cause ≡ false)
unchosen counts interval n rule broken =
    let at = by (nat_lt (length n.changes) counts.change) (nat_lt counts.change (length n.changes)) (has_repeat n.changes) (is_for_other n.view n.changes) in
    (at.0, ap judged broken ∙ at.1, at.2)
  where
    choice : Choice
    choice = choice_of counts.agree (map read n.changes)

    unless : (short long repeats others : Bool) → Option Rule → Result Chosen Cause
    unless short long repeats others found =
        if short then Err (causes.TooFew (length n.changes))
        else (if long then Err causes.Mixed
        else (if repeats then Err causes.Repeat
        else (if others then Err causes.Mixed
        else chosen_unless found choice)))

    judged : Option Rule → Result Chosen Cause
    judged = unless (nat_lt (length n.changes) counts.change) (nat_lt counts.change (length n.changes)) (has_repeat n.changes) (is_for_other n.view n.changes)

    by : (short long repeats others : Bool) → (cause : Cause) × (unless short long repeats others (Some rule) ≡ Err cause) × (blames cause ≡ false)
    by true long repeats others = (causes.TooFew (length n.changes), refl, refl)
    by false true repeats others = (causes.Mixed, refl, refl)
    by false false true others = (causes.Repeat, refl, refl)
    by false false false true = (causes.Mixed, refl, refl)
    by false false false false = (causes.BadReport (number_of rule), refl, refl)

module _ {S : Type 0} (R : Rules S) (s : State S) where
  -- such a new view is refused
  pub new_refused : (new : Signed New) (rule : Rule) → first_broken s.views.counts s.views.interval new.stmt.changes ≡ Some rule → (cause : Cause) × (new_view R s new ≡ Err cause) × (blames cause ≡ false)
  unfolding new_view
  new_refused new rule broken =
      let none = unchosen s.views.counts s.views.interval new.stmt rule broken in
      by none.0 none.1 none.2 (is_over s.views new.stmt.view.0) (is_accepted new.stmt.view.0 s.views.accepted || leads s.views new.stmt.view.0)
    where
      by : (cause : Cause) → chosen_in s.views.counts s.views.interval new.stmt ≡ Err cause → blames cause ≡ false → (over repeated : Bool)
          → (cause : Cause) × (cond over (Err causes.OldView) (cond repeated (Err causes.Repeat) (new_view_judged R s new (chosen_in s.views.counts s.views.interval new.stmt))) ≡ Err cause) × (blames cause ≡ false)
      by cause none free true repeated = (causes.OldView, refl, refl)
      by cause none free false true = (causes.Repeat, refl, refl)
      by cause none free false false = (cause, ap (new_view_judged R s new) none, free)

  -- and so is a certificate of it
  pub cert_refused : (cert : ViewCert) (rule : Rule) → first_broken s.views.counts s.views.interval cert.new.stmt.changes ≡ Some rule → (cause : Cause) × (view_certificate R s cert ≡ Err cause) × (blames cause ≡ false)
  unfolding view_certificate
  cert_refused cert rule broken =
      let none = unchosen s.views.counts s.views.interval cert.new.stmt rule broken in
      by none.0 none.1 none.2 (is_over s.views cert.new.stmt.view.0)
    where
      by : (cause : Cause) → chosen_in s.views.counts s.views.interval cert.new.stmt ≡ Err cause → blames cause ≡ false → (over : Bool)
          → (cause : Cause) × (cond over (Err causes.OldView) (certificate_judged R s cert (chosen_in s.views.counts s.views.interval cert.new.stmt)) ≡ Err cause) × (blames cause ≡ false)
      by cause none free true = (causes.OldView, refl, refl)
      by cause none free false = (cause, ap (certificate_judged R s cert) none, free)

module _ {S : Type 0} (R : Rules S) (interval : ℕ) (w : World) (r : ℕ) (s : State S) (history : List Entry) (ready : IsReady R interval w r s history) where
  certificate_sent : (vote : Signed Change) (cert : Option ViewCert) → IsOnWay R interval w r s history ready (send_cert vote.by cert (begin s))
  certificate_sent vote None = at_begin R interval w r s history ready
  certificate_sent vote (Some cert) = sent_more R interval w r s history ready (begin s) _ (at_begin R interval w r s history ready)

  -- a report that breaks a rule is refused, or answered with the certificate of the own view
  pub broken_attempt : (vote : Signed Change) (rule : Rule) → rule_of s.views.counts s.views.interval vote.stmt ≡ Some rule → IsLawfulAttempt R interval w r s history ready (change R s vote)
  unfolding change
  broken_attempt vote rule broken =
      by (nat_lt vote.stmt.view.0 (table.own_view s)) (has_begun s.views.mode vote.stmt.view.0) (is_from vote.stmt.view.0 (slot_of vote.by s.views.changes)) (rule_of s.views.counts s.views.interval vote.stmt) broken
    where
      by : (old begun repeated : Bool) (found : Option Rule) → found ≡ Some rule
          → IsLawfulAttempt R interval w r s history ready (cond old (Err causes.OldView) (cond begun (goes Taken (send_cert vote.by s.views.view_cert (begin s))) (cond repeated (Err causes.Repeat) (change_judged R s vote found))))
      by true begun repeated found is = refl
      by false true repeated found is = certificate_sent vote s.views.view_cert
      by false false true found is = refl
      by false false false (Some other) is = refl
      by false false false None is = absurd cc
