-- A new view out of which something is chosen can be sent, and so can its certificate: its reports are few, and short.
use Rattle.std.proofs.Common.{◌≡◌, ℕ, ◌≤◌, nat_lt, Bool, true, false, if◌then◌else◌, [], length, All, Option, Some, None, Result, Ok, Err, refl, sym, ap, ◌∙◌, arith}
use Rattle.std.specs.Prelude.{◌||◌, IsSome, IfSome}
use Rattle.std.proofs.lemmas.Bool.{ltb-false}
use Rattle.std.proofs.lemmas.List.Elements.{All-weaker}
use Rattle.zy_base.specs.declared.cause.Cause.{Cause}
use Rattle.zy_base.specs.declared.cause.Cause.TheVariants as causes
use Rattle.zy_base.specs.declared.counts.Counts.{Counts}
use Rattle.zy_base.specs.declared.ids.View.{View}
use Rattle.zy_parts.specs.declared.signed.Signed.{Signed}
use Rattle.zy_parts.specs.declared.reports.New.{New}
use Rattle.zy_parts.specs.declared.reports.Told.{Told}
use Rattle.zy_vframes.specs.ViewFrames.{IsFrameInRange, IsShortNew, IsShortReport}
use Rattle.zy_vframes.specs.declared.frame.ViewCert.{ViewCert}
use Rattle.zy_vframes.specs.declared.frame.ViewFrame.TheVariants as frames
use Rattle.zy_change.specs.declared.kept.Chosen.{Chosen}
use Rattle.zy_change.specs.declared.owed.Adoption.{Adoption}
use Rattle.zy_change.specs.declared.owed.Owed.{Owed}
use Rattle.zy_change.specs.Fit.{IsAccepted, IsCertified, IsGiven}
use Rattle.zy_change.specs.Owing.{Pens, refused}
use Rattle.zy_change.specs.Views.{Views, is_accepted, leads}
use Rattle.zy_change.specs.Confirming.{cert_judged, is_over, new_view_judged, new_view_owes, view_cert_owes}
use Rattle.zy_change.specs.Judging.{chosen_in}
use Rattle.zy_table.proofs.ReportLemmas.{rule-short}
use Rattle.zy_table.specs.Leaving.{report_of}
use Rattle.zy_table.specs.Sending.{CanBeSent}
use Rattle.zy_table.specs.declared.deeds.AnyFrame.TheVariants as sent
use Rattle.zy_table.specs.State.{State}
use Rattle.zy_replica_views.specs.Ending.{IsCertOwed, IsNewOwed}
use Rattle.zy_replica_views.specs.Entering.{Accepts}

-- ---- as many reports as a new view has

module _ (counts : Counts) (interval : ℕ) (new : New) (chosen : Chosen) where
  IsFew : Type 0
  IsFew = length new.changes ≤ counts.change

  many_or : Bool → Result Chosen Cause → Result Chosen Cause
  many_or b rest = if b then Err causes.Mixed else rest

  at_most : (b : Bool) (rest : Result Chosen Cause) → nat_lt counts.change (length new.changes) ≡ b → many_or b rest ≡ Ok chosen → IsFew
  unfolding IsFew many_or
  at_most true rest many is = absurd cc
  at_most false rest few is = ltb-false counts.change (length new.changes) few

  at_least : (b : Bool) (rest : Result Chosen Cause) → (if b then Err (causes.TooFew (length new.changes)) else many_or (nat_lt counts.change (length new.changes)) rest) ≡ Ok chosen → IsFew
  at_least true rest is = absurd cc
  at_least false rest is = at_most (nat_lt counts.change (length new.changes)) rest refl is

  chosen_few : chosen_in counts interval new ≡ Ok chosen → length new.changes ≤ counts.change
  unfolding IsFew many_or
  chosen_few is = at_least (nat_lt (length new.changes) counts.change) _ is

-- ---- what owes something was chosen out of so many

module _ (v : Views) (new : Signed New) (told : Told) (pens : Pens) (chosen : Chosen) where
  judged_few : (r : Result Chosen Cause) → chosen_in v.counts v.interval new.stmt ≡ r → (new_view_judged r v new told pens).confirm ≡ Some chosen → length new.stmt.changes ≤ v.counts.change
  judged_few (Err cause) is confirms = absurd cc
  judged_few (Ok found) is confirms = chosen_few v.counts v.interval new.stmt found is

  new_few : (new_view_owes v new told pens).confirm ≡ Some chosen → length new.stmt.changes ≤ v.counts.change
  new_few = past (is_over v new.stmt.view.0)
    where
      repeated : (b : Bool) → (if b then refused causes.Repeat else new_view_judged (chosen_in v.counts v.interval new.stmt) v new told pens).confirm ≡ Some chosen → length new.stmt.changes ≤ v.counts.change
      repeated true confirms = absurd cc
      repeated false confirms = judged_few (chosen_in v.counts v.interval new.stmt) refl confirms

      past : (b : Bool)
          → (if b then refused causes.OldView else (if is_accepted new.stmt.view.0 v.accepted || leads v new.stmt.view.0 then refused causes.Repeat else new_view_judged (chosen_in v.counts v.interval new.stmt) v new told pens)).confirm ≡ Some chosen
          → length new.stmt.changes ≤ v.counts.change
      past true confirms = absurd cc
      past false confirms = repeated (is_accepted new.stmt.view.0 v.accepted || leads v new.stmt.view.0) confirms

module _ (v : Views) (cert : ViewCert) (a : Adoption) where
  found_few : (r : Result Chosen Cause) → chosen_in v.counts v.interval cert.new.stmt ≡ r → (cert_judged r v cert).adopt ≡ Some a → length cert.new.stmt.changes ≤ v.counts.change
  found_few (Err cause) is adopts = absurd cc
  found_few (Ok found) is adopts = chosen_few v.counts v.interval cert.new.stmt found is

  cert_few : (view_cert_owes v cert).adopt ≡ Some a → length cert.new.stmt.changes ≤ v.counts.change
  cert_few = past (is_over v cert.new.stmt.view.0)
    where
      past : (b : Bool) → (if b then refused causes.OldView else cert_judged (chosen_in v.counts v.interval cert.new.stmt) v cert).adopt ≡ Some a → length cert.new.stmt.changes ≤ v.counts.change
      past true adopts = absurd cc
      past false adopts = found_few (chosen_in v.counts v.interval cert.new.stmt) refl adopts

-- ---- so it is short

short : (counts : Counts) (interval : ℕ) (view : View) (new : Signed New) → All (IsGiven counts interval view) new.stmt.changes → length new.stmt.changes ≤ counts.change → IsShortNew new
short counts interval view new given few =
    record {
      changes = omega (arith, few, counts.sound.short_change);
      reports = All-weaker (IsGiven counts interval view) (λ c. IsShortReport c.stmt.told) (λ c gives. rule-short counts interval c.stmt gives.keeps_rules) new.stmt.changes given;
    }

module _ {S : Type 0} (s : State S) where
  new_sends : (new : Signed New) (owed : Owed) (chosen : Chosen) (told : Told) (pens : Pens) → IsNewOwed s new owed → owed.confirm ≡ Some chosen → IsAccepted s.views.counts s.views.interval (record { new = new; chosen = chosen }) → CanBeSent (sent.View (frames.NewView new))
  new_sends new owed chosen told pens owes confirms is =
      let few = new_few s.views new told pens chosen (ap (λ (o : Owed). o.confirm) (sym (owes told pens)) ∙ confirms) in
      (is.in_range, short s.views.counts s.views.interval new.stmt.view new is.reports few)

  -- whatever the signatures will be
  pub accepted_sends : (new : Signed New) (owed : Owed) (chosen : Chosen) → IsNewOwed s new owed → owed.confirm ≡ Some chosen → Accepts s new owed → CanBeSent (sent.View (frames.NewView new))
  accepted_sends new owed chosen owes confirms accepts =
      new_sends new owed chosen (report_of s) (record { change = λ c. []; new = λ n. []; began = λ b. [] }) owes confirms (accepts chosen confirms)

  cert_sends : (cert : ViewCert) (owed : Owed) (a : Adoption) → IsCertOwed s cert owed → owed.adopt ≡ Some a → IsAccepted s.views.counts s.views.interval (record { new = cert.new; chosen = a.chosen }) → IsFrameInRange (frames.ViewCert cert) → CanBeSent (sent.View (frames.ViewCert cert))
  cert_sends cert owed a owes adopts is range =
      let few = cert_few s.views cert a (ap (λ (o : Owed). o.adopt) (sym owes) ∙ adopts) in
      (range, short s.views.counts s.views.interval cert.new.stmt.view cert.new is.reports few)

  pub sends_some : (cert : ViewCert) (owed : Owed) → IsCertOwed s cert owed → IsSome owed.adopt → IfSome owed.adopt (λ a. IsCertified s.views.counts s.views.interval cert a.chosen) → IsFrameInRange (frames.ViewCert cert) → CanBeSent (sent.View (frames.ViewCert cert))
  sends_some cert owed owes adopts certified range = by owed.adopt refl adopts certified
    where
      by : (o : Option Adoption) → owed.adopt ≡ o → IsSome o → IfSome o (λ a. IsCertified s.views.counts s.views.interval cert a.chosen) → CanBeSent (sent.View (frames.ViewCert cert))
      by None is some certified = absurd cc
      by (Some a) is some certified = cert_sends cert owed a owes is certified.accepted range
