-- What a new view that was confirmed lets a replica adopt, by its provider's report.
use Rattle.std.proofs.Common.{◌≡◌, ℕ, ◌≤◌, nat_eq, not, Bool, true, false, if◌then◌else◌, Option, Some, None, refl, sym, ap, ◌∙◌, subst, arith}
use Rattle.std.specs.Prelude.{◌||◌, IfSome, slice_get}
use Rattle.std.specs.Option.{ForSome}
use Rattle.std.proofs.lemmas.Bool.{eqb-true, ltb-false}
use Rattle.std.proofs.lemmas.Option.{same_Some}
use Rattle.zy_base.specs.declared.cause.Cause.TheVariants as causes
use Rattle.zy_base.specs.declared.ids.View.{View}
use Rattle.zy_parts.specs.declared.signed.Signed.{Signed}
use Rattle.zy_parts.specs.declared.reports.Began.{Began}
use Rattle.zy_parts.specs.declared.reports.Change.{Change}
use Rattle.zy_parts.specs.declared.reports.New.{New}
use Rattle.zy_vframes.specs.declared.frame.ViewCert.{ViewCert}
use Rattle.zy_cert.specs.Equal.{same_began, same_digest}
use Rattle.zy_chain.specs.Stretch.{head_in}
use Rattle.zy_evidence.specs.Reading.{stretch_of}
use Rattle.zy_evidence.specs.Rules.{rule_of}
use Rattle.zy_change.specs.declared.kept.Accepted.{Accepted}
use Rattle.zy_change.specs.declared.owed.Adoption.{Adoption}
use Rattle.zy_change.specs.declared.owed.Owed.{Owed}
use Rattle.zy_change.proofs.AcceptedLemmas.{accepted_given, accepted_provider}
use Rattle.zy_change.specs.Fit.{IsAccepted, IsFit}
use Rattle.zy_change.specs.Owing.{adopt_if, adoption_by, certify, certify_with, change_to, nothing, onward, provider_in, refused}
use Rattle.zy_change.specs.Views.{Views, began_for, certificate_if, certificate_of, own_view, slot_of, with_began}
use Rattle.zy_change.specs.Confirming.{accepted_for, began_compared, began_judged, began_owes, is_began_from, is_over}
use Rattle.zy_table.specs.State.{State}
use Rattle.zy_replica_views.proofs.FollowLemmas.{for_none, for_some, new_of_cert}
use Rattle.zy_replica_views.specs.Entering.{CanEnter, view_after}
use Rattle.zy_replica_views.proofs.EndLemmas.{IsEntry}

-- ---- an accepted new view

module _ {S : Type 0} (s : State S) (leave : Option View) (x : Accepted) (is : IsAccepted s.views.counts s.views.interval x) (later : view_after s leave ≤ x.new.stmt.view.0) where
  -- by its provider's report
  pub given_enters : (c : Signed Change) → provider_in x ≡ Some c → CanEnter s leave (record { view = x.new.stmt.view; chosen = x.chosen; told = c.stmt.told })
  given_enters c there =
      let (given, range) = accepted_given s.views.counts s.views.interval x is c there in
      let (other, at, head) = accepted_provider s.views.counts s.views.interval x is in
      let same : other ≡ c = same_Some other c (sym at ∙ there) in
      record {
        report = record {
          in_range = range.0.1;
          keeps_rules = ap (λ (v : View). rule_of s.views.counts s.views.interval (change_to v c.stmt.told)) (sym given.view_is) ∙ given.keeps_rules;
        };
        chosen = subst (λ (y : Signed Change). head_in (stretch_of y.stmt.told) x.chosen.place.0 ≡ Some x.chosen.head) same head;
        later = later;
      }

  enters_by : (o : Option (Signed Change)) → provider_in x ≡ o → ForSome (adoption_by x o) (CanEnter s leave)
  enters_by None there = for_none _
  enters_by (Some c) there = for_some _ _ (given_enters c there)

  -- can be judged
  pub accepted_enters : ForSome (adoption_by x (provider_in x)) (CanEnter s leave)
  accepted_enters = enters_by (provider_in x) refl

module _ (v : Views) (x : Accepted) (accepted : v.accepted ≡ Some x) (cert : ViewCert) (enough : certificate_of v x ≡ Some cert) where
  entry_by : (o : Option (Signed Change)) → provider_in x ≡ o → ForSome (adoption_by x o) (λ a. IsEntry a v)
  entry_by None there = for_none _
  entry_by (Some c) there =
      let new : cert.new ≡ x.new = new_of_cert x.new _ cert enough in
      for_some _ _ (
      record {
        cert = cert;
        view = ap (λ (n : Signed New). n.stmt.view) new;
        accepted = accepted ∙ ap (λ (n : Signed New). Some (record { new = n; chosen = x.chosen })) (sym new);
        enough = ap (certificate_if v) accepted ∙ enough;
        provider = c;
        given = ap (λ (n : Signed New). slice_get n.stmt.changes x.chosen.provider) new ∙ there;
        told = refl;
      }
      )

  -- and begins with what is kept
  pub accepted_entry : ForSome (adoption_by x (provider_in x)) (λ a. IsEntry a v)
  accepted_entry = entry_by (provider_in x) refl

-- ---- another's confirmation

pub or_neither : (a b : Bool) → (a || b) ≡ false → a ≡ false
or_neither true b is = absurd cc
or_neither false b is = refl

-- a view that isn't over isn't below the own one
pub not_over : (v : Views) (view : ℕ) → is_over v view ≡ false → own_view v ≤ view
not_over v view is = ltb-false _ _ (or_neither _ _ is)

-- what it owes
pub record IsVoteOwed {S : Type 0} (s : State S) (after : Views) (owed : Owed) : Type 0 where
  pub signs : owed.signs ≡ 0
  pub leave : owed.leave ≡ None
  pub enters : ForSome owed.adopt (CanEnter s None)
  pub entry : ForSome owed.adopt (λ a. IsEntry a after)

module _ {S : Type 0} (s : State S) (fit : IsFit s.views) (vote : Signed Began) where
  abbrev kept : Views
  kept = with_began vote s.views

  abbrev Owes : Owed → Type 0
  Owes = IsVoteOwed s kept

  rests : (owed : Owed) → owed.signs ≡ 0 → owed.leave ≡ None → owed.adopt ≡ None → Owes owed
  rests owed signs leave adopt =
      record {
        signs = signs;
        leave = leave;
        enters = subst (λ (o : Option Adoption). ForSome o (CanEnter s None)) (sym adopt) (for_none _);
        entry = subst (λ (o : Option Adoption). ForSome o (λ a. IsEntry a kept)) (sym adopt) (for_none _);
      }

  by_cert : (x : Accepted) → s.views.accepted ≡ Some x → own_view s.views ≤ x.new.stmt.view.0 → (cert : Option ViewCert) → certificate_of kept x ≡ cert → Owes (adopt_if x cert nothing)
  by_cert x there later None few = rests nothing refl refl refl
  by_cert x there later (Some cert) enough =
      let is : IsAccepted s.views.counts s.views.interval x = subst (λ (o : Option Accepted). IfSome o (IsAccepted s.views.counts s.views.interval)) there fit.accepted in
      record { signs = refl; leave = refl; enters = accepted_enters s None x is later; entry = accepted_entry kept x there cert enough }

  by_accepted : (accepted : Option Accepted) → s.views.accepted ≡ accepted → ((x : Accepted) → accepted ≡ Some x → own_view s.views ≤ x.new.stmt.view.0) → Owes (certify_with accepted (onward kept))
  by_accepted None there later = rests nothing refl refl refl
  by_accepted (Some x) there later = by_cert x there (later x refl) (certificate_of kept x) refl

  compared : (own : Began) → ((x : Accepted) → s.views.accepted ≡ Some x → own_view s.views ≤ x.new.stmt.view.0) → Owes (began_compared own s.views vote)
  compared own later = by (same_digest own.head vote.stmt.head) (same_began vote.stmt own)
    where
      by : (heads all : Bool) → Owes (if not heads then refused (causes.OtherHistory own.head vote.stmt.head) else (if all then certify (onward kept) else refused causes.Unmatched))
      by false all = rests _ refl refl refl
      by true false = rests _ refl refl refl
      by true true = by_accepted s.views.accepted refl later

  judged : (accepted : Option Accepted) → ((x : Accepted) → accepted ≡ Some x → (y : Accepted) → s.views.accepted ≡ Some y → own_view s.views ≤ y.new.stmt.view.0) → Owes (began_judged accepted s.views vote)
  judged None later = rests _ refl refl refl
  judged (Some x) later = compared (began_for x.new.stmt.view x.chosen) (later x refl)

  -- the new view that it is compared with is of its view
  of_view : (accepted : Option Accepted) (x y : Accepted) → accepted_for vote.stmt.view.0 accepted ≡ Some x → accepted ≡ Some y → vote.stmt.view.0 ≡ y.new.stmt.view.0
  of_view None x y is there = absurd cc
  of_view (Some z) x y is there = by (nat_eq z.new.stmt.view.0 vote.stmt.view.0) refl is
    where
      by : (b : Bool) → nat_eq z.new.stmt.view.0 vote.stmt.view.0 ≡ b → (if b then Some z else None) ≡ Some x → vote.stmt.view.0 ≡ y.new.stmt.view.0
      by false other none = absurd cc
      by true equal here = sym (eqb-true _ _ equal) ∙ ap (λ (a : Accepted). a.new.stmt.view.0) (same_Some z y there)

  pub vote_owes : Owes (began_owes s.views vote)
  vote_owes = by (is_over s.views vote.stmt.view.0) refl (is_began_from vote.stmt.view.0 (slot_of vote.by s.views.begans))
    where
      by : (over : Bool) → is_over s.views vote.stmt.view.0 ≡ over → (again : Bool)
          → Owes (if over then refused causes.OldView else (if again then refused causes.Repeat else began_judged (accepted_for vote.stmt.view.0 s.views.accepted) s.views vote))
      by true over again = rests _ refl refl refl
      by false over true = rests _ refl refl refl
      by false over false = judged (accepted_for vote.stmt.view.0 s.views.accepted) (λ x is y there. (let low = not_over s.views vote.stmt.view.0 over in let same = of_view s.views.accepted x y is there in omega (arith, low, same)))
