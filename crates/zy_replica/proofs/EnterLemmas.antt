-- What a step owes to be adopted can be entered: the report that gives it breaks no rule and has the choice.
use Rattle.std.proofs.Common.{◌≡◌, ℕ, ◌+◌, ◌^◌, ◌<◌, ◌≤◌, nat_eq, nat_lt, Bool, true, false, if◌then◌else◌, [], length, Option, Some, None, refl, sym, ap, ◌∙◌, subst, arith}
use Rattle.std.specs.Prelude.{◌&&◌}
use Rattle.std.specs.Option.{ForSome}
use Rattle.std.proofs.lemmas.Bool.{and_parts, leb-true, ltb-true, eqb-true}
use Rattle.zy_base.specs.declared.cause.Cause.TheVariants as causes
use Rattle.zy_base.specs.declared.ids.Party.{Party}
use Rattle.zy_base.specs.declared.ids.Party.TheVariants.{Replica, Client}
use Rattle.zy_base.specs.declared.ids.View.{View}
use Rattle.zy_chain.specs.Stretch.{head_in}
use Rattle.zy_base.specs.declared.counts.Counts.{Counts}
use Rattle.zy_parts.specs.Reports.{IsChangeInRange, IsToldInRange}
use Rattle.zy_parts.specs.Signing.{IsSignedInRange}
use Rattle.zy_parts.specs.declared.signed.Signed.{Signed}
use Rattle.zy_parts.specs.declared.statements.Hate.{Hate}
use Rattle.zy_parts.specs.declared.reports.Change.{Change}
use Rattle.zy_parts.specs.declared.reports.Told.{Told}
use Rattle.zy_vframes.specs.declared.frame.ViewCert.{ViewCert}
use Rattle.zy_choose.specs.declared.choice.Choice.{Choice}
use Rattle.zy_choose.specs.declared.choice.Choice.TheVariants as choices
use Rattle.zy_evidence.specs.Reading.{IsReplica, number_of_party, stretch_of}
use Rattle.zy_evidence.specs.Rules.{number_of, rule_of}
use Rattle.zy_evidence.specs.declared.rule.Rule.{Rule}
use Rattle.zy_change.proofs.AcceptedLemmas.{accepted_given, accepted_provider}
use Rattle.zy_change.proofs.AheadLemmas.{above_own, first_above}
use Rattle.zy_change.proofs.FitLemmas.{all_there, as_long, as_many, told_later, with_change-fit}
use Rattle.zy_change.proofs.GivingLemmas.{given, new_in_range}
use Rattle.zy_change.specs.declared.kept.Accepted.{Accepted}
use Rattle.zy_change.specs.declared.owed.Adoption.{Adoption}
use Rattle.zy_change.specs.declared.owed.Owed.{Owed}
use Rattle.zy_change.specs.Fit.{IsAccepted, IsFit, IsKeptChange, IsTrueReport}
use Rattle.zy_change.specs.Owing.{Onward, accept, accepted_as, accepting, adopt_if, adoption_by, change_judged, change_kept, change_to, choice_in, collect, give, giving, hate_counted, hate_owes, hated_by_many, is_gathering, is_left_behind, leave, least_above, leaving_alone, leaving_owes, next_view, nothing, onward, provider_in, refused, sends_to, signed_by}
use Rattle.zy_change.specs.Views.{Views, certificate_of, changes_for, has_begun, is_from, is_hated_by, left, own_view, slot_of, view_above, views_above, with_change, with_hate}
use Rattle.zy_table.specs.Leaving.{report_of}
use Rattle.zy_table.specs.State.{State}
use Rattle.zy_replica_views.proofs.FollowLemmas.{for_some}
use Rattle.zy_replica_views.specs.Follows.{IsChangeOwed, IsHateOwed, IsLeaveOwed}
use Rattle.zy_replica_views.specs.Entering.{view_after}
use Rattle.zy_replica.specs.Judging.{CanAll, LeavesToEnter}
use Rattle.zy_replica.proofs.HeardLemmas.{no_pens}

-- It is adopted for this view, once the replica has left for that view, if for any.
pub record Entering (counts : Counts) (interval : ℕ) (view : View) (to : Option View) (owed : Owed) (a : Adoption) : Type 0 where
  pub in_range : IsToldInRange a.told
  pub keeps_rules : rule_of counts interval (change_to a.view a.told) ≡ None
  pub chosen : head_in (stretch_of a.told) a.chosen.place.0 ≡ Some a.chosen.head
  pub view_is : a.view ≡ view
  pub leave_is : owed.leave ≡ to

abbrev pub Enters : Counts → ℕ → View → Option View → Owed → Type 0
Enters counts interval view to owed = ForSome owed.adopt (Entering counts interval view to owed)

nothing_enters : (counts : Counts) (interval : ℕ) (view : View) (to : Option View) (owed : Owed) → owed.adopt ≡ None → Enters counts interval view to owed
nothing_enters counts interval view to owed none = λ a some. (let never : None ≡ Some a = sym none ∙ some in absurd cc)

-- ---- the choice out of given reports

module _ (counts : Counts) (interval : ℕ) (a : Accepted) (is : IsAccepted counts interval a) (owed : Owed) where
  given_enters : Enters counts interval a.new.stmt.view owed.leave (record owed { adopt = adoption_by a (provider_in a) })
  given_enters =
      let (c, there, head) = accepted_provider counts interval a is in
      let (gives, range) = accepted_given counts interval a is c there in
      subst (λ (o : Option (Signed Change)). Enters counts interval a.new.stmt.view owed.leave (record owed { adopt = adoption_by a o })) (sym there)
      (for_some (record { view = a.new.stmt.view; chosen = a.chosen; told = c.stmt.told }) (Entering counts interval a.new.stmt.view owed.leave (record owed { adopt = adoption_by a (Some c) }))
      (record {
        in_range = range.0.1;
        keeps_rules = subst (λ (w : View). rule_of counts interval (change_to w c.stmt.told) ≡ None) gives.view_is gives.keeps_rules;
        chosen = head;
        view_is = refl;
        leave_is = refl;
      }))

  certified_enters : owed.adopt ≡ None → (cert : Option ViewCert) → Enters counts interval a.new.stmt.view owed.leave (adopt_if a cert owed)
  certified_enters none None = nothing_enters counts interval a.new.stmt.view owed.leave owed none
  certified_enters none (Some cert) = given_enters

accept_enters : (w : Onward) (a : Accepted) → IsAccepted w.views.counts w.views.interval a → w.owed.adopt ≡ None → Enters w.views.counts w.views.interval a.new.stmt.view w.owed.leave (accept a no_pens w)
unfolding accept
accept_enters w a is none =
    let end = accepting a no_pens w in
    certified_enters w.views.counts w.views.interval a is end.owed none (certificate_of end.views a)

-- ---- a new view that is given

module _ (view : View) (w : Onward) (fit : IsFit w.views) (none : w.owed.adopt ≡ None) where
  abbrev v : Views
  v = w.views

  enough : is_gathering v view.0 ≡ true → v.counts.change ≤ length (changes_for view.0 v.changes)
  enough is = leb-true _ _ (and_parts _ _ (and_parts _ _ is).1).1

  give_enters : is_gathering v view.0 ≡ true → (choice : Choice) → choice_in v view.0 ≡ choice → Enters v.counts v.interval view w.owed.leave (give view no_pens choice w)
  give_enters gathers (choices.AnchorClash first second) is = nothing_enters v.counts v.interval view w.owed.leave (refused (causes.AnchorClash first second)) refl
  give_enters gathers (choices.Chosen provider place head) is =
      accept_enters (giving view w) (accepted_as v no_pens view (record { provider = provider; place = place; head = head }))
      (record { in_range = (new_in_range v view fit (enough gathers), omega arith); reports = given v view fit; chosen = is }) none

  collect_enters : Enters v.counts v.interval view w.owed.leave (collect view no_pens w)
  unfolding collect
  collect_enters = by (is_gathering v view.0) refl
    where
      by : (b : Bool) → is_gathering v view.0 ≡ b → Enters v.counts v.interval view w.owed.leave (if b then give view no_pens (choice_in v view.0) w else w.owed)
      by true gathers = give_enters gathers (choice_in v view.0) refl
      by false rests = nothing_enters v.counts v.interval view w.owed.leave w.owed none

-- ---- a leave

left-fit : (v : Views) (view : View) → IsFit v → own_view v < view.0 → view.0 < 2 ^ 62 → IsFit (left view v)
left-fit v view fit above below =
    let low = fit.last in
    record {
      at_least = fit.at_least;
      at_most = fit.at_most;
      me = fit.me;
      last = omega (arith, low, above);
      own = below;
      changes = fit.changes;
      hated = as_many v.counts.n false;
      begans = fit.begans;
      kept = fit.kept;
      confirmed = fit.confirmed;
      accepted = tt;
      waiting = tt;
      view_cert = fit.view_cert;
      told = record { began_place = fit.told.began_place; began = fit.told.began; specs = fit.told.specs; began_proven = fit.told.began_proven; specs_proven = fit.told.specs_proven };
    }

module _ (view : View) (told : Told) (w : Onward) (fit : IsFit w.views) (true_report : IsTrueReport w.views told) (above : own_view w.views < view.0) (none : w.owed.adopt ≡ None) where
  abbrev own : Signed Change
  own = signed_by w.views no_pens.change (change_to view told)

  own_kept : view.0 < 2 ^ 62 → IsKeptChange w.views.counts w.views.interval (number_of_party own.by) own
  own_kept below =
      let report = told_later w.views told view fit true_report above in
      record { by = refl; in_range = (((omega (arith, above), below), report.in_range), omega arith); keeps_rules = report.keeps_rules }

  leave_enters : Enters w.views.counts w.views.interval view (Some view) (leave view told no_pens w)
  unfolding leave
  leave_enters = by (nat_lt view.0 (2 ^ 62)) refl
    where
      by : (b : Bool) → nat_lt view.0 (2 ^ 62) ≡ b → Enters w.views.counts w.views.interval view (Some view) (if b then collect view no_pens (leaving_alone view told no_pens w) else refused causes.NewerView)
      by true below =
          collect_enters view (leaving_alone view told no_pens w)
          (left-fit (with_change own w.views) view (with_change-fit w.views own fit (own_kept (ltb-true _ _ below))) above (ltb-true _ _ below)) none
      by false past = nothing_enters w.views.counts w.views.interval view (Some view) (refused causes.NewerView) refl

-- ---- a hate

with_hate-fit : (v : Views) (by : Party) → IsFit v → IsFit (with_hate by v)
with_hate-fit v by fit =
    record {
      at_least = fit.at_least;
      at_most = fit.at_most;
      me = fit.me;
      last = fit.last;
      own = fit.own;
      changes = fit.changes;
      hated = as_long v.hated (number_of_party by) true ∙ fit.hated;
      begans = fit.begans;
      kept = fit.kept;
      confirmed = fit.confirmed;
      accepted = fit.accepted;
      waiting = fit.waiting;
      view_cert = fit.view_cert;
      told = record { began_place = fit.told.began_place; began = fit.told.began; specs = fit.told.specs; began_proven = fit.told.began_proven; specs_proven = fit.told.specs_proven };
    }

-- it is told by the replica of all its views
again : (v w : Views) (told : Told) → w.last_view ≡ v.last_view → w.counts ≡ v.counts → w.interval ≡ v.interval → IsTrueReport v told → IsTrueReport w told
again v w told last counts interval is = record { last = is.last ∙ sym last; in_range = is.in_range; keeps_rules = rw (counts, interval) is.keeps_rules }

module _ (v : Views) (told : Told) (fit : IsFit v) (true_report : IsTrueReport v told) where
  -- it leaves for the view that it enters
  abbrev EntersNext : Owed → Type 0
  EntersNext owed = Enters v.counts v.interval (next_view v) (Some (next_view v)) owed

  counted_enters : (by : Party) → EntersNext (hate_counted (with_hate by v) told no_pens)
  counted_enters by = at (hated_by_many (with_hate by v))
    where
      at : (b : Bool) → EntersNext (if b then leave (next_view v) told no_pens (onward (with_hate by v)) else nothing)
      at true =
          leave_enters (next_view v) told (onward (with_hate by v)) (with_hate-fit v by fit)
          (again v (with_hate by v) told refl refl refl true_report) (omega arith) refl
      at false = nothing_enters v.counts v.interval (next_view v) (Some (next_view v)) nothing refl

  hate_enters : (vote : Signed Hate) → EntersNext (hate_owes v vote told no_pens)
  hate_enters vote = past (nat_lt vote.stmt.view.0 (own_view v))
    where
      again_at : Bool → Owed
      again_at b = if b then refused causes.Repeat else hate_counted (with_hate vote.by v) told no_pens

      later_at : Bool → Owed
      later_at b = if b then refused causes.NewerView else again_at (is_hated_by v vote.by)

      repeated : (b : Bool) → EntersNext (again_at b)
      repeated true = nothing_enters v.counts v.interval (next_view v) (Some (next_view v)) (refused causes.Repeat) refl
      repeated false = counted_enters vote.by

      later : (b : Bool) → EntersNext (later_at b)
      later true = nothing_enters v.counts v.interval (next_view v) (Some (next_view v)) (refused causes.NewerView) refl
      later false = repeated (is_hated_by v vote.by)

      past : (b : Bool) → EntersNext (if b then refused causes.OldView else later_at (nat_lt (own_view v) vote.stmt.view.0))
      past true = nothing_enters v.counts v.interval (next_view v) (Some (next_view v)) (refused causes.OldView) refl
      past false = later (nat_lt (own_view v) vote.stmt.view.0)

  leaving_enters : EntersNext (leaving_owes v (next_view v) told no_pens)
  leaving_enters = leave_enters (next_view v) told (onward v) fit true_report (omega arith) refl

-- ---- another's report

by_number : (by : Party) → IsReplica by → by ≡ Replica (record { 0 = number_of_party by })
by_number (Replica id) is = refl
by_number (Client id) is = absurd is

-- ---- as a replica can enter it

module _ {S : Type 0} (s : State S) where
  -- in the view that it leaves for
  can_next : (view : View) (owed : Owed) → Enters s.views.counts s.views.interval view (Some view) owed → CanAll s owed
  can_next view owed enters = λ a some.
      let is = enters a some in
      let same = ap (λ (w : View). w.0) is.view_is in
      record { report = record { in_range = is.in_range; keeps_rules = is.keeps_rules }; chosen = is.chosen; later = subst (λ (to : Option View). view_after s to ≤ a.view.0) (sym is.leave_is) (omega (arith, same)) }

  -- or in its own
  can_now : (view : View) (owed : Owed) → view.0 ≡ own_view s.views → Enters s.views.counts s.views.interval view None owed → CanAll s owed
  can_now view owed own enters = λ a some.
      let is = enters a some in
      let same = ap (λ (w : View). w.0) is.view_is in
      record { report = record { in_range = is.in_range; keeps_rules = is.keeps_rules }; chosen = is.chosen; later = subst (λ (to : Option View). view_after s to ≤ a.view.0) (sym is.leave_is) (omega (arith, same, own)) }

  can_none : (owed : Owed) → owed.adopt ≡ None → CanAll s owed
  can_none owed none = λ a some. (let never : None ≡ Some a = sym none ∙ some in absurd cc)

  module _ (fit : IsFit s.views) (true_report : IsTrueReport s.views (report_of s)) where
    abbrev mine : Views
    mine = s.views

    abbrev own_told : Told
    own_told = report_of s

    pub hate_can : (vote : Signed Hate) (owed : Owed) → IsHateOwed s vote owed → CanAll s owed
    hate_can vote owed is = can_next (next_view mine) owed (subst (Enters mine.counts mine.interval (next_view mine) (Some (next_view mine))) (sym (is no_pens)) (hate_enters mine own_told fit true_report vote))

    -- it leaves for the view that it enters
    pub hate_leaves : (vote : Signed Hate) (owed : Owed) → IsHateOwed s vote owed → LeavesToEnter s owed
    hate_leaves vote owed is = λ a some. (subst (Enters mine.counts mine.interval (next_view mine) (Some (next_view mine))) (sym (is no_pens)) (hate_enters mine own_told fit true_report vote) a some).leave_is

    pub leave_can : (owed : Owed) → IsLeaveOwed s (next_view mine) owed → CanAll s owed
    leave_can owed is = can_next (next_view mine) owed (subst (Enters mine.counts mine.interval (next_view mine) (Some (next_view mine))) (sym (is no_pens)) (leaving_enters mine own_told fit true_report))

    module _ (vote : Signed Change) (replica : IsReplica vote.by) (range : IsSignedInRange IsChangeInRange vote) where
      abbrev heard : Views
      heard = with_change vote mine

      module _ (kept : IsKeptChange mine.counts mine.interval (number_of_party vote.by) vote) where
        heard-fit : IsFit heard
        heard-fit = with_change-fit mine vote fit kept

        least_later : is_left_behind heard ≡ true → own_view heard < (least_above heard).0
        least_later behind =
            let many = ltb-true _ _ behind in
            first_above (own_view heard) (views_above (own_view heard) heard.changes) (all_there (λ n. own_view heard < n) (view_above (own_view heard)) (above_own (own_view heard)) heard.changes) (omega (arith, many))

        at_own : (b : Bool) → nat_eq vote.stmt.view.0 (own_view heard) ≡ b → CanAll s (if b then collect vote.stmt.view no_pens (onward heard) else nothing)
        at_own true own = can_now vote.stmt.view _ (eqb-true _ _ own) (collect_enters vote.stmt.view (onward heard) heard-fit refl)
        at_own false other = can_none nothing refl

        kept_can : CanAll s (change_kept heard vote.stmt.view own_told no_pens)
        kept_can = by (is_left_behind heard) refl
          where
            by : (b : Bool) → is_left_behind heard ≡ b
                → CanAll s (if b then leave (least_above heard) own_told no_pens (onward heard) else (if nat_eq vote.stmt.view.0 (own_view heard) then collect vote.stmt.view no_pens (onward heard) else nothing))
            by true behind =
                can_next (least_above heard) _
                (leave_enters (least_above heard) own_told (onward heard) heard-fit (again mine heard own_told refl refl refl true_report) (least_later behind) refl)
            by false level = at_own (nat_eq vote.stmt.view.0 (own_view heard)) refl

      judged_can : (rule : Option Rule) → rule_of mine.counts mine.interval vote.stmt ≡ rule → CanAll s (change_judged rule mine vote own_told no_pens)
      judged_can (Some rule) broken = can_none (refused (causes.BadReport (number_of rule))) refl
      judged_can None keeps = kept_can (record { by = by_number vote.by replica; in_range = range; keeps_rules = keeps })

      abbrev later_at : Bool → Owed
      later_at b = if b then refused causes.Repeat else change_judged (rule_of mine.counts mine.interval vote.stmt) mine vote own_told no_pens

      abbrev begun_at : Bool → Owed
      begun_at b = if b then sends_to vote.by else later_at (is_from vote.stmt.view.0 (slot_of vote.by mine.changes))

      later_can : (b : Bool) → CanAll s (later_at b)
      later_can true = can_none (refused causes.Repeat) refl
      later_can false = judged_can (rule_of mine.counts mine.interval vote.stmt) refl

      begun_can : (b : Bool) → CanAll s (begun_at b)
      begun_can true = can_none (sends_to vote.by) refl
      begun_can false = later_can (is_from vote.stmt.view.0 (slot_of vote.by mine.changes))

      past_can : (b : Bool) → CanAll s (if b then refused causes.OldView else begun_at (has_begun mine.mode vote.stmt.view.0))
      past_can true = can_none (refused causes.OldView) refl
      past_can false = begun_can (has_begun mine.mode vote.stmt.view.0)

      pub change_can : (owed : Owed) → IsChangeOwed s vote owed → CanAll s owed
      change_can owed is = subst (CanAll s) (sym (is no_pens)) (past_can (nat_lt vote.stmt.view.0 (own_view mine)))
