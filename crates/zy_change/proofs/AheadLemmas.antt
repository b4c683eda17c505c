-- What is owed by the numbers of the replicas is what is owed, whatever the signatures will be.
use Rattle.std.proofs.Common.{◌≡◌, ℕ, suc, ◌+◌, ◌<◌, ◌≤◌, ◌%◌, ◌^◌, nat_eq, nat_lt, nat_le, Bool, true, false, not, ◌&&◌, ◌||◌, if◌then◌else◌, List, [], ◌∷◌, length, map, take, filter, fold, count_by, cond, Option, Some, None, refl, sym, ap, ◌∙◌, subst, arith}
use Rattle.std.proofs.lemmas.Bool.{eqb-true, eqb-false, eq-eqb, ltb-true}
use Rattle.std.proofs.lemmas.List.Sums.{sum_by-set}
use Rattle.std.specs.Prelude.{slice_set, slice_index_or, slice_get, is_some, option_map, unwrap_or, min}
use Rattle.std.specs.List.{AllByRecursion, filter_map, cons_option, range_with_len, take-map, reduce}
use Rattle.zy_base.specs.declared.cause.Cause.TheVariants as causes
use Rattle.zy_base.specs.declared.ids.Party.{Party}
use Rattle.zy_base.specs.declared.ids.Party.TheVariants.{Replica, Client}
use Rattle.zy_base.specs.declared.ids.ReplicaId.{ReplicaId}
use Rattle.zy_base.specs.declared.ids.View.{View}
use Rattle.zy_base.specs.declared.counts.Counts.{Counts}
use Rattle.zy_parts.specs.declared.reports.Began.{Began}
use Rattle.zy_parts.specs.declared.reports.Change.{Change}
use Rattle.zy_parts.specs.declared.reports.Told.{Told}
use Rattle.zy_parts.specs.declared.signed.Signed.{Signed}
use Rattle.zy_cert.specs.Equal.{same_began, began-equal}
use Rattle.zy_choose.specs.Reports.{PlainReport}
use Rattle.zy_choose.specs.declared.choice.Choice.{Choice}
use Rattle.zy_choose.specs.declared.choice.Choice.TheVariants as choices
use Rattle.zy_evidence.specs.Reading.{number_of_party, read, read_by, IsReplica}
use Rattle.zy_evidence.specs.Rules.{rule_of}
use Rattle.zy_evidence.specs.declared.rule.Rule.{Rule}
use Rattle.zy_parts.specs.Reports.{IsChangeInRange}
use Rattle.zy_parts.specs.Signing.{IsSignedInRange}
use Rattle.zy_change.specs.declared.kept.Accepted.{Accepted}
use Rattle.zy_change.specs.declared.kept.Chosen.{Chosen}
use Rattle.zy_change.specs.declared.owed.Adoption.{Adoption}
use Rattle.zy_change.specs.declared.owed.Owed.{Owed}
use Rattle.zy_change.specs.Choosing.{choice_of}
use Rattle.zy_change.specs.Views.{Views, Slots, own_view, leads, is_accepted, change_for, changes_for, view_above, views_above, began_equal, begans_equal, began_for, unless_other, without_others, with_change, with_hate, is_hated_by, has_begun, is_from, slot_of}
use Rattle.zy_change.specs.Owing.{Pens, signed_by, change_to, nothing, refused, onward, provider_in, adoption_by, adopt_if, accept, gathered, is_gathering, giving, accepted_as, give, choice_in, collect, leave, next_view, hate_counted, hate_owes_of, change_kept, change_judged, change_owes, sends_to}
use Rattle.zy_change.specs.Fit.{IsFit}
use Rattle.zy_change.specs.Ahead.{heard_in, ahead, IsHeard, kept_change, heard_change, told_in, told_ahead, report_ahead, reporters, reports_ahead, told_nth, is_confirmed_by, confirms, confirmers, adoption_ahead, confirming, adopting_ahead, given_ahead, is_given, gathers_ahead, collect_ahead, leave_ahead, above_ahead, aboves_ahead, haters, least_ahead, hate_ahead, kept_ahead, judged_ahead, change_ahead}
use Rattle.zy_change.proofs.FitLemmas.{as_long, all_there}
use Rattle.zy_change.proofs.IndexLemmas.{read_set, read_map, map_long, by_index, map_kept, as_many_kept, filter_same, nth_kept, nth_mapped, all_taken}

-- ---- what is kept of each replica

slot_heard : (v : Views) (heard : Option (Signed Change)) → IsFit v → IsHeard v heard → (at : ℕ) → slice_index_or (heard_in heard v).changes at None ≡ heard_change v heard at
slot_heard v None fit ok at = refl
slot_heard v (Some c) fit ok at = let long = fit.changes in let within = ok.0 in read_set v.changes (number_of_party c.by) at (Some c) None (omega arith)

long_heard : (v : Views) (heard : Option (Signed Change)) → IsFit v → length (heard_in heard v).changes ≡ v.counts.n
long_heard v None fit = fit.changes
long_heard v (Some c) fit = as_long v.changes (number_of_party c.by) (Some c) ∙ fit.changes

me_heard : (v : Views) (heard : Option (Signed Change)) → (heard_in heard v).me ≡ v.me
me_heard v None = refl
me_heard v (Some c) = refl

-- the slot of each replica
ahead_slot : Views → View → Option (Signed Change) → Option Told → Pens → ℕ → Option (Signed Change)
ahead_slot v view heard None pens at = heard_change v heard at
ahead_slot v view heard (Some told) pens at =
    if nat_eq v.me.0 at then Some (signed_by v pens.change (change_to view told)) else heard_change v heard at

slot_ahead : (v : Views) (view : View) (heard : Option (Signed Change)) (own : Option Told) (pens : Pens) → IsFit v → IsHeard v heard → (at : ℕ)
    → slice_index_or (ahead view heard own pens v).changes at None ≡ ahead_slot v view heard own pens at
unfolding ahead_slot
slot_ahead v view heard None pens fit ok at = slot_heard v heard fit ok at
slot_ahead v view None (Some told) pens fit ok at =
    let long = fit.changes in
    let within = fit.me in
    read_set v.changes v.me.0 at (Some (signed_by v pens.change (change_to view told))) None (omega arith)
slot_ahead v view (Some c) (Some told) pens fit ok at =
    let long = long_heard v (Some c) fit in
    let within = fit.me in
    read_set (heard_in (Some c) v).changes v.me.0 at (Some (signed_by v pens.change (change_to view told))) None (omega arith)
    ∙ ap (λ o. if nat_eq v.me.0 at then Some (signed_by v pens.change (change_to view told)) else o) (slot_heard v (Some c) fit ok at)

long_ahead : (v : Views) (view : View) (heard : Option (Signed Change)) (own : Option Told) (pens : Pens) → IsFit v → length (ahead view heard own pens v).changes ≡ v.counts.n
long_ahead v view heard None pens fit = long_heard v heard fit
long_ahead v view heard (Some told) pens fit = as_long (heard_in heard v).changes _ _ ∙ long_heard v heard fit

-- ---- what each tells

told_slot : (v : Views) (view : View) (heard : Option (Signed Change)) (own : Option Told) (pens : Pens) (at : ℕ) → told_ahead v view heard own at ≡ told_in view.0 (ahead_slot v view heard own pens at)
unfolding ahead_slot
told_slot v view heard None pens at = refl
told_slot v view heard (Some told) pens at = by (nat_eq v.me.0 at)
  where
    by : (b : Bool) → (if b then Some told else told_in view.0 (heard_change v heard at)) ≡ told_in view.0 (if b then Some (signed_by v pens.change (change_to view told)) else heard_change v heard at)
    by true = rw (eq-eqb view.0 view.0 refl) refl
    by false = refl

told_at : (v : Views) (view : View) (heard : Option (Signed Change)) (own : Option Told) (pens : Pens) → IsFit v → IsHeard v heard → (at : ℕ)
    → told_ahead v view heard own at ≡ told_in view.0 (slice_index_or (ahead view heard own pens v).changes at None)
told_at v view heard own pens fit ok at = told_slot v view heard own pens at ∙ ap (told_in view.0) (sym (slot_ahead v view heard own pens fit ok at))

-- each report is of the replica of its slot
kept_number : (v : Views) → IsFit v → (at : ℕ) (c : Signed Change) → kept_change v at ≡ Some c → number_of_party c.by ≡ at
kept_number v fit at c is = ap number_of_party (fit.kept at c is).by

heard_number : (v : Views) (heard : Option (Signed Change)) → IsFit v → (at : ℕ) (c : Signed Change) → heard_change v heard at ≡ Some c → number_of_party c.by ≡ at
heard_number v None fit at c is = kept_number v fit at c is
heard_number v (Some h) fit at c is = by (nat_eq (number_of_party h.by) at) refl is
  where
    by : (b : Bool) → nat_eq (number_of_party h.by) at ≡ b → (if b then Some h else kept_change v at) ≡ Some c → number_of_party c.by ≡ at
    by true same here = let e : h ≡ c = cc in ap (λ (x : Signed Change). number_of_party x.by) (sym e) ∙ eqb-true _ at same
    by false other there = kept_number v fit at c there

slot_number : (v : Views) (view : View) (heard : Option (Signed Change)) (own : Option Told) (pens : Pens) → IsFit v → (at : ℕ) (c : Signed Change) → ahead_slot v view heard own pens at ≡ Some c → number_of_party c.by ≡ at
unfolding ahead_slot
slot_number v view heard None pens fit at c is = heard_number v heard fit at c is
slot_number v view heard (Some told) pens fit at c is = by (nat_eq v.me.0 at) refl is
  where
    by : (b : Bool) → nat_eq v.me.0 at ≡ b → (if b then Some (signed_by v pens.change (change_to view told)) else heard_change v heard at) ≡ Some c → number_of_party c.by ≡ at
    by true same here = let e : signed_by v pens.change (change_to view told) ≡ c = cc in ap (λ (x : Signed Change). number_of_party x.by) (sym e) ∙ eqb-true _ at same
    by false other there = heard_number v heard fit at c there

read_slot : (view at : ℕ) (o : Option (Signed Change)) → ((c : Signed Change) → o ≡ Some c → number_of_party c.by ≡ at) → option_map (read_by at) (told_in view o) ≡ option_map read (change_for view o)
read_slot view at None numbered = refl
read_slot view at (Some c) numbered = by (nat_eq c.stmt.view.0 view)
  where
    by : (b : Bool) → option_map (read_by at) (option_map (λ (x : Signed Change). x.stmt.told) (if b then Some c else None)) ≡ option_map read (if b then Some c else None)
    by true = ap (λ n. Some (read_by n c.stmt.told)) (sym (numbered c refl))
    by false = refl

report_at : (v : Views) (view : View) (heard : Option (Signed Change)) (own : Option Told) (pens : Pens) → IsFit v → IsHeard v heard → (at : ℕ)
    → report_ahead v view heard own at ≡ option_map read (change_for view.0 (slice_index_or (ahead view heard own pens v).changes at None))
report_at v view heard own pens fit ok at =
    ap (option_map (read_by at)) (told_slot v view heard own pens at)
    ∙ read_slot view.0 at (ahead_slot v view heard own pens at) (slot_number v view heard own pens fit at)
    ∙ ap (λ o. option_map read (change_for view.0 o)) (sym (slot_ahead v view heard own pens fit ok at))

-- ---- all that is kept, ahead

record Stands (v : Views) (view : View) (heard : Option (Signed Change)) (own : Option Told) (u : Views) : Type 0 where
  counts : u.counts ≡ v.counts
  me : u.me ≡ v.me
  begans : u.begans ≡ v.begans
  given : is_accepted view.0 u.accepted ≡ is_given v view own
  many : length (changes_for view.0 u.changes) ≡ length (reporters v view heard own)
  reports : map read (gathered u view.0) ≡ reports_ahead v view heard own
  nth : (index : ℕ) → option_map (λ (c : Signed Change). c.stmt.told) (slice_get (gathered u view.0) index) ≡ told_nth v view heard own index

counts_ahead : (v : Views) (view : View) (heard : Option (Signed Change)) (own : Option Told) (pens : Pens) → (ahead view heard own pens v).counts ≡ v.counts
counts_ahead v view None None pens = refl
counts_ahead v view None (Some told) pens = refl
counts_ahead v view (Some c) None pens = refl
counts_ahead v view (Some c) (Some told) pens = refl

me_ahead : (v : Views) (view : View) (heard : Option (Signed Change)) (own : Option Told) (pens : Pens) → (ahead view heard own pens v).me ≡ v.me
me_ahead v view None None pens = refl
me_ahead v view None (Some told) pens = refl
me_ahead v view (Some c) None pens = refl
me_ahead v view (Some c) (Some told) pens = refl

begans_ahead : (v : Views) (view : View) (heard : Option (Signed Change)) (own : Option Told) (pens : Pens) → (ahead view heard own pens v).begans ≡ v.begans
begans_ahead v view None None pens = refl
begans_ahead v view None (Some told) pens = refl
begans_ahead v view (Some c) None pens = refl
begans_ahead v view (Some c) (Some told) pens = refl

given_as : (v : Views) (view : View) (heard : Option (Signed Change)) (own : Option Told) (pens : Pens) → is_accepted view.0 (ahead view heard own pens v).accepted ≡ is_given v view own
given_as v view None None pens = refl
given_as v view None (Some told) pens = refl
given_as v view (Some c) None pens = refl
given_as v view (Some c) (Some told) pens = refl

module _ (v : Views) (view : View) (heard : Option (Signed Change)) (own : Option Told) (pens : Pens) (fit : IsFit v) (ok : IsHeard v heard) where
  abbrev xs : Slots Change
  xs = (ahead view heard own pens v).changes

  abbrev g : ℕ → Option Told
  g = told_ahead v view heard own

  abbrev told : Signed Change → Told
  told = λ c. c.stmt.told

  abbrev range : List ℕ
  range = range_with_len 0 v.counts.n

  tolds : filter_map g range ≡ map told (changes_for view.0 xs)
  tolds =
      by_index (told_in view.0) g v.counts.n xs (long_ahead v view heard own pens fit) (told_at v view heard own pens fit ok)
      ∙ map_kept told (change_for view.0) xs

  reports : filter_map (report_ahead v view heard own) range ≡ map read (changes_for view.0 xs)
  reports =
      by_index (λ o. option_map read (change_for view.0 o)) (report_ahead v view heard own) v.counts.n xs (long_ahead v view heard own pens fit) (report_at v view heard own pens fit ok)
      ∙ map_kept read (change_for view.0) xs

  change : (ahead view heard own pens v).counts.change ≡ v.counts.change
  change = ap (λ (k : Counts). k.change) (counts_ahead v view heard own pens)

  stands : Stands v view heard own (ahead view heard own pens v)
  stands =
      record {
        counts = counts_ahead v view heard own pens;
        me = me_ahead v view heard own pens;
        begans = begans_ahead v view heard own pens;
        given = given_as v view heard own pens;
        many = sym (as_many_kept g range ∙ ap length tolds ∙ map_long told (changes_for view.0 xs));
        reports = ap (λ (k : ℕ). map read (take k (changes_for view.0 xs))) change ∙ sym (take-map read v.counts.change (changes_for view.0 xs)) ∙ ap (take v.counts.change) (sym reports);
        nth = λ index.
            ap (λ (k : ℕ). option_map told (slice_get (take k (changes_for view.0 xs)) index)) change
            ∙ sym (nth_mapped told (take v.counts.change (changes_for view.0 xs)) index)
            ∙ ap (λ (l : List Told). slice_get l index) (sym (take-map told v.counts.change (changes_for view.0 xs)) ∙ ap (take v.counts.change) (sym tolds))
            ∙ nth_kept g range v.counts.change index;
      }

-- ---- confirmations

same_itself : (b : Began) → same_began b b ≡ true
same_itself b = (began-equal b b).1 refl

still_equal : (own : Began) (o : Option (Signed Began)) → is_some (began_equal own (unless_other own o)) ≡ is_some (began_equal own o)
still_equal own None = refl
still_equal own (Some b) = by (nat_eq b.stmt.view.0 own.view.0) (same_began b.stmt own) refl
  where
    by : (here same : Bool) → same_began b.stmt own ≡ same → is_some (began_equal own (if here && not same then None else Some b)) ≡ is_some (if same_began b.stmt own then Some b else None)
    by true true is = refl
    by true false is = rw is refl
    by false same is = refl

-- a slot that is read where those that say another thing are dropped, and one is put in
confirmed_slot : (v : Views) (by : ℕ) (own : Signed Began) → IsFit v → by < v.counts.n → (at : ℕ)
    → is_some (began_equal own.stmt (slice_index_or (slice_set (without_others own.stmt v.begans) by (Some own)) at None)) ≡ confirms v by own.stmt at
confirmed_slot v by own fit within at =
    let long = map_long (unless_other own.stmt) v.begans ∙ fit.begans in
    ap (λ o. is_some (began_equal own.stmt o)) (read_set (without_others own.stmt v.begans) by at (Some own) None (omega arith))
    ∙ there (nat_eq by at)
  where
    there : (b : Bool) → is_some (began_equal own.stmt (if b then Some own else slice_index_or (without_others own.stmt v.begans) at None)) ≡ (b || is_confirmed_by v own.stmt at)
    there true = rw (same_itself own.stmt) refl
    there false = ap (λ o. is_some (began_equal own.stmt o)) (read_map (unless_other own.stmt) refl v.begans at) ∙ still_equal own.stmt (slice_index_or v.begans at None)

heard_slot : (v : Views) (by : ℕ) (vote : Signed Began) (own : Began) → IsFit v → by < v.counts.n → same_began vote.stmt own ≡ true → (at : ℕ)
    → is_some (began_equal own (slice_index_or (slice_set v.begans by (Some vote)) at None)) ≡ confirms v by own at
heard_slot v by vote own fit within same at =
    let long = fit.begans in
    ap (λ o. is_some (began_equal own o)) (read_set v.begans by at (Some vote) None (omega arith))
    ∙ there (nat_eq by at)
  where
    there : (b : Bool) → is_some (began_equal own (if b then Some vote else slice_index_or v.begans at None)) ≡ (b || is_confirmed_by v own at)
    there true = rw same refl
    there false = refl

-- so many say it
many_equal : (n : ℕ) (own : Began) (slots : Slots Began) (test : ℕ → Bool) → length slots ≡ n → ((at : ℕ) → is_some (began_equal own (slice_index_or slots at None)) ≡ test at)
    → length (begans_equal own slots) ≡ length (filter test (range_with_len 0 n))
many_equal n own slots test long same =
    ap length (sym (by_index (began_equal own) (λ at. began_equal own (slice_index_or slots at None)) n slots long (λ at. refl)))
    ∙ sym (as_many_kept (λ at. began_equal own (slice_index_or slots at None)) (range_with_len 0 n))
    ∙ ap length (filter_same (λ at. is_some (began_equal own (slice_index_or slots at None))) test same (range_with_len 0 n))

pub confirmed_many : (v : Views) (own : Signed Began) → IsFit v → length (begans_equal own.stmt (slice_set (without_others own.stmt v.begans) v.me.0 (Some own))) ≡ length (confirmers v v.me.0 own.stmt)
confirmed_many v own fit =
    many_equal v.counts.n own.stmt (slice_set (without_others own.stmt v.begans) v.me.0 (Some own)) (confirms v v.me.0 own.stmt)
    (as_long (without_others own.stmt v.begans) v.me.0 (Some own) ∙ (map_long (unless_other own.stmt) v.begans ∙ fit.begans)) (confirmed_slot v v.me.0 own fit fit.me)

pub heard_many : (v : Views) (vote : Signed Began) (own : Began) → IsFit v → number_of_party vote.by < v.counts.n → same_began vote.stmt own ≡ true
    → length (begans_equal own (slice_set v.begans (number_of_party vote.by) (Some vote))) ≡ length (confirmers v (number_of_party vote.by) own)
heard_many v vote own fit within same =
    many_equal v.counts.n own (slice_set v.begans (number_of_party vote.by) (Some vote)) (confirms v (number_of_party vote.by) own)
    (as_long v.begans (number_of_party vote.by) (Some vote) ∙ fit.begans) (heard_slot v (number_of_party vote.by) vote own fit within same)

-- ---- what is owed

pub adopted_as : (a : Accepted) (o : Option (Signed Change)) → adoption_by a o ≡ adoption_ahead a.new.stmt.view a.chosen (option_map (λ (c : Signed Change). c.stmt.told) o)
adopted_as a None = refl
adopted_as a (Some c) = refl

module _ (v : Views) (view : View) (heard : Option (Signed Change)) (own : Option Told) (pens : Pens) (u : Views) (owed : Owed) (fit : IsFit v) (s : Stands v view heard own u) (chosen : Chosen) where
  abbrev a : Accepted
  a = accepted_as u pens view chosen

  abbrev confirmed : Signed Began
  confirmed = signed_by u pens.began (began_for view chosen)

  abbrev after : Owed
  after = confirming view chosen owed

  abbrev begans : List (Signed Began)
  begans = begans_equal (began_for view chosen) (slice_set (without_others (began_for view chosen) u.begans) u.me.0 (Some confirmed))

  certified_by : (b : Bool) → adopt_if a (option_map (λ l. record { new = a.new; begans = l }) (if b then Some (take u.counts.cert begans) else None)) after ≡ (if b then record after { adopt = adoption_by a (provider_in a) } else after)
  certified_by true = refl
  certified_by false = refl

  -- the own slots are those of the replica that looks ahead
  begans_many : length begans ≡ length (confirmers v v.me.0 (began_for view chosen))
  begans_many =
      ap (λ (l : Slots Began). length (begans_equal (began_for view chosen) (slice_set (without_others (began_for view chosen) l) u.me.0 (Some confirmed)))) s.begans
      ∙ ap (λ (me : ReplicaId). length (begans_equal (began_for view chosen) (slice_set (without_others (began_for view chosen) v.begans) me.0 (Some confirmed)))) s.me
      ∙ confirmed_many v confirmed fit

  enough : nat_le u.counts.cert (length begans) ≡ nat_le v.counts.cert (length (confirmers v v.me.0 (began_for view chosen)))
  enough = ap (λ (k : Counts). nat_le k.cert (length begans)) s.counts ∙ ap (nat_le v.counts.cert) begans_many

  accept_same : accept a pens (giving view (record { views = u; owed = owed })) ≡ adopting_ahead v view heard own chosen after
  unfolding accept
  accept_same =
      certified_by (nat_le u.counts.cert (length begans))
      ∙ ap (λ (b : Bool). if b then record after { adopt = adoption_by a (provider_in a) } else after) enough
      ∙ ap (λ (o : Option Adoption). if nat_le v.counts.cert (length (confirmers v v.me.0 (began_for view chosen))) then record after { adopt = o } else after) (adopted_as a (provider_in a) ∙ ap (adoption_ahead view chosen) (s.nth chosen.provider))

give_same : (v : Views) (view : View) (heard : Option (Signed Change)) (own : Option Told) (pens : Pens) (u : Views) (owed : Owed) → IsFit v → Stands v view heard own u → (choice : Choice)
    → give view pens choice (record { views = u; owed = owed }) ≡ given_ahead v view heard own owed choice
give_same v view heard own pens u owed fit s (choices.AnchorClash first second) = refl
give_same v view heard own pens u owed fit s (choices.Chosen provider place head) =
    accept_same v view heard own pens u owed fit s (record { provider = provider; place = place; head = head })

gathers_same : (v : Views) (view : View) (heard : Option (Signed Change)) (own : Option Told) (u : Views) → Stands v view heard own u → is_gathering u view.0 ≡ gathers_ahead v view heard own
gathers_same v view heard own u s =
    ap (λ (k : Counts). nat_eq (view.0 % k.n) u.me.0 && (not (is_accepted view.0 u.accepted) && nat_le k.change (length (changes_for view.0 u.changes)))) s.counts
    ∙ ap (λ (me : ReplicaId). nat_eq (view.0 % v.counts.n) me.0 && (not (is_accepted view.0 u.accepted) && nat_le v.counts.change (length (changes_for view.0 u.changes)))) s.me
    ∙ ap (λ b. leads v view.0 && (not b && nat_le v.counts.change (length (changes_for view.0 u.changes)))) s.given
    ∙ ap (λ n. leads v view.0 && (not (is_given v view own) && nat_le v.counts.change n)) s.many

choice_same : (v : Views) (view : View) (heard : Option (Signed Change)) (own : Option Told) (u : Views) → Stands v view heard own u → choice_in u view.0 ≡ choice_of v.counts.agree (reports_ahead v view heard own)
choice_same v view heard own u s = ap (λ (k : Counts). choice_of k.agree (map read (gathered u view.0))) s.counts ∙ ap (choice_of v.counts.agree) s.reports

collected_as : (v : Views) (view : View) (heard : Option (Signed Change)) (own : Option Told) (pens : Pens) (owed : Owed) (u : Views) → IsFit v → Stands v view heard own u
    → collect view pens (record { views = u; owed = owed }) ≡ collect_ahead v view heard own owed
unfolding collect collect_ahead
collected_as v view heard own pens owed u fit s =
    ap (λ (b : Bool). if b then give view pens (choice_in u view.0) (record { views = u; owed = owed }) else owed) (gathers_same v view heard own u s)
    ∙ ap (λ (o : Owed). if gathers_ahead v view heard own then o else owed)
    (ap (λ (choice : Choice). give view pens choice (record { views = u; owed = owed })) (choice_same v view heard own u s)
    ∙ give_same v view heard own pens u owed fit s (choice_of v.counts.agree (reports_ahead v view heard own)))

pub collect_same : (v : Views) (view : View) (heard : Option (Signed Change)) (own : Option Told) (pens : Pens) (owed : Owed) → IsFit v → IsHeard v heard
    → collect view pens (record { views = ahead view heard own pens v; owed = owed }) ≡ collect_ahead v view heard own owed
collect_same v view heard own pens owed fit ok = collected_as v view heard own pens owed (ahead view heard own pens v) fit (stands v view heard own pens fit ok)

pub leave_same : (v : Views) (view : View) (heard : Option (Signed Change)) (told : Told) (pens : Pens) → IsFit v → IsHeard v heard
    → leave view told pens (onward (heard_in heard v)) ≡ leave_ahead v view heard told
unfolding leave
leave_same v view heard told pens fit ok =
    ap (λ o. if nat_lt view.0 (2 ^ 62) then o else refused causes.NewerView) (collect_same v view heard (Some told) pens (record nothing { leave = Some view; signs = 1 }) fit ok)

one_read : (at : ℕ) (o : Option Told) (xs : List PlainReport) (ys : List Told) → length xs ≡ length ys → length (cons_option (option_map (read_by at) o) xs) ≡ length (cons_option o ys)
one_read at None read_of told_of same = same
one_read at (Some told) read_of told_of same = ap suc same

each_read : (g : ℕ → Option Told) (xs : List ℕ) → length (filter_map (λ at. option_map (read_by at) (g at)) xs) ≡ length (filter_map g xs)
each_read g [] = refl
each_read g (at ∷ xs) = one_read at (g at) _ _ (each_read g xs)

-- as many reports are read as are wanted, where enough are there
pub reports_many : (v : Views) (view : View) (heard : Option (Signed Change)) (own : Option Told) → v.counts.change ≤ length (reporters v view heard own) → length (reports_ahead v view heard own) ≡ v.counts.change
reports_many v view heard own enough =
    let many = as_many_kept (told_ahead v view heard own) (range_with_len 0 v.counts.n) in
    let same = each_read (told_ahead v view heard own) (range_with_len 0 v.counts.n) in
    all_taken v.counts.change (filter_map (report_ahead v view heard own) (range_with_len 0 v.counts.n)) (omega (arith, many, same, enough))

-- ---- a hate

counted_once : (xs : List Bool) (id : ℕ) → id < length xs → slice_index_or xs id false ≡ false → count_by (λ b. b) (slice_set xs id true) ≡ count_by (λ b. b) xs + 1
counted_once hated id within none =
    let more = sum_by-set (λ (b : Bool). cond b 1 0) hated id true false within in
    let before : ◌≡◌ {A = ℕ} (cond (slice_index_or hated id false) 1 0) 0 = ap (λ (b : Bool). cond b 1 0) none in
    omega (arith, more, before)

with_hate-fit : (by : Party) (v : Views) → IsFit v → IsFit (with_hate by v)
with_hate-fit by v fit = record {
  at_least = fit.at_least;
  at_most = fit.at_most;
  me = fit.me;
  last = fit.last;
  own = fit.own;
  changes = fit.changes;
  hated = as_long v.hated (number_of_party by) true ∙ fit.hated;
  begans = fit.begans;
  confirmed = fit.confirmed;
  accepted = fit.accepted;
  waiting = fit.waiting;
  view_cert = fit.view_cert;
  kept = fit.kept;
  told = record { began_place = fit.told.began_place; began = fit.told.began; specs = fit.told.specs; began_proven = fit.told.began_proven; specs_proven = fit.told.specs_proven };
}

-- hates aren't read as reports are collected
unhated : (by : Party) (v : Views) (view : View) (told : Told) → leave_ahead (with_hate by v) view None told ≡ leave_ahead v view None told
unfolding collect_ahead
unhated by v view told = refl

counted_same : (v : Views) (by : Party) (told : Told) (pens : Pens) → IsFit v → number_of_party by < v.counts.n → is_hated_by v by ≡ false
    → hate_counted (with_hate by v) told pens ≡ (if nat_lt v.counts.f (haters v + 1) then leave_ahead v (next_view v) None told else nothing)
counted_same v by told pens fit member fresh =
    let long = fit.hated in
    ap (λ n. if nat_lt v.counts.f n then leave (next_view v) told pens (onward (with_hate by v)) else nothing) (counted_once v.hated (number_of_party by) (omega arith) fresh)
    ∙ ap (λ (o : Owed). if nat_lt v.counts.f (haters v + 1) then o else nothing)
    (leave_same (with_hate by v) (next_view v) None told pens (with_hate-fit by v fit) tt ∙ unhated by v (next_view v) told)

pub hate_same : (v : Views) (by : Party) (view : View) (told : Told) (pens : Pens) → IsFit v → number_of_party by < v.counts.n → hate_owes_of v by view told pens ≡ hate_ahead v by view told
hate_same v by view told pens fit member =
    ap (λ (o : Owed). if nat_lt view.0 (own_view v) then refused causes.OldView else (if nat_lt (own_view v) view.0 then refused causes.NewerView else o)) (fresh (is_hated_by v by) refl)
  where
    fresh : (b : Bool) → is_hated_by v by ≡ b → (if b then refused causes.Repeat else hate_counted (with_hate by v) told pens) ≡ (if b then refused causes.Repeat else (if nat_lt v.counts.f (haters v + 1) then leave_ahead v (next_view v) None told else nothing))
    fresh true is = refl
    fresh false is = counted_same v by told pens fit member is

-- ---- a report of another

aboves_same : (v : Views) (vote : Signed Change) → IsFit v → IsHeard v (Some vote) → views_above (own_view v) (with_change vote v).changes ≡ aboves_ahead v vote
aboves_same v vote fit ok =
    sym (by_index (view_above (own_view v)) (above_ahead v vote) v.counts.n (with_change vote v).changes (long_heard v (Some vote) fit)
    (λ at. ap (view_above (own_view v)) (sym (slot_heard v (Some vote) fit ok at))))

kept_same : (v : Views) (vote : Signed Change) (told : Told) (pens : Pens) → IsFit v → IsHeard v (Some vote)
    → change_kept (with_change vote v) vote.stmt.view told pens ≡ kept_ahead v vote told
kept_same v vote told pens fit ok =
    ap (λ (l : List ℕ). if nat_lt v.counts.f (length l) then leave (record { 0 = unwrap_or (reduce min l) 0 }) told pens (onward (with_change vote v)) else (if nat_eq vote.stmt.view.0 (own_view v) then collect vote.stmt.view pens (onward (with_change vote v)) else nothing)) (aboves_same v vote fit ok)
    ∙ ap (λ (o : Owed). if nat_lt v.counts.f (length (aboves_ahead v vote)) then o else (if nat_eq vote.stmt.view.0 (own_view v) then collect vote.stmt.view pens (onward (with_change vote v)) else nothing)) (leave_same v (least_ahead v vote) (Some vote) told pens fit ok)
    ∙ ap (λ (o : Owed). if nat_lt v.counts.f (length (aboves_ahead v vote)) then leave_ahead v (least_ahead v vote) (Some vote) told else (if nat_eq vote.stmt.view.0 (own_view v) then o else nothing)) (collect_same v vote.stmt.view (Some vote) None pens nothing fit ok)

itself : (by : Party) → IsReplica by → by ≡ Replica (record { 0 = number_of_party by })
itself (Replica id) is = refl
itself (Client id) is = absurd is

-- a report that breaks no rule is one that can be kept
pub heard_well : (v : Views) (vote : Signed Change) → IsReplica vote.by → number_of_party vote.by < v.counts.n → IsSignedInRange IsChangeInRange vote → rule_of v.counts v.interval vote.stmt ≡ None → IsHeard v (Some vote)
heard_well v vote signer member in_range none = (member, record { by = itself vote.by signer; in_range = in_range; keeps_rules = none })

pub change_same : (v : Views) (vote : Signed Change) (told : Told) (pens : Pens) → IsFit v → IsReplica vote.by → number_of_party vote.by < v.counts.n → IsSignedInRange IsChangeInRange vote
    → change_owes v vote told pens ≡ change_ahead v vote told
change_same v vote told pens fit signer member in_range =
    ap (λ (o : Owed). if nat_lt vote.stmt.view.0 (own_view v) then refused causes.OldView else (if has_begun v.mode vote.stmt.view.0 then sends_to vote.by else (if is_from vote.stmt.view.0 (slot_of vote.by v.changes) then refused causes.Repeat else o))) (judged (rule_of v.counts v.interval vote.stmt) refl)
  where
    judged : (o : Option Rule) → rule_of v.counts v.interval vote.stmt ≡ o → change_judged o v vote told pens ≡ judged_ahead o v vote told
    judged (Some rule) is = refl
    judged None is = kept_same v vote told pens fit (heard_well v vote signer member in_range is)

-- the least of what is above a number is above it
least_of : (own : ℕ) (first : ℕ) (rest : List ℕ) → own < first → AllByRecursion (λ n. own < n) rest → own < fold min first rest
least_of own first [] above all = above
least_of own first (x ∷ rest) above all = let here = all.0 in least_of own (min first x) rest (omega arith) all.1

pub above_own : (own : ℕ) (o : Option (Signed Change)) (n : ℕ) → view_above own o ≡ Some n → own < n
above_own own None n is = absurd cc
above_own own (Some c) n is = by (nat_lt own c.stmt.view.0) refl is
  where
    by : (b : Bool) → nat_lt own c.stmt.view.0 ≡ b → (if b then Some c.stmt.view.0 else None) ≡ Some n → own < n
    by true small here = let e : c.stmt.view.0 ≡ n = cc in subst (λ k. own < k) e (ltb-true _ _ small)
    by false large none = absurd cc

pub first_above : (own : ℕ) (l : List ℕ) → AllByRecursion (λ n. own < n) l → 0 < length l → own < unwrap_or (reduce min l) 0
first_above own [] all some = absurd (omega arith)
first_above own (x ∷ rest) all some = least_of own x rest all.0 all.1

pub least_above : (v : Views) (vote : Signed Change) → 0 < length (aboves_ahead v vote) → own_view v < (least_ahead v vote).0
least_above v vote some =
    first_above (own_view v) (aboves_ahead v vote)
    (all_there (λ n. own_view v < n) (above_ahead v vote) (λ at n is. above_own (own_view v) (heard_change v (Some vote) at) n is) (range_with_len 0 v.counts.n)) some
