-- What a replica gathers out of its slots: the reports for a view make a proper new view, and so many equal confirmations make a
-- certificate.
use Rattle.std.proofs.Common.{◌≡◌, ◌≢◌, ℕ, zero, suc, ◌+◌, ◌<◌, ◌≤◌, nat_eq, nat_le, Bool, true, false, cond, List, [], ◌∷◌, length, take, Option, Some, None, refl, sym, ap, ◌∙◌, subst, arith, eqb-true}
use Rattle.std.specs.List.{cons_option}
use Rattle.std.specs.Prelude.{All, filter_map, option_map, slice_index_or}
use Rattle.std.proofs.lemmas.Bool.{leb-true}
use Rattle.std.proofs.lemmas.List.{get_or-take, length-take, length-take-le}
use Rattle.std.proofs.lemmas.List.Kept.{AllPairs-cons}
use Rattle.std.proofs.lemmas.Option.{same_Some}
use Rattle.zy_base.specs.declared.counts.Counts.{Counts}
use Rattle.zy_base.specs.declared.ids.Party.{Party}
use Rattle.zy_base.specs.declared.ids.Party.TheVariants.{Replica}
use Rattle.zy_base.specs.declared.ids.View.{View}
use Rattle.zy_cert.specs.Equal.{began-equal, same_began}
use Rattle.zy_cert.specs.Signers.{AreDifferent}
use Rattle.zy_change.specs.Owing.{new_of}
use Rattle.zy_change.specs.Views.{Slots, Views, began_equal, began_for, begans_equal, certificate_of, change_for, changes_for}
use Rattle.zy_change.specs.declared.kept.Accepted.{Accepted}
use Rattle.zy_law.specs.World.{World}
use Rattle.zy_parts.specs.declared.reports.Began.{Began}
use Rattle.zy_parts.specs.declared.reports.Change.{Change}
use Rattle.zy_parts.specs.declared.signed.Signed.{Signed}
use Rattle.zy_vframes.specs.declared.frame.ViewCert.{ViewCert}
use Rattle.zy_law_views.specs.Held.{IsProperNew}
use Rattle.zy_law_views.specs.Tied.{IsHearing, IsKeptBegan, IsKeptChange, IsViewCert}

abbrev party_of : ℕ → Party
party_of id = Replica (record { 0 = id })

number_in : Party → ℕ
number_in (Replica id) = id.0
number_in other = 0

other_party : (a b : ℕ) → a < b → party_of a ≢ party_of b
unfolding number_in
other_party a b less same = let equal : a ≡ b = ap number_in same in omega arith

-- ---- what is picked out of slots

module _ {S : Type 0} (pick : Option (Signed S) → Option (Signed S)) (IsOne : ℕ → Signed S → Type 0) (by_is : (id : ℕ) (c : Signed S) → IsOne id c → c.by ≡ party_of id) where
  -- each is of some replica from a number on, and no two are of one
  record AreGathered (from : ℕ) (list : List (Signed S)) : Type 0 where
    each : All (λ c. (id : ℕ) × (from ≤ id) × IsOne id c) list
    different : AreDifferent list

  weaker : (from : ℕ) (list : List (Signed S)) → AreGathered (suc from) list → AreGathered from list
  weaker from list are =
      record { each = λ k d within. (let one = are.each k d within in (one.0, omega (arith, one.1), one.2)); different = are.different }

  one_more : (from : ℕ) (c : Signed S) (list : List (Signed S)) → IsOne from c → AreGathered (suc from) list → AreGathered from (c ∷ list)
  one_more from c list is are =
      let rest = weaker from list are in
      record {
        each = all rest;
        different = AllPairs-cons (λ (a b : Signed S). a.by ≢ b.by) c list (λ k d within same. apart (are.each k d within) same) are.different;
      }
    where
      apart : {d : Signed S} → (id : ℕ) × (suc from ≤ id) × IsOne id d → c.by ≡ d.by → ⊥
      apart {d} (id, above, other) same = other_party from id (omega arith) (sym (by_is from c is) ∙ same ∙ by_is id d other)

      all : AreGathered from list → All (λ c. (id : ℕ) × (from ≤ id) × IsOne id c) (c ∷ list)
      all rest zero d within = (from, omega arith, is)
      all rest (suc k) d within = rest.each k d (omega arith)

  gathered_from : (from : ℕ) (slots : Slots S) → ((at : ℕ) (c : Signed S) → pick (slice_index_or slots at None) ≡ Some c → IsOne (from + at) c) → AreGathered from (filter_map pick slots)
  gathered_from from [] kept = record { each = λ k d within. absurd (omega arith); different = λ i j d less within. absurd (omega arith) }
  gathered_from from (slot ∷ slots) kept =
      by (pick slot) refl (gathered_from (suc from) slots (λ at d is. subst (λ (n : ℕ). IsOne n d) (omega arith) (kept (suc at) d is)))
    where
      by : (o : Option (Signed S)) → pick slot ≡ o → AreGathered (suc from) (filter_map pick slots) → AreGathered from (cons_option o (filter_map pick slots))
      by None is rest = weaker from (filter_map pick slots) rest
      by (Some c) is rest = one_more from c (filter_map pick slots) (subst (λ (n : ℕ). IsOne n c) (omega arith) (kept 0 c is)) rest

  gathered : (slots : Slots S) → ((at : ℕ) (c : Signed S) → pick (slice_index_or slots at None) ≡ Some c → IsOne at c) → AreGathered 0 (filter_map pick slots)
  gathered slots kept = gathered_from 0 slots (λ at c is. subst (λ (n : ℕ). IsOne n c) (omega arith) (kept at c is))

  all_within : (n : ℕ) (list : List (Signed S)) (k : ℕ) → k < length (take n list) → (k < n) × (k < length list)
  all_within n list k within = omega (arith, length-take n list)

  taken : (n from : ℕ) (list : List (Signed S)) → AreGathered from list → AreGathered from (take n list)
  taken n from list are =
      record {
        each = λ k d within.
            let inside = all_within n list k within in
            subst (λ (c : Signed S). (id : ℕ) × (from ≤ id) × IsOne id c) (sym (get_or-take n list k d inside.0)) (are.each k d inside.1);
        different = λ i j d less within.
            let inside = all_within n list j within in
            rw (get_or-take n list i d (omega (arith, inside.0)), get_or-take n list j d inside.0) (are.different i j d less inside.1);
      }

-- ---- reports for a view

module _ (interval : ℕ) (w : World) (view : ℕ) where
  -- of the replica with a number, for the view
  record IsReport (id : ℕ) (c : Signed Change) : Type 0 where
    of_view : c.stmt.view.0 ≡ view
    kept : IsKeptChange interval w id c

  report_kept : (id : ℕ) (slot : Option (Signed Change)) (c : Signed Change) → ((d : Signed Change) → slot ≡ Some d → IsKeptChange interval w id d) → change_for view slot ≡ Some c → IsReport id c
  report_kept id None c kept is = absurd cc
  report_kept id (Some d) c kept is = by (nat_eq d.stmt.view.0 view) refl is
    where
      by : (b : Bool) → nat_eq d.stmt.view.0 view ≡ b → cond b (Some d) None ≡ Some c → IsReport id c
      by true same is = subst (λ (x : Signed Change). IsReport id x) (same_Some d c is) (record { of_view = eqb-true d.stmt.view.0 view same; kept = kept d refl })
      by false other is = absurd cc

pub gathered_proper : (interval : ℕ) (w : World) (v : Views) (view : View) → IsHearing interval w v → v.counts ≡ w.counts → nat_le v.counts.change (length (changes_for view.0 v.changes)) ≡ true
    → IsProperNew w interval (new_of v view)
gathered_proper interval w v view hearing counts enough =
    let One : ℕ → Signed Change → Type 0 = IsReport interval w view.0 in
    let by_is : (id : ℕ) (c : Signed Change) → One id c → c.by ≡ party_of id = λ id c is. is.kept.by in
    let are = gathered (change_for view.0) One by_is v.changes (λ at c is. report_kept interval w view.0 at (slice_index_or v.changes at None) c (hearing.changes at) is) in
    let list = taken (change_for view.0) One by_is v.counts.change 0 (changes_for view.0 v.changes) are in
    let many : length (take v.counts.change (changes_for view.0 v.changes)) ≡ v.counts.change = length-take-le v.counts.change (changes_for view.0 v.changes) (leb-true _ _ enough) in
    record {
      many = many ∙ ap (λ (k : Counts). k.change) counts;
      different = list.different;
      of_view = λ k d within. (let one = list.each k d within in ap (λ (n : ℕ). record { 0 = n }) one.2.of_view);
      well_formed = λ k d within. (list.each k d within).2.kept.well_formed;
      held = λ k d within. (list.each k d within).2.kept.held;
    }

-- ---- equal confirmations

module _ (w : World) (own : Began) where
  record IsEqual (id : ℕ) (b : Signed Began) : Type 0 where
    stmt : b.stmt ≡ own
    kept : IsKeptBegan w id b

  equal_kept : (id : ℕ) (slot : Option (Signed Began)) (b : Signed Began) → ((d : Signed Began) → slot ≡ Some d → IsKeptBegan w id d) → began_equal own slot ≡ Some b → IsEqual id b
  equal_kept id None b kept is = absurd cc
  equal_kept id (Some d) b kept is = by (same_began d.stmt own) refl is
    where
      by : (same : Bool) → same_began d.stmt own ≡ same → cond same (Some d) None ≡ Some b → IsEqual id b
      by true same is = subst (λ (x : Signed Began). IsEqual id x) (same_Some d b is) (record { stmt = (began-equal d.stmt own).0 same; kept = kept d refl })
      by false other is = absurd cc

-- the certificate that they make is of the new view, and for its choice
pub gathered_cert : (interval : ℕ) (w : World) (v : Views) (a : Accepted) (cert : ViewCert) → IsHearing interval w v → v.counts ≡ w.counts → certificate_of v a ≡ Some cert
    → (cert.new ≡ a.new) × IsViewCert w a.new.stmt a.chosen cert.begans
gathered_cert interval w v a cert hearing counts = by (nat_le v.counts.cert (length all)) refl
  where
    own : Began
    own = began_for a.new.stmt.view a.chosen

    all : List (Signed Began)
    all = begans_equal (began_for a.new.stmt.view a.chosen) v.begans

    by : (b : Bool) → nat_le v.counts.cert (length (begans_equal (began_for a.new.stmt.view a.chosen) v.begans)) ≡ b
        → option_map (λ begans. record { new = a.new; begans = begans }) (cond b (Some (take v.counts.cert (begans_equal (began_for a.new.stmt.view a.chosen) v.begans))) None) ≡ Some cert
        → (cert.new ≡ a.new) × IsViewCert w a.new.stmt a.chosen cert.begans
    by false few is = absurd cc
    by true enough is =
        let One : ℕ → Signed Began → Type 0 = IsEqual w own in
        let by_is : (id : ℕ) (b : Signed Began) → One id b → b.by ≡ party_of id = λ id b is. is.kept.by in
        let are = gathered (began_equal own) One by_is v.begans (λ at b is. equal_kept w own at (slice_index_or v.begans at None) b (hearing.begans at) is) in
        let list = taken (began_equal own) One by_is v.counts.cert 0 all are in
        let many : length (take v.counts.cert all) ≡ v.counts.cert = length-take-le v.counts.cert all (leb-true _ _ enough) in
        let made : ViewCert = record { new = a.new; begans = take v.counts.cert all } in
        let same : made ≡ cert = same_Some made cert is in
        let proven : IsViewCert w a.new.stmt a.chosen (take v.counts.cert all) =
        record {
          certificate = record {
            stmt = own;
            located = refl;
            len = many ∙ ap (λ (k : Counts). k.cert) counts;
            different = list.different;
            equal = λ k d within. (list.each k d within).2.stmt;
          };
          held = λ k d within. (list.each k d within).2.kept.held;
        } in
        (ap (λ (x : ViewCert). x.new) (sym same), subst (λ (x : ViewCert). IsViewCert w a.new.stmt a.chosen x.begans) same proven)
