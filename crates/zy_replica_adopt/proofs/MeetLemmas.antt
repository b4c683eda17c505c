-- What the verdict lets a replica take up meets its own history.
use Rattle.std.proofs.Common.{◌≡◌, ℕ, ◌≤◌, true, false, inl, inr, Option, Some, None, refl, sym, ap, ◌∙◌, arith}
use Rattle.std.specs.Prelude.{nat_lt, nat_le}
use Rattle.std.proofs.lemmas.Bool.{cases_Bool, leb-true, lt-leb, ltb-false, ltb-true}
use Rattle.zy_base.specs.Machine.{Rules}
use Rattle.zy_base.specs.declared.ids.Digest.{Digest}
use Rattle.zy_base.specs.declared.ids.Place.{Place}
use Rattle.zy_chain.specs.Stretch.{Stretch, head_in, IsShared}
use Rattle.zy_parts.specs.declared.reports.Told.{Told}
use Rattle.zy_parts.specs.declared.statements.Check.{Check}
use Rattle.zy_cert.specs.Equal.{same_digest, digest-equal}
use Rattle.zy_exec.specs.Kept.{Kept, stretch_of}
use Rattle.zy_evidence.specs.Reading as reports
use Rattle.zy_table.specs.declared.deeds.Verdict.TheVariants.{Take}
use Rattle.zy_table.specs.Adopting.{verdict_of, verdict_beside, verdict_above}
use Rattle.zy_replica_adopt.specs.Meeting.{Meets}
use Rattle.zy_replica_adopt.proofs.CommonLemmas.{head_first, head_there, head_within, common_low, common_high, common_within, common_shared}

-- one place with one head is enough
pub meets_by : {S : Type 0} (told : Stretch) (place : ℕ) (k : Kept S) (lower : ℕ) → IsShared told (stretch_of k) lower → lower ≤ place → Meets told place k
meets_by told place k lower shared below =
    let least = common_high told (stretch_of k) place lower shared below in
    let own = head_within (stretch_of k) lower shared.head shared.second in
    let other = head_within told lower shared.head shared.first in
    record {
      own_base = omega (arith, least, own.0);
      told_base = omega (arith, least, other.0);
      own_end = common_within told (stretch_of k) place;
      up_to = common_low told (stretch_of k) place;
      shared = common_shared told (stretch_of k) place lower shared below;
    }

-- both are stable at the own stable place, or the report below it
beside_takes : (own other : Digest) (told : Option Digest) → told ≡ Some other → verdict_beside own told ≡ Take → own ≡ other
beside_takes own other None there takes = absurd (cc)
beside_takes own other (Some found) there takes =
    elim (cases_Bool (same_digest own found)) [
      | inl same ↦ let found_is : found ≡ other = cc in (digest-equal own found).0 same ∙ found_is
      | inr differs ↦ let clash = rw differs at takes in absurd (cc)
    ]

-- or the report further on
above_takes : {S : Type 0} (R : Rules S) (k : Kept S) (told : Told) (own : Option Digest) → verdict_above R k told own ≡ Take → own ≡ Some told.stable_head
above_takes R k told None takes = absurd (cc)
above_takes R k told (Some own) takes =
    elim (cases_Bool (same_digest own told.stable_head)) [
      | inl same ↦ ap (λ (d : Digest). Some d) ((digest-equal own told.stable_head).0 same)
      | inr differs ↦ let clash = rw differs at takes in absurd (cc)
    ]

pub takes_meets : {S : Type 0} (R : Rules S) (k : Kept S) (stable : Check) (told : Told) (place : Place) (head : Digest) → stable.place.0 ≡ k.base.place → stable.head ≡ k.base.head → head_in (reports.stretch_of told) place.0 ≡ Some head
    → verdict_of R k stable told place head ≡ Take → Meets (reports.stretch_of told) place.0 k
unfolding verdict_of
takes_meets R k stable told place head place_is head_is chosen takes =
    let s = reports.stretch_of told in
    let within = head_within s place.0 head chosen in
    elim (cases_Bool (nat_lt place.0 stable.place.0)) [
      | inl below ↦ let clash = rw below at takes in absurd (cc)
      | inr above ↦
          let low = ltb-false place.0 stable.place.0 above in
          elim (cases_Bool (nat_le told.stable_place.0 stable.place.0)) [
            | inl beside ↦
                let first = leb-true told.stable_place.0 stable.place.0 beside in
                let there = head_there s stable.place.0 first (omega (arith, low, within.1)) in
                let takes_it : verdict_beside stable.head (head_in s stable.place.0) ≡ Take = rw (above, beside) at takes in
                let same = beside_takes stable.head _ (head_in s stable.place.0) there takes_it in
                meets_by s place.0 k stable.place.0
                (record {
                  head = stable.head;
                  first = there ∙ ap (λ (d : Digest). Some d) (sym same);
                  second = head_first (stretch_of k) stable.place.0 place_is ∙ ap (λ (d : Digest). Some d) (sym head_is);
                })
                low
            | inr beyond ↦
                let takes_it : verdict_above R k told (head_in (stretch_of k) told.stable_place.0) ≡ Take = rw (above, beyond) at takes in
                meets_by s place.0 k told.stable_place.0
                (record {
                  head = told.stable_head;
                  first = head_first s told.stable_place.0 refl;
                  second = above_takes R k told (head_in (stretch_of k) told.stable_place.0) takes_it;
                })
                within.0
          ]
    ]

-- and where the report is stable further on, the own history has its stable head
pub further_takes : {S : Type 0} (R : Rules S) (k : Kept S) (stable : Check) (told : Told) (place : Place) (head : Digest) → nat_lt stable.place.0 told.stable_place.0 ≡ true → verdict_of R k stable told place head ≡ Take
    → head_in (stretch_of k) told.stable_place.0 ≡ Some told.stable_head
unfolding verdict_of
further_takes R k stable told place head further takes =
    let high = ltb-true stable.place.0 told.stable_place.0 further in
    let beyond : nat_le told.stable_place.0 stable.place.0 ≡ false = lt-leb _ _ high in
    elim (cases_Bool (nat_lt place.0 stable.place.0)) [
      | inl below ↦ let clash = rw below at takes in absurd (cc)
      | inr above ↦
          let takes_it : verdict_above R k told (head_in (stretch_of k) told.stable_place.0) ≡ Take = rw (above, beyond) at takes in
          above_takes R k told (head_in (stretch_of k) told.stable_place.0) takes_it
    ]
