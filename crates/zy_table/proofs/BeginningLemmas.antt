-- Where no view begins, and what a replica takes up that has the chosen history already.
use Rattle.std.proofs.Common.{◌≡◌, ℕ, Bool, true, false, cond, List, [], ◌∷◌, length, take, ◌-◌, ◌≤◌, Option, Some, None, refl, sym, ap, ◌∙◌, arith}
use Rattle.std.specs.Prelude.{slice_get, nat_lt}
use Rattle.std.specs.List.{list_any}
use Rattle.std.proofs.lemmas.Bool.{cond_both, ltb-true}
use Rattle.std.proofs.lemmas.List.{length-append, length-take-le}
use Rattle.zy_base.specs.Machine.{Rules}
use Rattle.zy_base.specs.declared.step.Answer.{Answer}
use Rattle.zy_base.specs.declared.step.Answer.TheVariants.{Taken}
use Rattle.zy_parts.specs.declared.signed.Signed.{Signed}
use Rattle.zy_parts.specs.declared.reports.Change.{Change}
use Rattle.zy_parts.specs.declared.reports.Told.{Told}
use Rattle.zy_vframes.specs.declared.frame.ViewCert.{ViewCert}
use Rattle.zy_base.specs.declared.ids.Place.{Place}
use Rattle.zy_check.specs.Board.{stated, with_stable}
use Rattle.zy_exec.proofs.SettleLemmas.{settled_place}
use Rattle.zy_exec.specs.Kept.{Kept, last_place}
use Rattle.zy_exec.specs.Replay.{Point}
use Rattle.zy_evidence.specs.Reading.{stretch_of}
use Rattle.zy_change.specs.declared.kept.Accepted.{Accepted}
use Rattle.zy_change.specs.declared.kept.Chosen.{Chosen}
use Rattle.zy_change.specs.Views.{certificate, certificate_if}
use Rattle.zy_table.specs.declared.deeds.Act.TheVariants.{Adopts}
use Rattle.zy_table.specs.declared.deeds.Got.{Got}
use Rattle.zy_table.specs.declared.deeds.Verdict.TheVariants.{Take}
use Rattle.zy_table.specs.State.{State}
use Rattle.zy_table.specs.Fetching.{installed}
use Rattle.zy_table.specs.Gathering.{settled_at}
use Rattle.zy_table.specs.Standing.{IsOnePlace}
use Rattle.zy_table.specs.Deeds.{Going, begin, act}
use Rattle.zy_table.specs.Adopting.{verdict_of, common_with, entries_between, taken_over, gots_of, checkpoints_between}
use Rattle.zy_table.specs.Leaving.{Attempt, concluded, goes}
use Rattle.zy_table.specs.Beginning.{active_by, adopt, adopt_as, adopt_from, adopt_if, begin_view, certify, certify_with, confirms, finished, respond_at, settled_as, take_up, with_history}

-- ---- no view begins without a certificate

module _ {S : Type 0} (R : Rules S) (answer : Answer) (g : Going S) where
  uncertified_with : (accepted : Option Accepted) → certificate_if g.state.views accepted ≡ None → certify_with R accepted answer g ≡ goes answer g
  uncertified_with None none = refl
  uncertified_with (Some a) none = ap (λ (cert : Option ViewCert). adopt_if R cert a.chosen answer g) none

  either : (confirmed : Bool) → certify R answer g ≡ goes answer g → cond confirmed (certify R answer g) (goes answer g) ≡ goes answer g
  either true same = same
  either false same = refl

  pub uncertified : (s : State S) → certificate g.state.views ≡ None → finished R s (goes answer g) ≡ concluded s (goes answer g)
  uncertified s none = ap (λ (attempt : Attempt S). concluded s attempt) (either (list_any confirms g.deeds.acts) (uncertified_with g.state.views.accepted none))

-- ---- a history that is had already

module _ {S : Type 0} (R : Rules S) (s : State S) (cert : ViewCert) (chosen : Chosen) (provider : Signed Change) where
  abbrev told : Told
  told = provider.stmt.told

  abbrev common : ℕ
  common = common_with (stretch_of told) chosen.place.0 s.kept

  abbrev same : Going S
  same =
      record {
        state = active_by cert chosen s;
        deeds = record { sent = []; acts = Adopts cert.new.stmt.view (record { 0 = common }) [] ∷ [] };
      }

  begun_same : taken_over (stretch_of told) chosen.place.0 s.kept ≡ s.kept → gots_of R (stretch_of told) chosen.place.0 s.kept ≡ [] → nat_lt s.board.stable.place.0 told.stable_place.0 ≡ false
      → begin_view R cert chosen told (begin s) ≡ same
  begun_same history nothing low =
      let settled : settled_as R told s ≡ s = rw low refl in
      let kept : with_history R told chosen.place s ≡ s = ap (λ (k : Kept S). settled_as R told (record s { kept = k })) history ∙ settled in
      ap (λ (gots : List Got). act (Adopts cert.new.stmt.view (record { 0 = common }) gots) (record { state = active_by cert chosen (with_history R told chosen.place s); deeds = record { sent = []; acts = [] } })) nothing
      ∙ ap (λ (t : State S). act (Adopts cert.new.stmt.view (record { 0 = common }) []) (record { state = active_by cert chosen t; deeds = record { sent = []; acts = [] } })) kept

  taken_same : begin_view R cert chosen told (begin s) ≡ same → checkpoints_between s.kept.interval s.board.stable.place.0 chosen.place.0 ≡ [] → take_up R cert chosen told (begin s) ≡ same
  unfolding take_up
  taken_same begun none =
      ap (λ (g : Going S). respond_at R (checkpoints_between g.state.kept.interval g.state.board.stable.place.0 chosen.place.0) g) begun
      ∙ ap (λ (places : List ℕ). respond_at R places same) none

  pub stays_same : slice_get cert.new.stmt.changes chosen.provider ≡ Some provider → verdict_of R s.kept s.board.stable told chosen.place chosen.head ≡ Take → nat_lt s.board.stable.place.0 told.stable_place.0 ≡ false
      → taken_over (stretch_of told) chosen.place.0 s.kept ≡ s.kept → gots_of R (stretch_of told) chosen.place.0 s.kept ≡ [] → checkpoints_between s.kept.interval s.board.stable.place.0 chosen.place.0 ≡ []
      → adopt R cert chosen (begin s) ≡ goes Taken same
  unfolding adopt
  stays_same given take low history nothing none =
      ap (λ (o : Option (Signed Change)). adopt_from R cert chosen o (begin s)) given
      ∙ ap (λ v. adopt_as R cert chosen told v (begin s)) take
      ∙ ap (λ (g : Going S). goes Taken g) (taken_same (begun_same history nothing low) none)

-- ---- one place

module _ {S : Type 0} (R : Rules S) (s : State S) (cert : ViewCert) (chosen : Chosen) (told : Told) where
  abbrev place : ℕ
  place = common_with (stretch_of told) chosen.place.0 s.kept

  abbrev over : Kept S
  over = taken_over (stretch_of told) chosen.place.0 s.kept

  over_base : over.base.place ≡ s.kept.base.place
  unfolding taken_over
  over_base = refl

  over_end : s.kept.base.place ≤ place → place ≤ last_place s.kept → place ≤ last_place over
  unfolding taken_over
  over_end above below =
      let many = length-append (take (place - s.kept.base.place) s.kept.entries) (entries_between (stretch_of told) place chosen.place.0) in
      omega (arith, many, length-take-le (place - s.kept.base.place) s.kept.entries (omega arith))

  at_stable : s.board.stable.place.0 ≡ s.kept.base.place → (nat_lt s.board.stable.place.0 told.stable_place.0 ≡ true → (stated s.board.stable told.checks).place ≡ told.stable_place) → s.kept.base.place ≤ place → place ≤ last_place s.kept → told.stable_place.0 ≤ place
      → (with_history R told chosen.place s).kept.base.place ≡ (with_history R told chosen.place s).board.stable.place.0
  unfolding with_stable
  at_stable one proof above below within =
      let base = over_base in
      let end = over_end above below in
      cond_both (nat_lt s.board.stable.place.0 told.stable_place.0) (settled_at R told.stable_place.0 told.checks (record s { kept = over })) (record s { kept = over })
      (λ (t : State S). t.kept.base.place ≡ t.board.stable.place.0)
      (λ further. settled_place R over told.stable_place.0 (omega (arith, base, one, ltb-true _ _ further)) (omega (arith, end, within)) ∙ ap (λ (p : Place). p.0) (sym (proof further)))
      (λ nearer. base ∙ sym one)

  pub begins_at_stable : s.board.stable.place.0 ≡ s.kept.base.place → (nat_lt s.board.stable.place.0 told.stable_place.0 ≡ true → (stated s.board.stable told.checks).place ≡ told.stable_place) → s.kept.base.place ≤ place → place ≤ last_place s.kept → told.stable_place.0 ≤ place
      → IsOnePlace (begin_view R cert chosen told (begin s)).state
  begins_at_stable one proof above below within = record { kept = at_stable one proof above below within; orders = refl }

pub installs_at_stable : {S : Type 0} (R : Rules S) (point : Point S) (told : Told) (s : State S) → (stated s.board.stable told.checks).place ≡ told.stable_place → point.place ≡ told.stable_place.0
    → IsOnePlace (installed R point told s)
unfolding with_stable
installs_at_stable {S} R point report s proof at =
    let k : Kept S = record { interval = s.kept.interval; base = point; entries = [] } in
    let stable : point.place ≡ (stated s.board.stable report.checks).place.0 = at ∙ ap (λ (p : Place). p.0) (sym proof) in
    record { kept = settled_place R k point.place (omega arith) (omega arith) ∙ stable; orders = stable }
