-- The choice of a certificate is adopted as it was judged.
use Rattle.std.proofs.Common.{◌≡◌, ℕ, ◌<◌, ◌≤◌, nat_lt, nat_le, Bool, true, false, if◌then◌else◌, List, [], ◌∷◌, Option, Some, None, Result, Ok, Err, IfOk, refl, sym, ap, ◌∙◌, subst, arith}
use Rattle.std.specs.Prelude.{slice_get}
use Rattle.std.proofs.lemmas.Bool.{leb-false}
use Rattle.std.proofs.lemmas.Option.{same_Some}
use Rattle.zy_base.specs.Machine.{Rules}
use Rattle.zy_base.specs.declared.cause.Cause.TheVariants as causes
use Rattle.zy_base.specs.declared.counts.Counts.{Counts}
use Rattle.zy_base.specs.declared.ids.Digest.{Digest}
use Rattle.zy_base.specs.declared.ids.Place.{Place}
use Rattle.zy_base.specs.declared.ids.View.{View}
use Rattle.zy_base.specs.declared.step.Answer.{Answer}
use Rattle.zy_base.specs.declared.step.Answer.TheVariants.{Taken}
use Rattle.zy_parts.specs.Reports.{IsToldInRange}
use Rattle.zy_parts.specs.declared.signed.Signed.{Signed}
use Rattle.zy_parts.specs.declared.statements.Check.{Check}
use Rattle.zy_parts.specs.declared.reports.Change.{Change}
use Rattle.zy_parts.specs.declared.reports.Told.{Told}
use Rattle.zy_vframes.specs.declared.frame.ViewCert.{ViewCert}
use Rattle.zy_cert.specs.Equal.{same_digest}
use Rattle.zy_check.specs.Board.{IsProof, stated}
use Rattle.zy_evidence.specs.Reading.{stretch_of}
use Rattle.zy_chain.specs.Stretch.{head_in}
use Rattle.zy_exec.specs.Kept.{Kept, stretch_of as own_stretch}
use Rattle.zy_change.proofs.AcceptedLemmas.{accepted_given, accepted_provider}
use Rattle.zy_change.specs.declared.kept.Accepted.{Accepted}
use Rattle.zy_change.specs.declared.kept.Chosen.{Chosen}
use Rattle.zy_change.specs.Fit.{IsCertified, IsFit}
use Rattle.zy_change.specs.Views.{certificate, certificate_if}
use Rattle.zy_table.specs.declared.deeds.Verdict.{Verdict}
use Rattle.zy_table.specs.declared.deeds.Verdict.TheVariants.{Take, Wait, Refuse}
use Rattle.zy_table.specs.State.{State, own_view}
use Rattle.zy_table.specs.Deeds.{Going, Outcome, act}
use Rattle.zy_table.specs.Gathering.{settled_at}
use Rattle.zy_table.specs.Adopting.{taken_over, verdict_above, verdict_beside, verdict_of}
use Rattle.zy_table.specs.Leaving.{goes}
use Rattle.zy_table.specs.Beginning.{active_by, adopt, adopt_as, adopt_from, adopt_if, adoption_of, begin_view, certify, certify_with, respond_up_to, take_up}
use Rattle.zy_replica_state.proofs.AdoptLemmas.{adopts}
use Rattle.zy_replica_state.specs.Ready.{IsReady}
use Rattle.zy_replica_views.specs.Signing.{CanTake, signs_by}
use Rattle.zy_replica_views.specs.Out.{out_of}

-- ---- the report that gives the choice

-- it is in range
pub told_in_range : (group : Counts) (interval : ℕ) (cert : ViewCert) (chosen : Chosen) → IsCertified group interval cert chosen
    → (told : Told) → ((c : Signed Change) → slice_get cert.new.stmt.changes chosen.provider ≡ Some c → told ≡ c.stmt.told) → IsToldInRange told
told_in_range group interval cert chosen is told says =
    let a : Accepted = record { new = cert.new; chosen = chosen } in
    let (c, there, head) = accepted_provider group interval a is.accepted in
    subst IsToldInRange (sym (says c there)) (accepted_given group interval a is.accepted c there).1.0.1

-- ---- the verdict

beside_is : (own : Digest) (o : Option Digest) → verdict_beside own o ≡ Wait → ⊥
beside_is own None wait = cc
beside_is own (Some other) wait = by (same_digest own other) wait
  where
    by : (b : Bool) → (if b then Take else Refuse (causes.BelowStable own other)) ≡ Wait → ⊥
    by true wait = cc
    by false wait = cc

-- what it waits for is stable further on
pub waits_above : {S : Type 0} (R : Rules S) (k : Kept S) (stable : Check) (told : Told) (place : Place) (head : Digest) → verdict_of R k stable told place head ≡ Wait → stable.place.0 < told.stable_place.0
unfolding verdict_of
waits_above R k stable told place head wait = by (nat_lt place.0 stable.place.0) (nat_le told.stable_place.0 stable.place.0) refl wait
  where
    by : (below nearer : Bool) → nat_le told.stable_place.0 stable.place.0 ≡ nearer
        → (if below then Refuse (causes.BelowStable stable.head head) else (if nearer then verdict_beside stable.head (head_in (stretch_of told) stable.place.0) else verdict_above R k told (head_in (own_stretch k) told.stable_place.0))) ≡ Wait
        → stable.place.0 < told.stable_place.0
    by true nearer is wait = cc
    by false true is wait = absurd (beside_is stable.head (head_in (stretch_of told) stable.place.0) wait)
    by false false is wait = leb-false told.stable_place.0 stable.place.0 is

proof_there : (own : Check) (place : Place) (list : List (Signed Check)) → IsProof place.0 list → (stated own list).place ≡ place
proof_there own place [] is = absurd (omega (arith, is.some))
proof_there own place (first ∷ others) is =
    let one : first.stmt ≡ is.stmt = is.equal 0 first (omega arith) in
    ap (λ (c : Check). c.place) one ∙ ap (λ (n : ℕ). record { 0 = n }) is.located

-- what can be taken up
pub can_take : {S : Type 0} (R : Rules S) (s : State S) → IsReady s → IsFit s.views → (cert : ViewCert) (chosen : Chosen) → IsCertified s.views.counts s.views.interval cert chosen → own_view s ≤ cert.new.stmt.view.0
    → (c : Signed Change) → slice_get cert.new.stmt.changes chosen.provider ≡ Some c → verdict_of R s.kept s.board.stable c.stmt.told chosen.place chosen.head ≡ Take → CanTake s c.stmt.told chosen.place
can_take R s r fit cert chosen is later c there takes =
    let one : (d : Signed Change) → slice_get cert.new.stmt.changes chosen.provider ≡ Some d → c ≡ d = λ d at. same_Some c d (sym there ∙ at) in
    let can =
    adopts R s r fit cert chosen is later c.stmt.told (λ d at. ap (λ (x : Signed Change). x.stmt.told) (one d at))
    (λ d at. subst (λ (x : Signed Change). verdict_of R s.kept s.board.stable x.stmt.told chosen.place chosen.head ≡ Take) (one d at) takes) in
    record {
      meets = can.meets;
      end = can.end;
      base = sym r.board_stable;
      proof = λ further. proof_there s.board.stable c.stmt.told.stable_place c.stmt.told.checks (can.proof further);
    }

-- ---- the adoption is that of the table

module _ {S : Type 0} (R : Rules S) (cert : ViewCert) (chosen : Chosen) (c : Signed Change) (there : slice_get cert.new.stmt.changes chosen.provider ≡ Some c) where
  abbrev told : Told
  told = c.stmt.told

  abbrev verdict : Going S → Verdict
  verdict g = verdict_of R g.state.kept g.state.board.stable told chosen.place chosen.head

  pub adopts_as : (g : Going S) (v : Verdict) → verdict g ≡ v → adopt R cert chosen g ≡ adopt_as R cert chosen told v g
  unfolding adopt
  adopts_as g v is = ap (λ (o : Option (Signed Change)). adopt_from R cert chosen o g) there ∙ ap (λ (w : Verdict). adopt_as R cert chosen told w g) is

  abbrev out : Going S → Bool → Going S
  out g waits = record g { state = out_of g.state waits }

  begins_out : (g : Going S) → begin_view R cert chosen told (out g false) ≡ begin_view R cert chosen told g
  begins_out g = by (nat_lt g.state.board.stable.place.0 told.stable_place.0)
    where
      over : State S → State S
      over s = record s { kept = taken_over (stretch_of told) chosen.place.0 s.kept }

      begun : Bool → State S → State S
      begun b s = active_by cert chosen (if b then settled_at R told.stable_place.0 told.checks (over s) else over s)

      done : Bool → State S → Going S
      done b s = act (adoption_of R cert.new.stmt.view told chosen.place s.kept) (record g { state = begun b s })

      by : (b : Bool) → done b (out_of g.state false) ≡ done b g.state
      by true = refl
      by false = refl

  takes_out : (g : Going S) → take_up R cert chosen told (out g false) ≡ take_up R cert chosen told g
  unfolding take_up
  takes_out g = ap (respond_up_to R chosen.place.0) (begins_out g)

  -- also where the new view has moved into its certificate
  pub adopts_out : (g : Going S) (waits : Bool) → verdict g ≡ (if waits then Wait else Take) → adopt R cert chosen (out g waits) ≡ adopt R cert chosen g
  adopts_out g true is = refl
  adopts_out g false is = adopts_as (out g false) Take is ∙ ap (goes Taken) (takes_out g) ∙ sym (adopts_as g Take is)

-- enough confirmations of the new view that was confirmed are kept
pub certifies : {S : Type 0} (R : Rules S) (answer : Answer) (g : Going S) (cert : ViewCert) (chosen : Chosen) → g.state.views.accepted ≡ Some (record { new = cert.new; chosen = chosen }) → certificate g.state.views ≡ Some cert → certify R answer g ≡ adopt R cert chosen g
certifies R answer g cert chosen kept enough =
    let at = subst (λ (o : Option Accepted). certificate_if g.state.views o ≡ Some cert) kept enough in
    ap (λ (o : Option Accepted). certify_with R o answer g) kept ∙ ap (λ (o : Option ViewCert). adopt_if R o chosen answer g) at

-- ---- what stays where the new view has moved into its certificate

pub out_stays : {S A : Type 0} (f : State S → A) (s : State S) → f (out_of s false) ≡ f s → (waits : Bool) → f (out_of s waits) ≡ f s
out_stays f s same true = refl
out_stays f s same false = same

pub out_signs : {S : Type 0} (s : State S) (view : View) (told : Told) (place : Place) (waits : Bool) → signs_by (out_of s waits) view told place waits ≡ signs_by s view told place waits
out_signs s view report place true = refl
out_signs s view report place false = refl

pub certified_ok : {S E : Type 0} (R : Rules S) (g from : Going S) (cert : ViewCert) (chosen : Chosen) → g.state.views.accepted ≡ Some (record { new = cert.new; chosen = chosen }) → certificate g.state.views ≡ Some cert → adopt R cert chosen from ≡ adopt R cert chosen g
    → (r : Result (Outcome S) E) → IfOk r (λ m. adopt R cert chosen from ≡ goes m.answer (record { state = m.state; deeds = m.deeds })) → IfOk r (λ m. certify R m.answer g ≡ goes m.answer (record { state = m.state; deeds = m.deeds }))
certified_ok R g from cert chosen kept enough same (Ok m) is = certifies R m.answer g cert chosen kept enough ∙ sym same ∙ is
certified_ok R g from cert chosen kept enough same (Err e) is = is
