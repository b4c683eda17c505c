-- A step that was judged to end so comes to its end, and so to the row.
use Rattle.std.proofs.Common.{◌≡◌, ℕ, ◌+◌, ◌-◌, ◌≤◌, nat_lt, nat_le, Bool, true, false, if◌then◌else◌, List, Option, Some, None, Ok, Err, refl, sym, ap, ◌∙◌, subst, arith}
use Rattle.std.specs.Prelude.{find, is_some, slice_get, IsSome}
use Rattle.std.specs.Option.{ForSome}
use Rattle.std.proofs.lemmas.Bool.{leb-true}
use Rattle.std.proofs.lemmas.Option.{same_Some}
use Rattle.zy_base.specs.Machine.{Rules}
use Rattle.zy_base.specs.declared.cause.Cause.{Cause}
use Rattle.zy_base.specs.declared.cause.Cause.TheVariants as causes
use Rattle.zy_base.specs.declared.ids.View.{View}
use Rattle.zy_base.specs.declared.step.Answer.{Answer}
use Rattle.zy_base.specs.declared.step.Answer.TheVariants.{Taken, Held, Refused}
use Rattle.zy_seal.specs.Sealing.{SealerState, signatures_by, left_of}
use Rattle.zy_parts.specs.declared.signed.Signed.{Signed}
use Rattle.zy_parts.specs.declared.reports.Change.{Change}
use Rattle.zy_parts.specs.declared.reports.Fetch.{Fetch}
use Rattle.zy_parts.specs.declared.reports.Told.{Told}
use Rattle.zy_parts.specs.declared.statements.Check.{Check}
use Rattle.zy_vframes.specs.declared.frame.ViewCert.{ViewCert}
use Rattle.zy_cert.specs.Equal.{same_fetch}
use Rattle.zy_exec.specs.Kept.{Kept}
use Rattle.zy_change.specs.declared.kept.Accepted.{Accepted}
use Rattle.zy_change.specs.declared.kept.Chosen.{Chosen}
use Rattle.zy_change.specs.declared.owed.Adoption.{Adoption}
use Rattle.zy_change.specs.declared.owed.Owed.{Owed}
use Rattle.zy_change.specs.Views.{Views, certificate, certificate_if}
use Rattle.zy_table.specs.declared.deeds.Verdict.{Verdict}
use Rattle.zy_table.specs.declared.deeds.Verdict.TheVariants as verdicts
use Rattle.zy_table.specs.State.{State, signs_left, own_view}
use Rattle.zy_table.specs.Deeds.{Going, Outcome, ends, refused}
use Rattle.zy_table.specs.Adopting.{verdict_of}
use Rattle.zy_table.specs.Leaving.{Attempt, goes}
use Rattle.zy_table.specs.Beginning.{adopt_if, certify, certify_with, fetch_said, wanted_of}
use Rattle.zy_replica_views.specs.Ending.{IsSoFar, counted, ending, ending_as as ended_as, finished_as, finished_by, outcome_of, verdict_on}
use Rattle.zy_replica_views.specs.Signing.{signs_by, signs_taken, signs_waiting}
use Rattle.zy_replica_views.specs.declared.judging.Ending.{Ending}
use Rattle.zy_replica_views.specs.declared.judging.Ending.TheVariants.{Rests, TakesUp, Waits}
use Rattle.zy_replica_views.specs.Entering.{CanCertify, CanEnd, CanEnter, EndsAs, ending_as, ending_by, ending_with, signs_after, unless_spent, view_after}

-- The certificate with which the view of an adoption begins is made of what is kept: of the new view that was confirmed,
-- with the choice and the report that are told.
pub record IsEntry (a : Adoption) (v : Views) : Type 0 where
  pub cert : ViewCert
  pub view : cert.new.stmt.view ≡ a.view
  pub accepted : v.accepted ≡ Some (record { new = cert.new; chosen = a.chosen })
  pub enough : certificate v ≡ Some cert
  pub provider : Signed Change
  pub given : slice_get cert.new.stmt.changes a.chosen.provider ≡ Some provider
  pub told : provider.stmt.told ≡ a.told

-- a step has come to its end, but for the view that begins
pub record IsEnd {S : Type 0} (s : State S) (signs : ℕ) (owed : Owed) (end : Going S) : Type 0 where
  pub far : IsSoFar s signs end
  pub fetches : end.state.fetches ≡ s.fetches
  pub view : own_view end.state ≡ view_after s owed.leave
  pub enters : ForSome owed.adopt (CanEnter s owed.leave)

abbrev pub AreEntries : {S : Type 0} → Owed → Going S → Type 0
AreEntries owed end = ForSome owed.adopt (λ a. IsEntry a end.state.views)

abbrev pub verdict_if : Bool → Verdict
verdict_if waits = if waits then verdicts.Wait else verdicts.Take

abbrev pub ending_if : Bool → Ending
ending_if waits = if waits then Waits else TakesUp

-- where enough confirmations are kept, it doesn't matter what the answer would be else
certify_any : {S : Type 0} (R : Rules S) (one two : Answer) (g : Going S) (cert : ViewCert) → certificate g.state.views ≡ Some cert → certify R one g ≡ certify R two g
certify_any R one two g cert = by g.state.views.accepted
  where
    by : (accepted : Option Accepted) → certificate_if g.state.views accepted ≡ Some cert → certify_with R accepted one g ≡ certify_with R accepted two g
    by None is = absurd cc
    by (Some a) is = ap (λ (c : Option ViewCert). adopt_if R c a.chosen one g) is ∙ ap (λ (c : Option ViewCert). adopt_if R c a.chosen two g) (sym is)

module _ {S : Type 0} (R : Rules S) (s : State S) (signs : ℕ) (owed : Owed) (end : Going S) (is : IsEnd s signs owed end) where
  -- ---- what is counted is what is signed

  as_waited : (a : Adoption) → signs_waiting end.state a.view a.told ≡ signs_after s owed.leave a
  as_waited a =
      ap (λ (n : ℕ). (if nat_lt n a.view.0 then 1 else 0) + (if is_some (fetch_said end.state (wanted_of a.told)) then 0 else 1)) is.view
      ∙ ap (λ (fetches : List (Signed Fetch)). (if nat_lt (view_after s owed.leave) a.view.0 then 1 else 0) + (if is_some (find (λ said. same_fetch said.stmt (wanted_of a.told)) fetches) then 0 else 1)) is.fetches

  as_taken : (a : Adoption) → signs_taken end.state a.told a.chosen.place ≡ signs_taken s a.told a.chosen.place
  as_taken a =
      ap (λ (k : Kept S). signs_taken (record end.state { kept = k }) a.told a.chosen.place) is.far.kept
      ∙ ap (λ (c : Check). signs_taken (record s { board = record s.board { stable = c } }) a.told a.chosen.place) is.far.stable

  pub same_verdict : (a : Adoption) → verdict_of R end.state.kept end.state.board.stable a.told a.chosen.place a.chosen.head ≡ verdict_on R s a
  same_verdict a =
      ap (λ (k : Kept S). verdict_of R k end.state.board.stable a.told a.chosen.place a.chosen.head) is.far.kept
      ∙ ap (λ (c : Check). verdict_of R s.kept c a.told a.chosen.place a.chosen.head) is.far.stable

  pub left_then : signs_left end.state ≡ signs_left s - signs
  left_then =
      let left : signs_left end.state ≡ signatures_by s.sealer.key.height - (s.sealer.key.next + signs) = ap (λ (sealer : SealerState). left_of sealer) is.far.sealer in
      omega (arith, left)

  module _ (adopting : Attempt S) where
    -- ---- a refusal

    spent_refused : (n : ℕ) (attempt : Attempt S) (e : Ending) (cause : Cause) → unless_spent n (signs_left s) e ≡ Err cause → counted s n attempt ≡ refused cause s
    spent_refused n attempt e cause = by (nat_le n (signs_left s))
      where
        by : (b : Bool) → (if b then Ok e else Err causes.KeySpent) ≡ Err cause → (if b then outcome_of s attempt else refused causes.KeySpent s) ≡ refused cause s
        by true same = absurd cc
        by false same = let c : causes.KeySpent ≡ cause = cc in ap (λ (x : Cause). refused x s) c

    verdict_refused : (a : Adoption) (verdict : Verdict) (cause : Cause) → ending_by s signs owed.leave a verdict ≡ Err cause → ended_as s signs a verdict end adopting ≡ refused cause s
    verdict_refused a (verdicts.Refuse own) cause same = let c : own ≡ cause = cc in ap (λ (x : Cause). refused x s) c
    verdict_refused a verdicts.Take cause same = spent_refused (signs + signs_taken s a.told a.chosen.place) adopting TakesUp cause same
    verdict_refused a verdicts.Wait cause same =
        ap (λ (n : ℕ). counted s (signs + n) adopting) (as_waited a)
        ∙ spent_refused (signs + signs_after s owed.leave a) adopting Waits cause same

    adopt_refused : (adopt : Option Adoption) (answer : Answer) (cause : Cause) → ending_with R s signs owed.leave adopt ≡ Err cause → ending R s signs adopt answer end adopting ≡ refused cause s
    adopt_refused None answer cause same = spent_refused signs (goes answer end) Rests cause same
    adopt_refused (Some a) answer cause same = verdict_refused a (verdict_on R s a) cause same

    answer_refused : (answer : Answer) (cause : Cause) → ending_as R s signs owed answer ≡ Err cause → finished_as R s signs owed answer end adopting ≡ refused cause s
    answer_refused (Refused own) cause same = let c : own ≡ cause = cc in ap (λ (x : Cause). refused x s) c
    answer_refused Taken cause same = adopt_refused owed.adopt Taken cause same
    answer_refused Held cause same = adopt_refused owed.adopt Held cause same

    pub ends_refused : (cause : Cause) → ending_as R s signs owed owed.answer ≡ Err cause → finished_by R s signs owed end adopting ≡ refused cause s
    ends_refused cause same = answer_refused owed.answer cause same

    -- ---- a step that goes on

    within : (n : ℕ) (x e : Ending) → unless_spent n (signs_left s) x ≡ Ok e → (nat_le n (signs_left s) ≡ true) × (e ≡ x)
    within n x e = by (nat_le n (signs_left s))
      where
        by : (b : Bool) → (if b then Ok x else Err causes.KeySpent) ≡ Ok e → (b ≡ true) × (e ≡ x)
        by true same = (refl, cc)
        by false same = absurd cc

    counts_in : (n : ℕ) (attempt : Attempt S) → nat_le n (signs_left s) ≡ true → counted s n attempt ≡ outcome_of s attempt
    counts_in n attempt few = rw few refl

    -- with an adoption, with enough signatures left for all that it signs
    pub record Adopts (a : Adoption) (e : Ending) (o : Outcome S) : Type 0 where
      pub waits : Bool
      pub ends_so : e ≡ ending_if waits
      pub judged : verdict_on R s a ≡ verdict_if waits
      pub enough : signs + signs_by end.state a.view a.told a.chosen.place waits ≤ signs_left s
      pub comes : o ≡ outcome_of s adopting

    verdict_adopts : (a : Adoption) (verdict : Verdict) → verdict_on R s a ≡ verdict → (e : Ending) → ending_by s signs owed.leave a verdict ≡ Ok e → Adopts a e (ended_as s signs a verdict end adopting)
    verdict_adopts a (verdicts.Refuse cause) judged e same = absurd cc
    verdict_adopts a verdicts.Take judged e same =
        let (few, ends_so) = within (signs + signs_taken s a.told a.chosen.place) TakesUp e same in
        let fits = leb-true _ _ few in
        record {
          waits = false;
          ends_so = ends_so;
          judged = judged;
          enough = omega (arith, fits, as_taken a);
          comes = counts_in (signs + signs_taken s a.told a.chosen.place) adopting few;
        }
    verdict_adopts a verdicts.Wait judged e same =
        let (few, ends_so) = within (signs + signs_after s owed.leave a) Waits e same in
        let fits = leb-true _ _ few in
        record {
          waits = true;
          ends_so = ends_so;
          judged = judged;
          enough = omega (arith, fits, as_waited a);
          comes = ap (λ (n : ℕ). counted s (signs + n) adopting) (as_waited a) ∙ counts_in (signs + signs_after s owed.leave a) adopting few;
        }

    -- or without one
    pub record RestsAs (e : Ending) (o : Outcome S) (answer : Answer) : Type 0 where
      pub ends_so : e ≡ Rests
      pub comes : o ≡ ends answer end

    abbrev GoesOn : Option Adoption → Ending → Outcome S → Answer → Type 0
    GoesOn None e o answer = RestsAs e o answer
    GoesOn (Some a) e o answer = Adopts a e o

    adopt_goes : (adopt : Option Adoption) (answer : Answer) (e : Ending) → ending_with R s signs owed.leave adopt ≡ Ok e → GoesOn adopt e (ending R s signs adopt answer end adopting) answer
    adopt_goes None answer e same = let (few, ends_so) = within signs Rests e same in record { ends_so = ends_so; comes = counts_in signs (goes answer end) few }
    adopt_goes (Some a) answer e same = verdict_adopts a (verdict_on R s a) refl e same

    answer_goes : (answer : Answer) (e : Ending) → ending_as R s signs owed answer ≡ Ok e → GoesOn owed.adopt e (finished_as R s signs owed answer end adopting) answer
    answer_goes (Refused cause) e same = absurd cc
    answer_goes Taken e same = adopt_goes owed.adopt Taken e same
    answer_goes Held e same = adopt_goes owed.adopt Held e same

    pub ends_adopts : (a : Adoption) → owed.adopt ≡ Some a → (e : Ending) → ending_as R s signs owed owed.answer ≡ Ok e → Adopts a e (finished_by R s signs owed end adopting)
    ends_adopts a some e same = subst (λ (adopt : Option Adoption). GoesOn adopt e (finished_by R s signs owed end adopting) owed.answer) some (answer_goes owed.answer e same)

    pub ends_rests : owed.adopt ≡ None → (e : Ending) → ending_as R s signs owed owed.answer ≡ Ok e → RestsAs e (finished_by R s signs owed end adopting) owed.answer
    ends_rests none e same = subst (λ (adopt : Option Adoption). GoesOn adopt e (finished_by R s signs owed end adopting) owed.answer) none (answer_goes owed.answer e same)

  -- ---- a view begins with the new view that was confirmed

  abbrev certifying : Attempt S
  certifying = certify R Taken end

  module _ (a : Adoption) (enters : CanEnter s owed.leave a) (entry : IsEntry a end.state.views) (e : Ending) (o : Outcome S) (does : Adopts certifying a e o) where
    abbrev kept : Accepted
    kept = record { new = entry.cert.new; chosen = a.chosen }

    -- one that is kept is this one
    for_kept : (P : Accepted → Signed Change → Type 0) → P kept entry.provider → (cert : ViewCert) (chosen : Chosen) (provider : Signed Change)
        → end.state.views.accepted ≡ Some (record { new = cert.new; chosen = chosen }) → slice_get cert.new.stmt.changes chosen.provider ≡ Some provider → P (record { new = cert.new; chosen = chosen }) provider
    for_kept P holds cert chosen provider there given =
        let other : Accepted = record { new = cert.new; chosen = chosen } in
        let same : kept ≡ other = same_Some kept other (sym entry.accepted ∙ there) in
        let found : slice_get kept.new.stmt.changes kept.chosen.provider ≡ Some provider = ap (λ (x : Accepted). slice_get x.new.stmt.changes x.chosen.provider) same ∙ given in
        let one : entry.provider ≡ provider = same_Some entry.provider provider (sym entry.given ∙ found) in
        subst (λ (x : Accepted). P x provider) same (subst (P kept) one holds)

    judged_there : verdict_of R end.state.kept end.state.board.stable entry.provider.stmt.told a.chosen.place a.chosen.head ≡ verdict_if does.waits
    judged_there =
        ap (λ (t : Told). verdict_of R end.state.kept end.state.board.stable t a.chosen.place a.chosen.head) entry.told ∙ same_verdict a ∙ does.judged

    signs_there : signs_by end.state entry.cert.new.stmt.view entry.provider.stmt.told a.chosen.place does.waits ≤ signs_left end.state
    signs_there =
        let same : signs_by end.state entry.cert.new.stmt.view entry.provider.stmt.told a.chosen.place does.waits ≡ signs_by end.state a.view a.told a.chosen.place does.waits =
        ap (λ (v : View). signs_by end.state v entry.provider.stmt.told a.chosen.place does.waits) entry.view ∙ ap (λ (t : Told). signs_by end.state a.view t a.chosen.place does.waits) entry.told in
        let few = does.enough in
        omega (arith, same, left_then, few)

    can_certify : CanCertify R does.waits end
    can_certify =
        record {
          enough = subst IsSome (sym entry.enough) refl;
          later = λ cert there.
              let same : entry.cert ≡ cert = same_Some entry.cert cert (sym entry.enough ∙ there) in
              let view : cert.new.stmt.view.0 ≡ a.view.0 = ap (λ (c : ViewCert). c.new.stmt.view.0) (sym same) ∙ ap (λ (v : View). v.0) entry.view in
              let later = enters.later in
              let own = is.view in
              omega (arith, view, later, own);
          judged = for_kept (λ x c. verdict_of R end.state.kept end.state.board.stable c.stmt.told x.chosen.place x.chosen.head ≡ verdict_if does.waits) judged_there;
          left = for_kept (λ x c. signs_by end.state x.new.stmt.view c.stmt.told x.chosen.place does.waits ≤ signs_left end.state) signs_there;
        }

    -- what the view that begins comes to
    adopting_is : (m : Outcome S) → certify R m.answer end ≡ goes m.answer (record { state = m.state; deeds = m.deeds }) → m ≡ o
    adopting_is m same = sym (does.comes ∙ ap (outcome_of s) (certify_any R Taken m.answer end entry.cert entry.enough ∙ same))

  record Comes (answer : Answer) (e : Ending) (o : Outcome S) : Type 0 where
    pub can : CanEnd R e end
    pub comes : (m : Outcome S) → EndsAs R answer e end m → m ≡ o

  by_waits : (waits : Bool) (answer : Answer) (o : Outcome S) → CanCertify R waits end → ((m : Outcome S) → certify R m.answer end ≡ goes m.answer (record { state = m.state; deeds = m.deeds }) → m ≡ o) → Comes answer (ending_if waits) o
  by_waits true answer o can comes = record { can = can; comes = comes }
  by_waits false answer o can comes = record { can = can; comes = comes }

  module _ (entries : AreEntries owed end) (e : Ending) (same : ending_as R s signs owed owed.answer ≡ Ok e) where
    abbrev O : Outcome S
    O = finished_by R s signs owed end certifying

    comes_by : (adopt : Option Adoption) → owed.adopt ≡ adopt → Comes owed.answer e O
    comes_by None none =
        let rests = ends_rests certifying none e same in
        subst (λ (x : Ending). Comes owed.answer x O) (sym rests.ends_so) (record { can = tt; comes = λ m does. does ∙ sym rests.comes })
    comes_by (Some a) some =
        let does = ends_adopts certifying a some e same in
        subst (λ (x : Ending). Comes owed.answer x O) (sym does.ends_so)
        (by_waits does.waits owed.answer O (can_certify a (is.enters a some) (entries a some) e O does) (adopting_is a (is.enters a some) (entries a some) e O does))

    pub ends_can : CanEnd R e end
    ends_can = (comes_by owed.adopt refl).can

    pub ends_as : (m : Outcome S) → EndsAs R owed.answer e end m → m ≡ O
    ends_as = (comes_by owed.adopt refl).comes
