-- What a step comes to with the view that begins at its end.
use Rattle.std.proofs.Common.{◌≡◌, ◌+◌, ℕ, nat_lt, false, if◌then◌else◌, ◌++◌, ◌∷◌, [], Option, Some, None, refl, sym, ap, ◌∙◌, subst}
use Rattle.std.specs.Prelude.{slice_get}
use Rattle.std.specs.List.{list_any}
use Rattle.std.specs.Option.{ForSome}
use Rattle.zy_base.specs.Machine.{Rules}
use Rattle.zy_base.specs.declared.ids.Party.TheVariants.{Replica}
use Rattle.zy_base.specs.declared.ids.View.{View}
use Rattle.zy_base.specs.declared.ids.ReplicaId.{ReplicaId}
use Rattle.zy_base.specs.declared.step.Answer.{Answer}
use Rattle.zy_base.specs.declared.step.Answer.TheVariants.{Taken, Held, Refused}
use Rattle.zy_parts.specs.declared.signed.Signed.{Signed}
use Rattle.zy_parts.specs.declared.reports.Change.{Change}
use Rattle.zy_parts.specs.declared.reports.Told.{Told}
use Rattle.zy_parts.specs.declared.statements.Check.{Check}
use Rattle.zy_vframes.specs.declared.frame.ViewCert.{ViewCert}
use Rattle.zy_check.specs.Board.{stated}
use Rattle.zy_evidence.specs.Reading.{stretch_of}
use Rattle.zy_exec.specs.Kept.{Kept}
use Rattle.zy_change.specs.declared.kept.Accepted.{Accepted}
use Rattle.zy_change.specs.declared.kept.Chosen.{Chosen}
use Rattle.zy_change.specs.declared.owed.Adoption.{Adoption}
use Rattle.zy_change.specs.declared.owed.Owed.{Owed}
use Rattle.zy_change.specs.Views.{certificate_if, certificate_of}
use Rattle.zy_table.specs.declared.deeds.Verdict.{Verdict}
use Rattle.zy_table.specs.declared.deeds.Verdict.TheVariants as verdicts
use Rattle.zy_table.specs.State.{State}
use Rattle.zy_table.specs.Deeds.{Going, ends}
use Rattle.zy_table.specs.Adopting.{verdict_of}
use Rattle.zy_table.specs.Leaving.{Attempt, accept, concluded, give_new, goes, leave_alone}
use Rattle.zy_table.specs.Changes.{send_cert}
use Rattle.zy_table.specs.Beginning.{adopt, adopt_as, adopt_from, adopt_if, begun, certify, certify_with, confirms, finished, take_up, wait_for}
use Rattle.zy_replica_views.proofs.FollowLemmas.{counted_first, spent_both}
use Rattle.zy_replica_views.specs.Carrying.{attempted_as, carried, give, give_if, leave_if, send_if}
use Rattle.zy_replica_views.specs.Follows.{Begins, Follows, IsBegun, IsSigner, spent_many}
use Rattle.zy_replica_adopt.specs.Meeting.{Meets}
use Rattle.zy_replica_views.specs.Ending.{IsSoFar, TakesUp, counted, ending, ending_as, finished_as, finished_by, verdict_on}
use Rattle.zy_replica_views.specs.Signing.{CanTake, signs_taken, signs_waiting}
use Rattle.zy_replica_views.proofs.SignLemmas.{taken_signs, waiting_signs}

module _ {S : Type 0} (R : Rules S) where
  -- ---- an adoption

  -- a step that goes on is counted by what it spent
  pub counts : (s : State S) (signs : ℕ) (answer : Answer) (g : Going S) → IsSigner s → g.state.sealer ≡ spent_many signs s.sealer → concluded s (goes answer g) ≡ counted s signs (goes answer g)
  counts s signs answer g signer spends = counted_first R s signs g.state.sealer (ends answer g) signer spends

  module _ (s : State S) (signs : ℕ) (end : Going S) (signer : IsSigner s) (far : IsSoFar s signs end) (a : Adoption) (cert : ViewCert) (view : cert.new.stmt.view ≡ a.view) where
    abbrev adopting : Verdict → Attempt S
    adopting verdict = adopt_as R cert a.chosen a.told verdict end

    as_counted : signs_taken end.state a.told a.chosen.place ≡ signs_taken s a.told a.chosen.place
    as_counted =
        ap (λ (k : Kept S). signs_taken (record end.state { kept = k }) a.told a.chosen.place) far.kept
        ∙ ap (λ (c : Check). signs_taken (record s { board = record s.board { stable = c } }) a.told a.chosen.place) far.stable

    ends_as : (verdict : Verdict) → (verdict ≡ verdicts.Take → CanTake end.state a.told a.chosen.place) → concluded s (adopting verdict) ≡ ending_as s signs a verdict end (adopting verdict)
    ends_as (verdicts.Refuse cause) can = refl
    ends_as verdicts.Take can =
        counts s (signs + signs_taken s a.told a.chosen.place) Taken (take_up R cert a.chosen a.told end) signer
        (taken_signs R end cert a.chosen a.told (can refl) ∙ ap (spent_many (signs_taken end.state a.told a.chosen.place)) far.sealer ∙ ap (λ (n : ℕ). spent_many n (spent_many signs s.sealer)) as_counted
        ∙ spent_both signs (signs_taken s a.told a.chosen.place) s.sealer)
    ends_as verdicts.Wait can =
        counts s (signs + signs_waiting end.state a.view a.told) Held (wait_for R cert a.chosen a.told end) signer
        (waiting_signs R end cert a.chosen a.told ∙ ap (spent_many (signs_waiting end.state cert.new.stmt.view a.told)) far.sealer ∙ ap (λ (v : View). spent_many (signs_waiting end.state v a.told) (spent_many signs s.sealer)) view
        ∙ spent_both signs (signs_waiting end.state a.view a.told) s.sealer)

    -- the verdict is that of before
    same_verdict : verdict_of R end.state.kept end.state.board.stable a.told a.chosen.place a.chosen.head ≡ verdict_on R s a
    same_verdict =
        ap (λ (k : Kept S). verdict_of R k end.state.board.stable a.told a.chosen.place a.chosen.head) far.kept
        ∙ ap (λ (c : Check). verdict_of R s.kept c a.told a.chosen.place a.chosen.head) far.stable

    module _ (provider : Signed Change) (given : slice_get cert.new.stmt.changes a.chosen.provider ≡ Some provider) (told : provider.stmt.told ≡ a.told) where
      pub adopt_is : adopt R cert a.chosen end ≡ adopting (verdict_on R s a)
      unfolding adopt
      adopt_is =
          ap (λ (o : Option (Signed Change)). adopt_from R cert a.chosen o end) given
          ∙ ap (λ (t : Told). adopt_as R cert a.chosen t (verdict_of R end.state.kept end.state.board.stable t a.chosen.place a.chosen.head) end) told
          ∙ ap adopting same_verdict

      pub adoption_ends : TakesUp R s a → concluded s (adopt R cert a.chosen end) ≡ ending R s signs (Some a) Taken end (adopt R cert a.chosen end)
      adoption_ends takes =
          ap (concluded s) adopt_is
          ∙ ends_as (verdict_on R s a) (λ is. can_there (takes is))
          ∙ ap (ending_as s signs a (verdict_on R s a) end) (sym adopt_is)
        where
          can_there : CanTake s a.told a.chosen.place → CanTake end.state a.told a.chosen.place
          can_there can =
              record {
                meets = subst (λ (k : Kept S). Meets (stretch_of a.told) a.chosen.place.0 k) (sym far.kept) can.meets;
                end = can.end;
                base = ap (λ (k : Kept S). k.base.place) far.kept ∙ can.base ∙ ap (λ (c : Check). c.place.0) (sym far.stable);
                proof = λ further. ap (λ (c : Check). (stated c a.told.checks).place) far.stable ∙ can.proof (ap (λ (c : Check). nat_lt c.place.0 a.told.stable_place.0) (sym far.stable) ∙ further);
              }

  -- ---- what is carried out changes neither the history nor the stable checkpoint

  record Stays (before after : Going S) : Type 0 where
    kept : after.state.kept ≡ before.state.kept
    stable : after.state.board.stable ≡ before.state.board.stable

  left_stays : (leave : Option View) (g : Going S) → Stays g (leave_if R leave g)
  unfolding leave_alone
  left_stays None g = record { kept = refl; stable = refl }
  left_stays (Some view) g = record { kept = refl; stable = refl }

  given_stays : (gather : Option View) (confirm : Option Chosen) (g : Going S) → Stays g (give_if R gather confirm g)
  unfolding give accept give_new
  given_stays None confirm g = record { kept = refl; stable = refl }
  given_stays (Some view) None g = record { kept = refl; stable = refl }
  given_stays (Some view) (Some chosen) g = record { kept = refl; stable = refl }

  sent_stays : (send : Option ReplicaId) (g : Going S) → Stays g (send_if send g)
  sent_stays None g = record { kept = refl; stable = refl }
  sent_stays (Some id) g = by g.state.views.view_cert
    where
      by : (cert : Option ViewCert) → Stays g (send_cert (Replica id) cert g)
      by None = record { kept = refl; stable = refl }
      by (Some cert) = record { kept = refl; stable = refl }

  carried_stays : (owed : Owed) (g : Going S) → Stays g (carried R owed g)
  carried_stays owed g =
      let left = leave_if R owed.leave g in
      let given = give_if R owed.gather owed.confirm left in
      let one = left_stays owed.leave g in
      let two = given_stays owed.gather owed.confirm left in
      let three = sent_stays owed.send given in
      record { kept = three.kept ∙ two.kept ∙ one.kept; stable = three.stable ∙ two.stable ∙ one.stable }

  pub carried_far : (s : State S) (more : ℕ) (owed : Owed) (g : Going S) → IsSoFar s more g → (carried R owed g).state.sealer ≡ spent_many owed.signs g.state.sealer → IsSoFar s (more + owed.signs) (carried R owed g)
  carried_far s more owed g far spends =
      let same = carried_stays owed g in
      record {
        sealer = spends ∙ ap (spent_many owed.signs) far.sealer ∙ spent_both more owed.signs s.sealer;
        kept = same.kept ∙ far.kept;
        stable = same.stable ∙ far.stable;
      }

  -- ---- a row with the view that begins at its end

  -- its certificate is of what was confirmed
  certify_is : (a : Adoption) (end : Going S) (attempt : Attempt S) (begins : IsBegun R a end attempt) → certify R Taken end ≡ adopt R begins.cert a.chosen end
  certify_is a end attempt begins =
      let kept : Accepted = record { new = begins.cert.new; chosen = a.chosen } in
      let enough : certificate_of end.state.views kept ≡ Some begins.cert = ap (certificate_if end.state.views) (sym begins.accepted) ∙ begins.enough in
      ap (λ (accepted : Option Accepted). certify_with R accepted Taken end) begins.accepted
      ∙ ap (λ (cert : Option ViewCert). adopt_if R cert a.chosen Taken end) enough

  module _ (s : State S) (signs : ℕ) (end : Going S) (attempt : Attempt S) (signer : IsSigner s) (far : IsSoFar s signs end) where
    abbrev certifying : Attempt S
    certifying = certify R Taken end

    abbrev Ends : Answer → Option Adoption → Type 0
    Ends answer adopt = concluded s (begun R attempt) ≡ ending R s signs adopt answer end certifying

    pub begins_ends : (answer : Answer) → attempt ≡ goes answer end → (adopt : Option Adoption) → Begins R adopt end attempt → ForSome adopt (TakesUp R s) → Ends answer adopt
    begins_ends answer is None begins takes = ap (concluded s) (begins.rests refl ∙ is) ∙ counts s signs answer end signer far.sealer
    begins_ends answer is (Some a) begins takes =
        let there = begins.adopts a refl in
        let same = certify_is a end attempt there in
        ap (concluded s) (there.same ∙ same)
        ∙ adoption_ends s signs end signer far a there.cert there.view there.provider there.given there.told (takes a refl)
        ∙ ap (ending_as s signs a (verdict_on R s a) end) (sym same)

  module _ (s : State S) (attempt : Attempt S) (owed : Owed) (g : Going S) (more : ℕ) (signer : IsSigner s) (so_far : IsSoFar s more g) (none : list_any confirms g.deeds.acts ≡ false) (f : Follows R attempt owed g) (takes : ForSome owed.adopt (TakesUp R s)) where
    abbrev after : Going S
    after = carried R owed g

    far : IsSoFar s (more + owed.signs) after
    far = carried_far s more owed g so_far f.spends

    by_answer : (answer : Answer) → attempt ≡ attempted_as R answer owed g → finished R s attempt ≡ finished_as R s (more + owed.signs) owed answer after (certify R Taken after)
    by_answer (Refused cause) is = ap (λ (x : Attempt S). concluded s (begun R x)) is
    by_answer Taken is = begins_ends s (more + owed.signs) after attempt signer far Taken is owed.adopt (f.begins none) takes
    by_answer Held is = begins_ends s (more + owed.signs) after attempt signer far Held is owed.adopt (f.begins none) takes

    pub row_ends : finished R s attempt ≡ finished_by R s (more + owed.signs) owed after (certify R Taken after)
    row_ends = by_answer owed.answer f.same
