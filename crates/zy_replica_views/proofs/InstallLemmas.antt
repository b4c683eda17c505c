-- Once the snapshot that is waited for is installed, the choice is taken up from there.
use Rattle.std.proofs.Common.{◌≡◌, ℕ, ◌≤◌, true, false, List, [], ◌∷◌, Option, Some, None, refl, sym, ap, ◌∙◌, arith}
use Rattle.std.specs.Prelude.{nat_le, nat_lt, if◌then◌else◌, slice_get}
use Rattle.std.proofs.lemmas.Bool.{le-leb, le-ltb}
use Rattle.zy_base.specs.Machine.{Rules}
use Rattle.zy_base.specs.declared.cause.Cause.{Cause}
use Rattle.zy_base.specs.declared.ids.Digest.{Digest}
use Rattle.zy_base.specs.declared.ids.Place.{Place}
use Rattle.zy_base.specs.declared.step.Answer.TheVariants.{Taken}
use Rattle.zy_chain.specs.Stretch.{head_in}
use Rattle.zy_parts.specs.declared.signed.Signed.{Signed}
use Rattle.zy_parts.specs.declared.reports.Change.{Change}
use Rattle.zy_parts.specs.declared.reports.Told.{Told}
use Rattle.zy_parts.specs.declared.statements.Check.{Check}
use Rattle.zy_cert.specs.Equal.{same_digest, digest-equal}
use Rattle.zy_check.specs.Board.{stated, with_stable}
use Rattle.zy_check.specs.States.{state_cause}
use Rattle.zy_exec.proofs.SettleLemmas.{settled_none}
use Rattle.zy_exec.specs.Kept.{Kept}
use Rattle.zy_exec.specs.Replay.{Point}
use Rattle.zy_exec.specs.Showing.{point_in}
use Rattle.zy_evidence.specs.Reading.{stretch_of}
use Rattle.zy_change.specs.declared.kept.Waiting.{Waiting}
use Rattle.zy_table.specs.declared.deeds.Verdict.{Verdict}
use Rattle.zy_table.specs.declared.deeds.Verdict.TheVariants.{Take}
use Rattle.zy_table.specs.State.{State}
use Rattle.zy_table.specs.Deeds.{begin}
use Rattle.zy_table.specs.Adopting.{verdict_beside, verdict_of}
use Rattle.zy_table.specs.Leaving.{concluded, goes}
use Rattle.zy_table.specs.Beginning.{adopt, adopt_as, adopt_from, finished, take_up, wanted_of}
use Rattle.zy_table.specs.Fetching.{install, installed, state_for, state_heard, state_judged, state_transfer}
use Rattle.zy_replica_adopt.proofs.CommonLemmas.{head_first, head_within}
use Rattle.zy_replica_adopt.proofs.MeetLemmas.{takes_meets}
use Rattle.zy_replica_views.specs.Follows.{IsSigner}
use Rattle.zy_replica_views.specs.Ending.{IsStableShown, counted}
use Rattle.zy_replica_views.specs.Signing.{CanTake, signs_taken}
use Rattle.zy_replica_views.proofs.ConfirmLemmas.{adopts}
use Rattle.zy_replica_views.proofs.EndedLemmas.{counts}
use Rattle.zy_replica_views.proofs.SignLemmas.{taken_signs}

stated_twice : (other : Check) (checks : List (Signed Check)) → (stated (stated other checks) checks).place ≡ (stated other checks).place
stated_twice other [] = refl
stated_twice other (first ∷ rest) = refl

module _ {S : Type 0} (R : Rules S) (s : State S) (w : Waiting) (provider : Signed Change) (point : Point S) (can : IsStableShown s provider.stmt.told point w.chosen) where
  abbrev told : Told
  told = provider.stmt.told

  abbrev from : State S
  from = installed R point told s

  -- nothing but what is shown
  kept_is : from.kept ≡ record { interval = s.kept.interval; base = point; entries = [] }
  kept_is = sym (settled_none R (record { interval = s.kept.interval; base = point; entries = [] }))

  stable_is : from.board.stable ≡ stated s.board.stable told.checks
  unfolding with_stable
  stable_is = refl

  stable_place : from.board.stable.place ≡ told.stable_place
  stable_place = ap (λ (c : Check). c.place) stable_is ∙ can.proof_place

  stable_head : from.board.stable.head ≡ told.stable_head
  stable_head = ap (λ (c : Check). c.head) stable_is ∙ can.proof_head

  base_place : from.kept.base.place ≡ told.stable_place.0
  base_place = ap (λ (k : Kept S). k.base.place) kept_is ∙ can.place

  base_head : from.kept.base.head ≡ told.stable_head
  base_head = ap (λ (k : Kept S). k.base.head) kept_is ∙ can.head

  chosen_within : (told.stable_place.0 ≤ w.chosen.place.0)
  chosen_within = (head_within (stretch_of told) w.chosen.place.0 w.chosen.head can.chosen_there).0

  -- the report is stable there too, with the same head
  beside : (found : Option Digest) → found ≡ Some told.stable_head → verdict_beside from.board.stable.head found ≡ Take
  beside None is = absurd cc
  beside (Some other) is =
      let e : other ≡ told.stable_head = cc in
      let same : same_digest from.board.stable.head other ≡ true = (digest-equal from.board.stable.head other).1 (stable_head ∙ sym e) in
      rw same refl

  takes : verdict_of R from.kept from.board.stable told w.chosen.place w.chosen.head ≡ Take
  unfolding verdict_of
  takes =
      let low : nat_lt w.chosen.place.0 from.board.stable.place.0 ≡ false = le-ltb _ _ (omega (arith, chosen_within, ap (λ (p : Place). p.0) stable_place)) in
      let within : nat_le told.stable_place.0 from.board.stable.place.0 ≡ true = le-leb _ _ (omega (arith, ap (λ (p : Place). p.0) stable_place)) in
      rw (low, within) (beside (head_in (stretch_of told) from.board.stable.place.0) (head_first (stretch_of told) from.board.stable.place.0 (ap (λ (p : Place). p.0) stable_place)))

  can_take : CanTake from told w.chosen.place
  unfolding with_stable
  can_take =
      record {
        meets = takes_meets R from.kept from.board.stable told w.chosen.place w.chosen.head (ap (λ (p : Place). p.0) stable_place ∙ sym base_place) (stable_head ∙ sym base_head) can.chosen_there takes;
        end = (head_within (stretch_of told) w.chosen.place.0 w.chosen.head can.chosen_there).1;
        base = base_place ∙ ap (λ (p : Place). p.0) (sym stable_place);
        proof = λ further. stated_twice s.board.stable told.checks ∙ can.proof_place;
      }

  taken : slice_get w.cert.new.stmt.changes w.chosen.provider ≡ Some provider → adopt R w.cert w.chosen (begin from) ≡ goes Taken (take_up R w.cert w.chosen told (begin from))
  unfolding adopt
  taken given =
      ap (λ (o : Option (Signed Change)). adopt_from R w.cert w.chosen o (begin from)) given
      ∙ ap (λ (v : Verdict). adopt_as R w.cert w.chosen told v (begin from)) takes

  heard : (place : Place) (bytes : List ℕ) → s.views.waiting ≡ Some w → slice_get w.cert.new.stmt.changes w.chosen.provider ≡ Some provider → state_cause (wanted_of told) place bytes ≡ None → point_in R told.stable_place told.stable_head bytes ≡ Some point
      → state_transfer R s place bytes ≡ adopt R w.cert w.chosen (begin from)
  unfolding state_transfer
  heard place bytes waits given fits shows =
      ap (λ (o : Option Waiting). state_heard R s place bytes o) waits
      ∙ ap (λ (o : Option (Signed Change)). state_for R s w place bytes o) given
      ∙ ap (λ (o : Option Cause). state_judged R s w told bytes o) fits
      ∙ ap (λ (o : Option (Point S)). install R s w told o) shows

  pub installs : (place : Place) (bytes : List ℕ) → IsSigner s → s.views.waiting ≡ Some w → slice_get w.cert.new.stmt.changes w.chosen.provider ≡ Some provider → state_cause (wanted_of told) place bytes ≡ None → point_in R told.stable_place told.stable_head bytes ≡ Some point
      → finished R s (state_transfer R s place bytes) ≡ counted s (signs_taken from told w.chosen.place) (goes Taken (take_up R w.cert w.chosen told (begin from)))
  installs place bytes signer waits given fits shows =
      ap (finished R s) (heard place bytes waits given fits shows)
      ∙ ap (concluded s) (adopts R w.cert w.chosen (begin from) refl ∙ taken given)
      ∙ counts R s (signs_taken from told w.chosen.place) Taken (take_up R w.cert w.chosen told (begin from)) signer (taken_signs R (begin from) w.cert w.chosen told can_take)
