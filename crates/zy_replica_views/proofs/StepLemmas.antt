-- A step that owes what can make a replica leave comes to the row, as it was judged.
use Rattle.std.proofs.Common.{◌≡◌, ◌≤◌, ◌+◌, ◌-◌, ℕ, Option, Some, None, Ok, Err, refl, sym, ap, ◌∙◌, arith}
use Rattle.std.specs.Prelude.{nat_le, if◌then◌else◌, Bool, true, false}
use Rattle.std.specs.Option.{ForSome}
use Rattle.std.proofs.lemmas.Bool.{leb-true}
use Rattle.zy_base.specs.Machine.{Rules}
use Rattle.zy_base.specs.declared.cause.Cause.{Cause}
use Rattle.zy_base.specs.declared.cause.Cause.TheVariants as causes
use Rattle.zy_base.specs.declared.ids.View.{View}
use Rattle.zy_base.specs.declared.step.Answer.{Answer}
use Rattle.zy_base.specs.declared.step.Answer.TheVariants.{Taken, Held, Refused}
use Rattle.zy_seal.specs.Sealing.{SealerState, signatures_by, left_of}
use Rattle.zy_change.specs.declared.owed.Adoption.{Adoption}
use Rattle.zy_change.specs.declared.owed.Owed.{Owed}
use Rattle.zy_table.specs.declared.deeds.Verdict.{Verdict}
use Rattle.zy_table.specs.declared.deeds.Verdict.TheVariants as verdicts
use Rattle.zy_table.specs.State.{State, signs_left}
use Rattle.zy_table.specs.Deeds.{Going, Outcome, refused}
use Rattle.zy_table.specs.Leaving.{Attempt}
use Rattle.zy_table.specs.Beginning.{certify, finished}
use Rattle.zy_replica_views.specs.Carrying.{carried}
use Rattle.zy_replica_views.specs.Ending.{TakesUp, finished_by, verdict_on}
use Rattle.zy_replica_views.specs.Signing.{signs_taken}
use Rattle.zy_replica_views.proofs.EndedLemmas.{carried_far, row_ends}
use Rattle.zy_replica_views.specs.declared.judging.Ending.{Ending}
use Rattle.zy_replica_views.specs.declared.judging.Ending.TheVariants.{Rests, TakesUp as Begins, Waits}
use Rattle.zy_replica_views.specs.Entering.{CanEnd, EndsAs, IsStep, ending_as, ending_by, ending_of, ending_with, signs_after, unless_spent, view_after}
use Rattle.zy_replica_views.proofs.CarriedLemmas.{carried_keeps, takes_up}
use Rattle.zy_replica_views.proofs.EndLemmas.{AreEntries, IsEnd, ends_as, ends_can, ends_refused}

-- ---- what goes on signs no more than is left

module _ {S : Type 0} (R : Rules S) (s : State S) (signs : ℕ) (owed : Owed) (e : Ending) where
  enough : (n : ℕ) (x : Ending) → unless_spent n (signs_left s) x ≡ Ok e → n ≤ signs_left s
  enough n x = by (nat_le n (signs_left s)) refl
    where
      by : (b : Bool) → nat_le n (signs_left s) ≡ b → (if b then Ok x else Err causes.KeySpent) ≡ Ok e → n ≤ signs_left s
      by true few same = leb-true _ _ few
      by false many same = absurd cc

  by_verdict : (a : Adoption) (verdict : Verdict) → ending_by s signs owed.leave a verdict ≡ Ok e → signs ≤ signs_left s
  by_verdict a (verdicts.Refuse cause) same = absurd cc
  by_verdict a verdicts.Take same = let few = enough (signs + signs_taken s a.told a.chosen.place) Begins same in omega (arith, few)
  by_verdict a verdicts.Wait same = let few = enough (signs + signs_after s owed.leave a) Waits same in omega (arith, few)

  by_adopt : (adopt : Option Adoption) → ending_with R s signs owed.leave adopt ≡ Ok e → signs ≤ signs_left s
  by_adopt None same = enough signs Rests same
  by_adopt (Some a) same = by_verdict a (verdict_on R s a) same

  by_answer : (answer : Answer) → ending_as R s signs owed answer ≡ Ok e → signs ≤ signs_left s
  by_answer (Refused cause) same = absurd cc
  by_answer Taken same = by_adopt owed.adopt same
  by_answer Held same = by_adopt owed.adopt same

  pub signs_within : ending_as R s signs owed owed.answer ≡ Ok e → signs ≤ signs_left s
  signs_within same = by_answer owed.answer same

-- ---- a step

module _ {S : Type 0} (R : Rules S) (s : State S) (more : ℕ) (attempt : Attempt S) (owed : Owed) (g : Going S) (step : IsStep R s more attempt owed g) where
  abbrev end : Going S
  end = carried R owed g

  takes : ForSome owed.adopt (TakesUp R s)
  takes = λ a some. takes_up R s step.ready owed.leave a (step.enters a some)

  same_view : (leave : Option View) → view_after g.state leave ≡ view_after s leave
  same_view None = step.view
  same_view (Some view) = refl

  carried_end : IsEnd s (more + owed.signs) owed end
  carried_end =
      let keeps = carried_keeps R owed g in
      record {
        far = carried_far R s more owed g step.so_far step.follows.spends;
        fetches = keeps.fetches ∙ step.fetches;
        view = keeps.view_is ∙ same_view owed.leave;
        enters = step.enters;
      }

  entries : AreEntries owed end
  entries = λ a some. (
      let begun = (step.follows.begins step.unconfirmed).adopts a some in
      record { cert = begun.cert; view = begun.view; accepted = begun.accepted; enough = begun.enough; provider = begun.provider; given = begun.given; told = begun.told }
      )

  comes : finished R s attempt ≡ finished_by R s (more + owed.signs) owed end (certify R Taken end)
  comes = row_ends R s attempt owed g more step.signer step.so_far step.unconfirmed step.follows takes

  pub step_refused : (cause : Cause) → ending_of R s more owed ≡ Err cause → finished R s attempt ≡ refused cause s
  step_refused cause same = comes ∙ ends_refused R s (more + owed.signs) owed end carried_end (certify R Taken end) cause same

  module _ (e : Ending) (same : ending_of R s more owed ≡ Ok e) where
    -- there are leaves for what is owed
    pub step_left : owed.signs ≤ signs_left g.state
    step_left =
        let all = signs_within R s (more + owed.signs) owed e same in
        let left : signs_left g.state ≡ signatures_by s.sealer.key.height - (s.sealer.key.next + more) = ap (λ (sealer : SealerState). left_of sealer) step.so_far.sealer in
        omega (arith, all, left)

    pub step_can : CanEnd R e end
    step_can = ends_can R s (more + owed.signs) owed end carried_end entries e same

    pub step_ends : (m : Outcome S) → EndsAs R owed.answer e end m → m ≡ finished R s attempt
    step_ends m does = ends_as R s (more + owed.signs) owed end carried_end entries e same m does ∙ sym comes
