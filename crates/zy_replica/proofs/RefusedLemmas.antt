-- A refused step as its caller sees it.
use Rattle.std.proofs.Common.{◌≡◌, ℕ, IfOk, List, Ok, Err, sym, ap, ◌∙◌}
use Rattle.std.specs.Prelude.{Result}
use Rattle.zy_base.specs.declared.cause.Cause.{Cause}
use Rattle.zy_base.specs.declared.ids.Party.{Party}
use Rattle.zy_base.specs.declared.ids.Party.TheVariants.{Replica}
use Rattle.zy_base.specs.declared.step.Answer.{Answer}
use Rattle.zy_base.specs.declared.step.Answer.TheVariants.{Refused}
use Rattle.zy_base.specs.declared.step.Spoken.{Spoken}
use Rattle.zy_base.specs.declared.step.Timers.{Timers}
use Rattle.zy_table.specs.Deeds.{Outcome, gains_in, outgoing_of, refused, said_from}
use Rattle.zy_table.specs.State.{State, timers_of}
use Rattle.zy_table.specs.declared.deeds.Got.{Got}
use Rattle.zy_replica.specs.Refusing.{IsUnchanged}

-- where the table leaves all as it is, and each part of what the caller gets is the table's
module _ {S E A : Type 0} (result : Result A E) (s : State S) (o : Outcome S) (stays : (cause : Cause) → o.answer ≡ Refused cause → o ≡ refused cause s)
    (answer : A → Answer) (replica : A → State S) (timers : A → Timers) (out : A → List (Party × List ℕ)) (said : A → List Spoken) (got : A → List Got) where
  by : (result : Result A E) → IfOk result (λ r. answer r ≡ o.answer) → IfOk result (λ r. replica r ≡ o.state) → IfOk result (λ r. timers r ≡ timers_of o.state)
      → IfOk result (λ r. out r ≡ outgoing_of o.state.me.0 o.state.counts.n o.deeds.sent) → IfOk result (λ r. said r ≡ said_from (Replica o.state.me) 0 o.deeds.acts) → IfOk result (λ r. got r ≡ gains_in o.deeds.acts)
      → IfOk result (λ r. (cause : Cause) → answer r ≡ Refused cause → IsUnchanged s (replica r) (timers r) (out r) (said r) (got r))
  by (Err error) answers state rings frames speaks gains = answers
  by (Ok r) answers state rings frames speaks gains = λ cause refuses.
      let same : o ≡ refused cause s = stays cause (sym answers ∙ refuses) in
      record {
        replica = state ∙ ap (λ (x : Outcome S). x.state) same;
        timers = rings ∙ ap (λ (x : Outcome S). timers_of x.state) same;
        sent = frames ∙ ap (λ (x : Outcome S). outgoing_of x.state.me.0 x.state.counts.n x.deeds.sent) same;
        silent = speaks ∙ ap (λ (x : Outcome S). said_from (Replica x.state.me) 0 x.deeds.acts) same;
        gained = gains ∙ ap (λ (x : Outcome S). gains_in x.deeds.acts) same;
      }

  pub refused_unchanged : IfOk result (λ r. answer r ≡ o.answer) → IfOk result (λ r. replica r ≡ o.state) → IfOk result (λ r. timers r ≡ timers_of o.state)
      → IfOk result (λ r. out r ≡ outgoing_of o.state.me.0 o.state.counts.n o.deeds.sent) → IfOk result (λ r. said r ≡ said_from (Replica o.state.me) 0 o.deeds.acts) → IfOk result (λ r. got r ≡ gains_in o.deeds.acts)
      → IfOk result (λ r. (cause : Cause) → answer r ≡ Refused cause → IsUnchanged s (replica r) (timers r) (out r) (said r) (got r))
  refused_unchanged = by result
