-- A refused step as its caller sees it.
use Rattle.std.proofs.Common.{◌≡◌, IfOk, Ok, Err, map, sym, ap, ◌∙◌}
use Rattle.std.specs.Prelude.{Result}
use Rattle.zy_base.specs.declared.cause.Cause.{Cause}
use Rattle.zy_base.specs.declared.step.Answer.TheVariants.{Refused}
use Rattle.zy_table.specs.ClientState.{ClientOutcome, ClientState, client_outgoing, refused, spoken_of, timers_of}
use Rattle.zy_client.specs.Stepped.{IsStepped, IsUnchanged}
use Rattle.zy_client.specs.declared.client.ClientStepped.{ClientStepped}

unchanged : (s : ClientState) (o : ClientOutcome) (cause : Cause) (r : ClientStepped) → IsStepped o r → o ≡ refused cause s → IsUnchanged s r
unchanged s o cause r is same =
    record {
      client = is.client ∙ ap (λ (x : ClientOutcome). x.state) same;
      timers = is.timers ∙ ap (λ (x : ClientOutcome). timers_of x.state) same;
      out = is.out ∙ ap (λ (x : ClientOutcome). client_outgoing x.state.counts.n x.sent) same;
      said = is.said ∙ ap (λ (x : ClientOutcome). map (spoken_of x.state.me) x.said) same;
    }

-- where the table leaves all as it is
pub refused_unchanged : {E : Type 0} (s : ClientState) (o : ClientOutcome) → ((cause : Cause) → o.answer ≡ Refused cause → o ≡ refused cause s) → (result : Result ClientStepped E) → IfOk result (IsStepped o)
    → IfOk result (λ r. (cause : Cause) → r.answer ≡ Refused cause → IsUnchanged s r)
refused_unchanged s o stays (Ok r) is = λ cause refuses. unchanged s o cause r is (stays cause (sym is.answer ∙ refuses))
refused_unchanged s o stays (Err error) is = is
