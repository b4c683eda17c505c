-- A step as its caller sees it.
use Rattle.std.specs.Prelude.{◌≡◌, [], map}
use Rattle.zy_table.specs.ClientState.{ClientOutcome, ClientState, client_outgoing, spoken_of, timers_of}
use Rattle.zy_client.specs.declared.client.ClientStepped.{ClientStepped}

-- the answer, the client, the frames as bytes, the timers and the signed texts are those of the outcome
pub record IsStepped (o : ClientOutcome) (s : ClientStepped) : Type 0 where
  pub answer : s.answer ≡ o.answer
  pub client : s.client ≡ o.state
  pub out : s.out ≡ client_outgoing o.state.counts.n o.sent
  pub timers : s.timers ≡ timers_of o.state
  pub said : s.said ≡ map (spoken_of o.state.me) o.said

-- the client and its timers are as before, nothing is sent, and nothing is said
pub record IsUnchanged (before : ClientState) (s : ClientStepped) : Type 0 where
  pub client : s.client ≡ before
  pub timers : s.timers ≡ timers_of before
  pub out : s.out ≡ []
  pub said : s.said ≡ []
