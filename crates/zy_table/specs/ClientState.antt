-- What a client is, as far as its answers tell, and what a step of it does.
use Rattle.std.specs.Prelude.{ℕ, Bool, true, false, List, [], map, replicate, Option, Some, None}
use Rattle.std.specs.List.{range_with_len}
use Rattle.zy_base.specs.declared.counts.Counts.{Counts}
use Rattle.zy_base.specs.declared.cause.Cause.{Cause}
use Rattle.zy_base.specs.declared.ids.ClientId.{ClientId}
use Rattle.zy_base.specs.declared.ids.Stamp.{Stamp}
use Rattle.zy_base.specs.declared.ids.View.{View}
use Rattle.zy_base.specs.declared.ids.Party.{Party}
use Rattle.zy_base.specs.declared.ids.Party.TheVariants.{Replica, Client}
use Rattle.zy_base.specs.declared.step.Answer.{Answer}
use Rattle.zy_base.specs.declared.step.Answer.TheVariants.{Taken, Refused}
use Rattle.zy_base.specs.declared.step.Spoken.{Spoken}
use Rattle.zy_base.specs.declared.step.Timers.{Timers}
use Rattle.zy_seal.specs.Keys.{Keys}
use Rattle.zy_seal.specs.Sealing.{SealerState, left_of}
use Rattle.zy_parts.specs.Numbers as numbers
use Rattle.zy_parts.specs.Signing.{text_of}
use Rattle.zy_parts.specs.Statements.{ask_fields}
use Rattle.zy_parts.specs.declared.signed.Signed.{Signed}
use Rattle.zy_parts.specs.declared.statements.Ask.{Ask}
use Rattle.zy_table.specs.Sending.{outgoing_to}
use Rattle.zy_table.specs.declared.deeds.Sent.{Sent}
use Rattle.zy_table.specs.declared.client.Commit.{Commit}
use Rattle.zy_table.specs.declared.client.Done.{Done}
use Rattle.zy_table.specs.declared.client.Response.{Response}

pub record ClientState : Type 0 where
  pub me : ClientId
  pub counts : Counts
  -- the public keys of the group, and itself with its secret key
  pub keys : Keys
  pub sealer : SealerState
  -- the view of the last completion
  pub known_view : View
  -- the stamp of the last request
  pub stamp : Stamp
  -- the request that waits for its completion
  pub waiting : Option (Signed Ask)
  -- for each replica its response to this request, that of the greatest view
  pub responses : List (Option Response)
  -- the certificate that it sent for this request
  pub commit : Option Commit
  -- the last completion
  pub done : Option Done
  -- the views of which it told all that the primary misbehaved
  pub blamed : List View

-- no replica has responded
abbrev pub no_responses : Counts → List (Option Response)
no_responses counts = replicate counts.n None

-- a client that begins; its first request has the next stamp
abbrev pub client_start : ClientId → Counts → Keys → SealerState → Stamp → ClientState
client_start me counts keys sealer stamp =
    record {
      me = me;
      counts = counts;
      keys = keys;
      sealer = sealer;
      known_view = record { 0 = 0 };
      stamp = stamp;
      waiting = None;
      responses = no_responses counts;
      commit = None;
      done = None;
      blamed = [];
    }

-- how many requests it can still sign
abbrev pub signs_left : ClientState → ℕ
signs_left s = left_of s.sealer

abbrev pub is_waiting : Option (Signed Ask) → Bool
is_waiting None = false
is_waiting (Some ask) = true

abbrev pub timers_of : ClientState → Timers
timers_of s = record { request = false; change = false; answer = is_waiting s.waiting }

-- what a step made of its event: the answer, the state, the frames that were sent and the requests that were signed
pub record ClientOutcome : Type 0 where
  pub answer : Answer
  pub state : ClientState
  pub sent : List Sent
  pub said : List Ask

-- a refusal leaves all as it is
abbrev pub refused : Cause → ClientState → ClientOutcome
refused cause s = record { answer = Refused cause; state = s; sent = []; said = [] }

abbrev pub taken : ClientState → ClientOutcome
taken s = record { answer = Taken; state = s; sent = []; said = [] }

-- ---- what others see

-- all replicas, in rising number
abbrev pub all_replicas : ℕ → List Party
all_replicas n = map (λ id. Replica (record { 0 = id })) (range_with_len 0 n)

abbrev pub client_outgoing : ℕ → List Sent → List (Party × List ℕ)
client_outgoing n sent = outgoing_to (all_replicas n) sent

abbrev pub spoken_of : ClientId → Ask → Spoken
spoken_of me ask = record { text = text_of numbers.ask ask_fields (Client me) ask; stood = None; pairs = 0 }
