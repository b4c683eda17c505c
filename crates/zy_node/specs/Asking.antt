-- What an ask over a link comes to.
use Rattle.std.specs.Prelude.{◌≡◌, ◌⊎◌, ℕ, ◌≤◌, Bool, true, false, List, Option, Some, None, Result, Ok, Err}
use Rattle.zy_base.specs.declared.cause.Cause.{Cause}
use Rattle.zy_base.specs.declared.step.Answer.{Answer}
use Rattle.zy_base.specs.declared.step.Answer.TheVariants as answers
use Rattle.zy_edge.specs.Link.{Mail}
use Rattle.zy_table.specs.ClientRows.{ask}
use Rattle.zy_table.specs.ClientState.{ClientState}
use Rattle.zy_node.specs.AskFaults.{of_node_fault}
use Rattle.zy_node.specs.Clients.{client_rules, deed_of, is_complete}
use Rattle.zy_node.specs.Told.{IsCutRun, IsCutTurn, IsRun, IsTurn, IsWholeRun, Outside, Sends, SendsFront}
use Rattle.zy_node.specs.Turn.{HostState, all_parcels, host_of}
use Rattle.zy_node.specs.declared.fault.AskFault.{AskFault}
use Rattle.zy_node.specs.declared.fault.AskFault.TheVariants as ask_faults
use Rattle.zy_node.specs.declared.asker.Asked.{Asked}
use Rattle.zy_node.specs.declared.asker.Asked.TheVariants as asked
use Rattle.zy_node.specs.declared.asker.Begun.{Begun}
use Rattle.zy_node.specs.declared.asker.Begun.TheVariants as begun
use Rattle.zy_node.specs.declared.fault.NodeFault.{NodeFault}

abbrev pub is_link : AskFault → Bool
is_link ask_faults.Link = true
is_link ask_faults.Want = false

abbrev pub is_ask_fault : {A : Type 0} → Result A AskFault → Bool
is_ask_fault (Ok value) = false
is_ask_fault (Err fault) = is_link fault

-- a node's turns as those of the ask
abbrev pub ask_result : {N : Type 0} → Result N (NodeFault N) → Result N AskFault
ask_result (Ok node) = Ok node
ask_result (Err fault) = Err (of_node_fault fault)

-- ---- the beginning

abbrev pub refusal_of : Answer → Option Cause
refusal_of answers.Taken = None
refusal_of answers.Held = None
refusal_of (answers.Refused cause) = Some cause

-- why a request isn't asked: an earlier one waits, or the key has no signature left
abbrev pub refusal : ClientState → List ℕ → Option Cause
refusal client op = refusal_of (ask client op).answer

-- what asking makes of the client's node, and the datagrams of the request
abbrev pub asking_host : ClientState → List ℕ → HostState ClientState
asking_host client op = host_of (deed_of (ask client op)).state

abbrev pub SendsRequest : ClientState → List ℕ → Option Mail → Option Mail → Type 0
SendsRequest client op before after = Sends (all_parcels (deed_of (ask client op)).sent) before after

abbrev pub SendsRequestFront : ClientState → List ℕ → Option Mail → Option Mail → Type 0
SendsRequestFront client op before after = SendsFront (all_parcels (deed_of (ask client op)).sent) before after

-- a refusal leaves the client and the link as they are
abbrev pub BeginsAs : ClientState → List ℕ → Result Begun AskFault → Option Mail → Option Mail → Type 0
BeginsAs client op (Ok (begun.Waiting asker)) before after = (refusal client op ≡ None) × (asker ≡ asking_host client op) × SendsRequest client op before after
BeginsAs client op (Ok (begun.Refused same cause)) before after = (refusal client op ≡ Some cause) × (same ≡ client) × (after ≡ before)
BeginsAs client op (Err fault) before after = SendsRequestFront client op before after

-- ---- a turn

abbrev pub AskerTurnsTo : HostState ClientState → Result (HostState ClientState) AskFault → Outside → Outside → Type 0
AskerTurnsTo before (Ok after) from to = IsTurn client_rules before after from to
AskerTurnsTo before (Err fault) from to = IsCutTurn client_rules before from to

-- ---- the whole

abbrev pub AskerRunsTo : ℕ → HostState ClientState → Result (HostState ClientState) AskFault → Outside → Outside → Type 0
AskerRunsTo most before (Ok after) from to = IsWholeRun client_rules most before after from to
AskerRunsTo most before (Err fault) from to = IsCutRun client_rules most before from to

-- so many turns, and the client after them
pub record IsWaiting (before : HostState ClientState) (many : ℕ) (last : ClientState) (from to : Outside) : Type 0 where
  pub host : HostState ClientState
  pub run : IsRun client_rules many before host from to
  pub client : last ≡ host.core

-- until the request is complete, or the turns are taken
abbrev pub WaitsAs : HostState ClientState → ℕ → Result Asked AskFault → Outside → Outside → Type 0
WaitsAs before most (Ok (asked.Done last)) from to = (many : ℕ) × (many ≤ most) × IsWaiting before many last from to × (is_complete last ≡ true)
WaitsAs before most (Ok (asked.Spent last)) from to = IsWaiting before most last from to × (is_complete last ≡ false)
WaitsAs before most (Ok (asked.Refused same cause)) from to = ⊥
WaitsAs before most (Err fault) from to = IsCutRun client_rules most before from to

-- once the request is sent, nothing was received yet, and the clock not read
abbrev pub once_sent : Outside → Option Mail → Outside
once_sent from mail = record { mail = mail; receives = from.receives; moments = from.moments }

-- a front of the request was sent
pub record IsCutAsking (client : ClientState) (op : List ℕ) (from to : Outside) : Type 0 where
  pub mail : Option Mail
  pub request : SendsRequestFront client op from.mail mail
  pub nothing_else : to ≡ once_sent from mail

-- the request was sent, and then it was waited for its completion
pub record IsAsked (client : ClientState) (op : List ℕ) (most : ℕ) (result : Result Asked AskFault) (from to : Outside) : Type 0 where
  pub mail : Option Mail
  pub request : SendsRequest client op from.mail mail
  pub waits : WaitsAs (asking_host client op) most result (once_sent from mail) to

abbrev pub AsksAs : ClientState → List ℕ → ℕ → Result Asked AskFault → Outside → Outside → Type 0
AsksAs client op most (Ok (asked.Done last)) from to = (refusal client op ≡ None) × IsAsked client op most (Ok (asked.Done last)) from to
AsksAs client op most (Ok (asked.Spent last)) from to = (refusal client op ≡ None) × IsAsked client op most (Ok (asked.Spent last)) from to
AsksAs client op most (Ok (asked.Refused same cause)) from to = (refusal client op ≡ Some cause) × (same ≡ client) × (to ≡ from)
AsksAs client op most (Err fault) from to = IsCutAsking client op from to ⊎ IsAsked client op most (Err fault) from to
