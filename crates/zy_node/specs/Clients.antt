-- What a client's node has to know of it.
use Rattle.std.specs.Prelude.{nat_eq, Bool, false, Option, Some, None}
use Rattle.zy_base.specs.declared.ids.Stamp.{Stamp}
use Rattle.zy_table.specs.ClientRows.{client_step}
use Rattle.zy_table.specs.ClientState.{ClientState, ClientOutcome, client_outgoing, timers_of}
use Rattle.zy_table.specs.declared.client.Done.{Done}
use Rattle.zy_node.specs.Rules.{Deed, Rules, is_refused}

abbrev pub deed_of : ClientOutcome → Deed ClientState
deed_of o = record { state = o.state; sent = client_outgoing o.state.counts.n o.sent; refused = is_refused o.answer }

-- a completion is that of the last request
abbrev pub is_of : Stamp → Option Done → Bool
is_of stamp None = false
is_of stamp (Some done) = nat_eq done.stamp.0 stamp.0

abbrev pub is_complete : ClientState → Bool
is_complete s = is_of s.stamp s.done

abbrev pub client_rules : Rules ClientState
client_rules = record { step = λ event s. deed_of (client_step s event); timers = timers_of; is_done = is_complete }
