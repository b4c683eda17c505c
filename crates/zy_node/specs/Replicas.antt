-- What a replica's node has to know of it.
use Rattle.std.specs.Prelude.{false}
use Rattle.zy_base.specs.Machine as machine
use Rattle.zy_table.specs.Deeds.{outgoing_of, Outcome}
use Rattle.zy_table.specs.State.{State, timers_of}
use Rattle.zy_table.specs.Whole.{whole_step}
use Rattle.zy_node.specs.Rules.{Deed, Rules, is_refused}

abbrev pub deed_of : {S : Type 0} → Outcome S → Deed (State S)
deed_of o = record { state = o.state; sent = outgoing_of o.state.me.0 o.state.counts.n o.deeds.sent; refused = is_refused o.answer }

-- it takes the steps of the whole answer table, in every view, and is never done
abbrev pub replica_rules : {S : Type 0} → machine.Rules S → Rules (State S)
replica_rules R = record { step = λ event s. deed_of (whole_step R s event); timers = timers_of; is_done = λ s. false }
