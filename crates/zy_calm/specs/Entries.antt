-- What calm requests become in the history, one entry each, and what their clients count as complete.
use Rattle.std.specs.Prelude.{ℕ, ◌+◌, nat_eq, count_by, List, [], ◌∷◌, ◌++◌}
use Rattle.zy_base.specs.Machine.{Rules}
use Rattle.zy_base.specs.declared.ids.ClientId.{ClientId}
use Rattle.zy_chain.specs.declared.entry.Entry.{Entry}
use Rattle.zy_exec.specs.Replay.{along, known_of, origin}
use Rattle.zy_table.specs.ClientRows.{own_reply}
use Rattle.zy_table.specs.declared.client.Done.{Done}
use Rattle.zy_table.specs.declared.client.Path.{Path}
use Rattle.zy_tuple.specs.Bytes.{op_bytes}
use Rattle.zy_calm.specs.Asks.{CalmAsk}

-- how many of some entries are a client's
abbrev pub asked_in : ClientId → List Entry → ℕ
asked_in client entries = count_by (λ e. nat_eq e.client.0 client.0) entries

-- what a request becomes behind these entries: its client's stamps rise by one
abbrev pub entry_after : List Entry → CalmAsk → Entry
entry_after before a = record { client = a.client; stamp = record { 0 = asked_in a.client before + 1 }; op = op_bytes a.op }

-- these entries and then those of the requests
abbrev pub entries_after : List Entry → List CalmAsk → List Entry
entries_after before [] = before
entries_after before (a ∷ asks) = entries_after (before ++ entry_after before a ∷ []) asks

abbrev pub entries : List CalmAsk → List Entry
entries asks = entries_after [] asks

-- what its client counts as complete: the next place behind these entries, in the first view, with the machine's reply there
abbrev pub done_at : {S : Type 0} → Rules S → Path → List Entry → Entry → Done
done_at R path before e =
    let known = known_of R (along R (origin R) before) e in
    record {
      stamp = known.stamp;
      view = record { 0 = 0 };
      place = known.place;
      head = known.head;
      path = path;
      reply = own_reply known.reply;
    }
