-- What the law of safety sees of a world.
use Rattle.std.specs.Prelude.{ℕ, ◌==◌, if◌then◌else◌, List, [], map, drop, Option, Some, None, Result, Ok, Err, is_none}
use Rattle.std.specs.List.{filter_map}
use Rattle.zy_base.specs.Machine.{Rules}
use Rattle.zy_base.specs.declared.frame_fault.FrameFault.{FrameFault}
use Rattle.zy_base.specs.declared.ids.ClientId.{ClientId}
use Rattle.zy_chain.specs.Entries.{digest_of_entry}
use Rattle.zy_chain.specs.declared.entry.Entry.{Entry}
use Rattle.zy_law.specs.World as law
use Rattle.zy_law.specs.World.{Stand}
use Rattle.zy_law_normal.specs.Tied.{next_head, last_reply, state_of}
use Rattle.zy_parts.specs.Numbers as numbers
use Rattle.zy_parts.specs.Statements.{ask_fields, entry_of}
use Rattle.zy_parts.specs.declared.statements.Ask.{Ask}
use Rattle.zy_law_views.specs.Told.{number_of, statement_in}
use Rattle.zy_wire.specs.Spelling.{whole}
use Rattle.zy_world_law.specs.Texts.{is_link}
use Rattle.zy_world_law.specs.World.{World, Replica, Client, Remark, replica_at, client_at}

-- ---- what a client asks for: the fields of a text stand behind the signer

abbrev pub fields_of : List ℕ → List ℕ
fields_of text = drop 9 text

abbrev pub ask_read : ClientId → Result Ask FrameFault → Option Entry
ask_read client (Err fault) = None
ask_read client (Ok ask) = Some (entry_of client ask)

-- the entry that a client asks for by a text
unfoldable pub entry_in : ClientId → List ℕ → Option Entry
entry_in client text = if number_of text == numbers.ask then ask_read client (whole ask_fields (fields_of text)) else None

-- ---- the law's world

-- by the replica with this number
abbrev pub spoken_by : ℕ → Remark → law.Spoken
spoken_by id remark = record { what = statement_in id remark.text; when = remark.when }

abbrev pub said_of : {S : Type 0} → ℕ → Option (Replica S) → List law.Spoken
said_of id None = []
said_of id (Some x) = map (spoken_by id) x.said

abbrev pub past_of : {S : Type 0} → Option (Replica S) → List Stand
past_of None = []
past_of (Some x) = x.past

abbrev pub asked_of : ClientId → Option Client → List Entry
asked_of id None = []
asked_of id (Some x) = filter_map (entry_in id) x.said

-- what each client asked for
abbrev pub asked_by : {S : Type 0} → World S → ℕ → List Entry
asked_by w id = asked_of (record { 0 = id }) (client_at w id)

abbrev pub seen : {S : Type 0} → Rules S → World S → law.World
seen R w =
    record {
      counts = w.setup.counts;
      interval = w.setup.interval;
      liar = λ id. is_none (replica_at w id);
      lying = λ id. is_none (client_at w id);
      asked = asked_by w;
      said = λ id. said_of id (replica_at w id);
      past = λ id. past_of (replica_at w id);
      next = next_head;
      digest = digest_of_entry;
      reply = last_reply R;
      state = state_of R;
      kept = is_link w.texts;
    }
