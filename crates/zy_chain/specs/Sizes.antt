-- How many bytes the parts of a history have at most as fields of frames, and what a frame brings of a snapshot.
use Rattle.std.specs.Prelude.{ℕ, ◌+◌, ◌*◌}

-- the client, the stamp, and the operation behind its length
abbrev pub entry_size : ℕ
entry_size = 4 + (8 + (2 + 1100))

abbrev pub answers_size : ℕ
answers_size = 2 + 1100

-- what is known of a client: its number, the stamp, the place, the head and the answers
abbrev pub record_size : ℕ
record_size = 4 + (8 + (8 + (32 + answers_size)))

-- the longest state of a machine, and the longest snapshot: what is known of 64 clients behind their count, and a state behind its length
abbrev pub greatest_state : ℕ
greatest_state = 2300000

abbrev pub greatest_snapshot : ℕ
greatest_snapshot = 2 + 64 * record_size + (4 + greatest_state)
