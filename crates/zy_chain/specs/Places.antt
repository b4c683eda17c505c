-- A whole history by place: the first entry leads to place 1.
use Rattle.std.specs.Prelude.{ℕ, zero, suc, nat_lt, if◌then◌else◌, List, length, take, slice_get, Option, Some, None}
use Rattle.zy_base.specs.declared.ids.Digest.{Digest}
use Rattle.zy_chain.specs.declared.entry.Entry.{Entry}
use Rattle.zy_chain.specs.Heads.{head_of}

-- the entry that leads to a place
abbrev pub entry_at : List Entry → ℕ → Option Entry
entry_at history zero = None
entry_at history (suc before) = slice_get history before

-- the head at a place
abbrev pub head_at : List Entry → ℕ → Option Digest
head_at history place = if nat_lt (length history) place then None else Some (head_of (take place history))
