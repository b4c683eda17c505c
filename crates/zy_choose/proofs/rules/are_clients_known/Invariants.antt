use Rattle.std.proofs.Common.{ℕ, ◌-◌, ◌<◌, get_or}
use Rattle.zy_chain.specs.Entries.{IsOfClients}
use Rattle.zy_chain.specs.declared.entry.Entry.{Entry}
use Rattle.zy_choose.proofs.rules.are_clients_known.Given as goal

-- the clients of the entries that were passed
abbrev pub invariant-loop-place : goal.invariant-loop-place
invariant-loop-place l = (k : ℕ) (d : Entry) → k < l.place - l.spine.base.place → IsOfClients (get_or l.spine.entries k d)
