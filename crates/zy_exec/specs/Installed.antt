-- What a snapshot can show, and what stands after one was installed.
use Rattle.std.specs.Prelude.{◌≡◌, ℕ, List, [], length, Option, Some, None}
use Rattle.std.specs.List.{AllByRecursion}
use Rattle.zy_base.specs.Machine.{Rules}
use Rattle.zy_base.specs.declared.ids.Digest.{Digest}
use Rattle.zy_chain.specs.declared.entry.Entry.{Entry}
use Rattle.zy_chain.specs.Entries.{IsEntryInRange, IsOfClients}
use Rattle.zy_exec.specs.declared.known.Known.{Known}
use Rattle.zy_exec.specs.Known.{IsKnownInRange}
use Rattle.zy_exec.specs.Replay.{Point}
use Rattle.zy_exec.specs.Kept.{Kept}
use Rattle.zy_exec.specs.Snapshot.{snapshot_of}

-- nothing, or a record in range with a head of 32 bytes
abbrev pub IsShownSlot : Option Known → Type 0
IsShownSlot None = Unit {0}
IsShownSlot (Some k) = IsKnownInRange k × (length k.head.0 ≡ 32)

-- a slot for each client, and a state of the machine
pub record IsShown {S : Type 0} (IsState : S → Type 0) (p : Point S) : Type 0 where
  pub all_clients : length p.known ≡ 64
  pub in_range : AllByRecursion IsShownSlot p.known
  pub is_state : IsState p.state

-- The base stands at the place with the head, shows what the bytes spell, and no entry is above it.
pub record IsInstalled {S : Type 0} (IsState : S → Type 0) (R : Rules S) (interval place : ℕ) (head : Digest) (bytes : List ℕ) (k : Kept S) : Type 0 where
  pub interval_is : k.interval ≡ interval
  pub place_is : k.base.place ≡ place
  pub head_is : k.base.head ≡ head
  pub nothing_above : k.entries ≡ []
  pub shown : IsShown IsState k.base
  pub spelled : snapshot_of R k.base ≡ bytes

-- an entry of clients that may be known
pub record IsRunnable (e : Entry) : Type 0 where
  pub client : IsOfClients e
  pub in_range : IsEntryInRange e
