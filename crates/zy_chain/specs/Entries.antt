-- An entry of a history as bytes.
use Rattle.std.specs.Prelude.{ℕ, ◌^◌, ◌<◌, ◌≤◌, Bool, true, nat_lt, List, ◌++◌, length, Option, Some, None}
use Rattle.std.specs.Int.{w16, w32, w64, to_be_bytes}
use Rattle.sha2.specs.Sha256.{sha256}
use Rattle.zy_base.specs.declared.ids.ClientId.{ClientId}
use Rattle.zy_base.specs.declared.ids.Digest.{Digest}
use Rattle.zy_base.specs.declared.ids.Stamp.{Stamp}
use Rattle.zy_chain.specs.declared.entry.Entry.{Entry}

-- what an entry may hold: a stamp below 2^62 and at most 1,100 bytes of operation
pub record IsEntryInRange (e : Entry) : Type 0 where
  pub stamp : e.stamp.0 < 2 ^ 62
  pub op : length e.op ≤ 1100

-- a group may have the clients whose requests it answers
abbrev pub IsOfClients : Entry → Type 0
IsOfClients e = e.client.0 < 64

-- the client, the stamp, and the operation behind its length
unfoldable pub bytes_of_request : ClientId → Stamp → List ℕ → List ℕ
bytes_of_request client stamp op = to_be_bytes w32 client.0 ++ to_be_bytes w64 stamp.0 ++ to_be_bytes w16 (length op) ++ op

-- SHA-256 of these bytes
unfoldable pub digest_of_request : ClientId → Stamp → List ℕ → Digest
digest_of_request client stamp op = record { 0 = sha256 (bytes_of_request client stamp op) }

-- the same of an entry
abbrev pub bytes_of_entry : Entry → List ℕ
bytes_of_entry e = bytes_of_request e.client e.stamp e.op

abbrev pub digest_of_entry : Entry → Digest
digest_of_entry e = digest_of_request e.client e.stamp e.op

-- a stamp is above the last one of its client, where there is one
abbrev pub newer : Stamp → Option Stamp → Bool
newer stamp None = true
newer stamp (Some last) = nat_lt last.0 stamp.0
