-- The snapshots at the multiples of the interval.
use Rattle.std.specs.Prelude.{◌≡◌, ℕ, ◌-◌, ◌%◌, ◌≤◌, nat_eq, nat_lt, ◌||◌, if◌then◌else◌, List, [], ◌∷◌, length, take, All, ⊤, Option, Some, None}
use Rattle.sha2.specs.Sha256.{sha256}
use Rattle.zy_base.specs.Machine.{Rules}
use Rattle.zy_base.specs.declared.ids.Digest.{Digest}
use Rattle.zy_chain.specs.declared.entry.Entry.{Entry}
use Rattle.zy_exec.specs.declared.shot.Shot.{Shot}
use Rattle.zy_exec.specs.Replay.{Point, origin, along, step}
use Rattle.zy_exec.specs.Kept.{Kept, last_place}
use Rattle.zy_exec.specs.Snapshot.{snapshot_of}
use Rattle.zy_chain.specs.Sizes.{greatest_snapshot}

-- the snapshot at a point, where that is at a multiple of the interval
abbrev pub snapshot_due : {S : Type 0} → Rules S → ℕ → Point S → Option (List ℕ)
snapshot_due R interval p = if nat_eq (p.place % interval) 0 then Some (snapshot_of R p) else None

-- SHA-256 of a snapshot
abbrev pub digest_of_snapshot : List ℕ → Digest
digest_of_snapshot bytes = record { 0 = sha256 bytes }

-- the snapshot at a place from the base to the end
abbrev pub snapshot_in : {S : Type 0} → Rules S → Kept S → ℕ → Option (List ℕ)
snapshot_in R k place =
    if nat_lt place k.base.place || nat_lt (last_place k) place
    then None
    else snapshot_due R k.interval (along R k.base (take (place - k.base.place) k.entries))

-- the snapshot at a place of a whole history
abbrev pub snapshot_at : {S : Type 0} → Rules S → ℕ → List Entry → ℕ → Option (List ℕ)
snapshot_at R interval history place =
    if nat_lt (length history) place then None else snapshot_due R interval (along R (origin R) (take place history))

-- ---- inner forms, which only the representation cites

-- a snapshot and its digest
abbrev pub shot_of : {S : Type 0} → Rules S → ℕ → Point S → Option Shot
shot_of R interval p =
    if nat_eq (p.place % interval) 0
    then Some (record { bytes = snapshot_of R p; digest = digest_of_snapshot (snapshot_of R p) })
    else None

-- at the base and after each entry
abbrev pub shots_from : {S : Type 0} → Rules S → ℕ → Point S → List Entry → List (Option Shot)
shots_from R interval p [] = shot_of R interval p ∷ []
shots_from R interval p (e ∷ entries) = shot_of R interval p ∷ shots_from R interval (step R p e) entries

abbrev pub shot_in : {S : Type 0} → Rules S → Kept S → ℕ → Option Shot
shot_in R k place =
    if nat_lt place k.base.place || nat_lt (last_place k) place
    then None
    else shot_of R k.interval (along R k.base (take (place - k.base.place) k.entries))

-- as many bytes as a frame can bring
abbrev pub IsShort : Option Shot → Type 0
IsShort None = ⊤
IsShort (Some shot) = length shot.bytes ≤ greatest_snapshot

pub record IsShotsKept {S : Type 0} (R : Rules S) (k : Kept S) (shots : List (Option Shot)) : Type 0 where
  pub shots_are : shots ≡ shots_from R k.interval k.base k.entries
  pub short : All IsShort shots
  pub least : 4 ≤ k.interval
  pub most : k.interval ≤ 32
