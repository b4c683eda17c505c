-- A stretch of a history: the mark that it stands on, and the entries above it.
use Rattle.std.specs.Prelude.{◌≡◌, ℕ, ◌+◌, ◌-◌, ◌^◌, ◌<◌, ◌≤◌, nat_lt, nat_le, ◌||◌, if◌then◌else◌, List, [], ◌∷◌, ◌++◌, length, take, drop, slice_get, Option, Some, None}
use Rattle.std.specs.List.{AllByRecursion}
use Rattle.zy_base.specs.declared.ids.Digest.{Digest}
use Rattle.zy_chain.specs.declared.entry.Entry.{Entry}
use Rattle.zy_chain.specs.Entries.{IsEntryInRange, digest_of_entry}
use Rattle.zy_chain.specs.Heads.{head_after, head_from}

-- a place of a history, and the history's head there
pub record Mark : Type 0 where
  pub place : ℕ
  pub head : Digest

pub record Stretch : Type 0 where
  pub base : Mark
  pub entries : List Entry

-- the place of the last entry
abbrev pub end_of : Stretch → ℕ
end_of s = s.base.place + length s.entries

-- the head at a place from the base to the end
abbrev pub head_in : Stretch → ℕ → Option Digest
head_in s place =
    if nat_lt place s.base.place || nat_lt (end_of s) place
    then None
    else Some (head_from s.base.head (take (place - s.base.place) s.entries))

-- the entry that leads to a place above the base, up to the end
abbrev pub entry_in : Stretch → ℕ → Option Entry
entry_in s place = if nat_le place s.base.place then None else slice_get s.entries (place - s.base.place - 1)

-- the stretch with one entry more
abbrev pub with_entry : Stretch → Entry → Stretch
with_entry s e = record { base = s.base; entries = s.entries ++ e ∷ [] }

-- the part up to a place
abbrev pub up_to : ℕ → Stretch → Stretch
up_to place s = record { base = s.base; entries = take (place - s.base.place) s.entries }

-- the part from a place on
abbrev pub from_place : ℕ → Stretch → Stretch
from_place place s =
    record {
      base = record { place = place; head = head_from s.base.head (take (place - s.base.place) s.entries) };
      entries = drop (place - s.base.place) s.entries;
    }

-- both have one head at the place
pub record IsShared (s t : Stretch) (place : ℕ) : Type 0 where
  pub head : Digest
  pub first : head_in s place ≡ Some head
  pub second : head_in t place ≡ Some head

-- and at no place further on
pub record IsLastShared (s t : Stretch) (place : ℕ) : Type 0 where
  pub shared : IsShared s t place
  pub last : (further : ℕ) → place < further → IsShared s t further → ⊥

-- ---- inner forms, which only the representation cites

-- the head after each entry
abbrev pub heads_from : Digest → List Entry → List Digest
heads_from head [] = []
heads_from head (e ∷ entries) = head_after head (digest_of_entry e) ∷ heads_from (head_after head (digest_of_entry e)) entries

-- the heads are those of the entries, which are in range, and places fit in 64 bits
pub record IsStretch (base : ℕ) (head : Digest) (entries : List Entry) (heads : List Digest) : Type 0 where
  pub heads_are : heads ≡ heads_from head entries
  pub in_range : AllByRecursion IsEntryInRange entries
  pub fits : base + length entries ≤ 2 ^ 63
