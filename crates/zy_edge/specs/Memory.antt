-- The objects in memory, as contracts see them.
use Rattle.std.specs.Prelude.{ℕ, ◌==◌, ◌||◌, ◌-◌, ◌^◌, nat_eq, nat_lt, nat_le, is_none, if◌then◌else◌, Bool, Option, Some, None, List, length, map}
use Rattle.std.specs.List.{list_any, range_with_len}
use Rattle.zy_edge.specs.Binding.{BindCalls}
use Rattle.zy_edge.specs.Clock.{moment_at}
use Rattle.zy_edge.specs.Faults.{raised}
use Rattle.zy_edge.specs.Files.{Held, file_named}
use Rattle.zy_edge.specs.Link.{Parcel, Mail}

-- files, and what is left to be read of the chosen one
pub record Shelf : Type 0 where
  pub held : Held
  pub rest : Option (List ℕ)

-- the numbers of the calls that are to fail, and how many were made and have failed
pub record CallCount : Type 0 where
  pub failing : List ℕ
  pub made : ℕ
  pub faults : ℕ

-- whether the next call is one of those that are to fail
abbrev pub next_is_listed : CallCount → Bool
next_is_listed calls = list_any (λ number. number == raised calls.made) calls.failing

-- one call more, which is or isn't a fault
abbrev pub counted : Bool → CallCount → CallCount
counted failed calls = record calls { made = raised calls.made; faults = if failed then raised calls.faults else calls.faults }

pub record MemoryFiles : Type 0 where
  pub held : Held
  pub rest : Option (List ℕ)
  pub calls : CallCount

-- a `select` fails exactly where its number is listed, or no file has the name
abbrev pub select_fails : MemoryFiles → List ℕ → Bool
select_fails files name = next_is_listed files.calls || is_none (file_named files.held name)

pub record MemorySink : Type 0 where
  pub taken : List ℕ
  pub room : ℕ
  pub calls : CallCount

-- a write fails exactly where its number is listed, or the piece doesn't fit the room that is left
abbrev pub write_fails : MemorySink → List ℕ → Bool
write_fails sink piece = next_is_listed sink.calls || nat_lt (sink.room - length sink.taken) (length piece)

pub record MemoryLink : Type 0 where
  pub coming : List (List ℕ)
  pub sent : List Parcel
  pub room : ℕ
  pub calls : CallCount
  pub receives : ℕ
  pub binding : BindCalls

abbrev pub mail_of : MemoryLink → Mail
mail_of link = record { coming = link.coming; sent = link.sent }

-- a send fails exactly where its number is listed, no room is left, or the datagram has more than 8,229 bytes
abbrev pub send_fails : MemoryLink → List ℕ → Bool
send_fails link bytes = next_is_listed link.calls || (nat_le link.room (length link.sent) || nat_lt 8229 (length bytes))

-- moments, and how many readings there were
pub record MemoryClock : Type 0 where
  pub moments : List ℕ
  pub readings : ℕ

-- what was read, as long as the number of readings can rise
abbrev pub moments_read : MemoryClock → Option (List ℕ)
moments_read clock = if nat_lt clock.readings (2 ^ 64 - 1) then Some (map (moment_at clock.moments) (range_with_len 0 clock.readings)) else None

-- the last moment that was read, or 0
abbrev pub latest_of : MemoryClock → ℕ
latest_of clock = if nat_eq clock.readings 0 then 0 else moment_at clock.moments (clock.readings - 1)
