-- The text of a party, and how it is read.
use Rattle.std.specs.Prelude.{ℕ, ◌<◌, ◌^◌, ◌==◌, ◌&&◌, nat_lt, if◌then◌else◌, List, [], ◌∷◌, Option, Some, None}
use Rattle.std.specs.Fmt.{decimal}
use Rattle.std.specs.Str.Parse.{digits_value}
use Rattle.zy_base.specs.declared.ids.Party.{Party}
use Rattle.zy_base.specs.declared.ids.Party.TheVariants.{Replica, Client}
use Rattle.zy_tuple.specs.Reading.{is_numeral}

-- a replica's number has 8 bits, a client's 32
abbrev pub IsParty : Party → Type 0
IsParty (Replica id) = id.0 < 2 ^ 8
IsParty (Client id) = id.0 < 2 ^ 32

-- `r` (114) or `c` (99), and the number
abbrev pub party_text : Party → List ℕ
party_text (Replica id) = 114 ∷ decimal id.0
party_text (Client id) = 99 ∷ decimal id.0

-- digits without a leading zero, below a limit
abbrev pub number_below : ℕ → List ℕ → Option ℕ
number_below limit digits = if is_numeral digits && nat_lt (digits_value 10 digits) limit then Some (digits_value 10 digits) else None

abbrev pub replica_numbered : Option ℕ → Option Party
replica_numbered None = None
replica_numbered (Some n) = Some (Replica (record { 0 = n }))

abbrev pub client_numbered : Option ℕ → Option Party
client_numbered None = None
client_numbered (Some n) = Some (Client (record { 0 = n }))

-- the party that a word spells
abbrev pub party_of : List ℕ → Option Party
party_of [] = None
party_of (c ∷ digits) =
    if c == 114
    then replica_numbered (number_below (2 ^ 8) digits)
    else (if c == 99 then client_numbered (number_below (2 ^ 32) digits) else None)
