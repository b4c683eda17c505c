-- The schedule that a number makes: asks that are drawn from it, each with a flow behind it.
use Rattle.std.specs.Prelude.{ℕ, zero, suc, ◌+◌, ◌*◌, ◌/◌, ◌%◌, ◌^◌, ◌==◌, if◌then◌else◌, pos, List, [], ◌∷◌, codes}
use Rattle.std.specs.List.{flat_map, range_with_len}
use Rattle.zy_schedule.specs.declared.line.Line.{Line}
use Rattle.zy_schedule.specs.declared.line.Line.TheVariants.{Ask, Flow}
use Rattle.zy_tuple.specs.declared.values.Field.{Field}
use Rattle.zy_tuple.specs.declared.values.Field.TheVariants.{Int, Text}
use Rattle.zy_tuple.specs.declared.values.Op.{Op}
use Rattle.zy_tuple.specs.declared.values.Op.TheVariants.{Out, Rdp, Inp, Cas}
use Rattle.zy_tuple.specs.declared.values.Slot.{Slot}
use Rattle.zy_tuple.specs.declared.values.Slot.TheVariants.{Any, Is}

-- A linear congruential generator of 31 bits, with the factor and the summand of the `rand` that ISO C gives as an
-- example (ISO/IEC 9899:2011, 7.22.2).
abbrev pub next_number : ℕ → ℕ
next_number n = (n * 1103515245 + 12345) % 2 ^ 31

-- where it stands behind so many draws
unfoldable pub drawn : ℕ → ℕ → ℕ
drawn number zero = number % 2 ^ 31
drawn number (suc draws) = next_number (drawn number draws)

-- `(NAME N)`
abbrev pub numbered : List ℕ → ℕ → List Field
numbered name n = Text name ∷ Int (pos n) ∷ []

-- `(NAME *)`
abbrev pub any_numbered : List ℕ → List Slot
any_numbered name = Is (Text name) ∷ Any ∷ []

-- a job is put in, read or taken, or the lock is taken where nobody has it
abbrev pub op_of : ℕ → ℕ → Op
op_of kind n =
    if kind == 0 then Out (numbered (codes "job") n)
    else (if kind == 1 then Rdp (any_numbered (codes "job"))
    else (if kind == 2 then Inp (any_numbered (codes "job"))
    else Cas (any_numbered (codes "lock")) (numbered (codes "lock") n)))

-- the ask with this number, from 0, where this was drawn for it: one of four clients asks, and it flows
abbrev pub lines_of_ask : ℕ → ℕ → List Line
lines_of_ask draw n = Ask (record { 0 = n % 4 }) (op_of (draw / 65536 % 4) n) ∷ Flow 1000 ∷ []

-- so many asks
abbrev pub made_lines : ℕ → ℕ → List Line
made_lines number asks = flat_map (λ n. lines_of_ask (drawn number (n + 1)) n) (range_with_len 0 asks)
