-- The requests of the schedules that zy_wide makes.
use Rattle.std.specs.Prelude.{ℕ, ◌*◌, List, map, codes}
use Rattle.std.specs.List.{range_with_len}
use Rattle.zy_schedule.specs.Making.{numbered}
use Rattle.zy_tuple.specs.declared.values.Op.TheVariants.{Out}
use Rattle.zy_calm.specs.Asks.{CalmAsk}

-- the first client puts the job with this number in, with room for two frames for each of n replicas
abbrev pub job_ask : ℕ → ℕ → CalmAsk
job_ask n i = record { client = record { 0 = 0 }; op = Out (numbered (codes "job") i); flow = 2 * n; again = 2 * n }

-- so many, numbered from 0
abbrev pub jobs : ℕ → ℕ → List CalmAsk
jobs n asks = map (job_ask n) (range_with_len 0 asks)
