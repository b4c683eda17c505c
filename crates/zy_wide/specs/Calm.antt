-- The lines of a calm schedule: some replicas are silent from the start, and one client puts one job after another in.
use Rattle.std.specs.Prelude.{ℕ, ◌-◌, ◌*◌, List, [], ◌∷◌, ◌++◌, map, codes}
use Rattle.std.specs.List.{flat_map, range_with_len}
use Rattle.zy_base.specs.declared.ids.Party.TheVariants.{Replica}
use Rattle.zy_schedule.specs.declared.line.Line.{Line}
use Rattle.zy_schedule.specs.declared.line.Line.TheVariants.{Ask, Flow, Mute}
use Rattle.zy_schedule.specs.Making.{numbered}
use Rattle.zy_tuple.specs.declared.values.Op.TheVariants.{Out}

-- `mute rI`: the replica with this number is silent
abbrev pub mute_line : ℕ → Line
mute_line i = Mute (Replica (record { 0 = i }))

-- `ask c0 out ("job" I)` and `flow 2N`: the first client puts the job with this number in, and up to two frames for each of n replicas
-- are delivered
abbrev pub job_lines : ℕ → ℕ → List Line
job_lines n i = Ask (record { 0 = 0 }) (Out (numbered (codes "job") i)) ∷ Flow (2 * n) ∷ []

-- the last so many of n replicas are silent, the lowest number first, and then the jobs come, so many, numbered from 0
abbrev pub calm_lines : ℕ → ℕ → ℕ → List Line
calm_lines n silent asks = map mute_line (range_with_len (n - silent) silent) ++ flat_map (job_lines n) (range_with_len 0 asks)
