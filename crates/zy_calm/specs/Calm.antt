-- When a schedule is calm: what silent replicas there may be, and how long it may be.
use Rattle.std.specs.Prelude.{◌≡◌, ℕ, ◌*◌, ◌<◌, ◌≤◌, nat_eq, not, ◌&&◌, Bool, true, false, List, filter, length}
use Rattle.std.specs.List.{AllByRecursion, list_any, range_with_len}
use Rattle.zy_base.specs.declared.counts.Counts.{Counts}
use Rattle.zy_seal.specs.Sealing.{signatures_by}
use Rattle.zy_table.specs.declared.client.Path.{Path}
use Rattle.zy_table.specs.declared.client.Path.TheVariants.{Fast, Slow}
use Rattle.zy_tuple.specs.Bytes.{op_bytes}
use Rattle.zy_world_law.specs.Setup.{IsSetup, Setup}
use Rattle.zy_calm.specs.Asks.{CalmAsk}

-- it neither lies nor is muted
abbrev pub is_live : Setup → List ℕ → ℕ → Bool
is_live s muted id = not (list_any (nat_eq id) s.liars) && not (list_any (nat_eq id) muted)

-- the replicas that are live, in rising number
abbrev pub live_of : Setup → List ℕ → List ℕ
live_of s muted = filter (is_live s muted) (range_with_len 0 s.counts.n)

-- how many equal answers complete a request on this path: responses, or local commits
abbrev pub quorum : Path → Counts → ℕ
quorum Fast c = c.fast
quorum Slow c = c.local

-- So many live replicas complete a request on this path: with their responses alone; or not so, but with a certificate of these
-- and with local commits.
abbrev pub IsEnough : Path → Counts → ℕ → Type 0
IsEnough Fast c live = c.fast ≤ live
IsEnough Slow c live = (live < c.fast) × (c.cert ≤ live) × (c.local ≤ live)

-- one of its requests
pub record IsCalmAsk (s : Setup) (a : CalmAsk) : Type 0 where
  -- a correct client asks
  pub client : a.client.0 < s.clients
  pub honest : list_any (nat_eq a.client.0) s.lying_clients ≡ false
  pub op : length (op_bytes a.op) ≤ 1100
  -- all that it leads to is delivered
  pub flow : 2 * s.counts.n ≤ a.flow
  pub again : 2 * s.counts.n ≤ a.again

-- The first primary is live, and with it so many replicas as complete requests on this path. No checkpoint is due in it, and no key
-- runs out of signatures.
pub record IsCalm (s : Setup) (path : Path) (muted : List ℕ) (asks : List CalmAsk) : Type 0 where
  pub setup : IsSetup s
  pub primary : is_live s muted 0 ≡ true
  pub enough : IsEnough path s.counts (length (live_of s muted))
  pub short : length asks < s.interval
  pub signatures : 3 * length asks ≤ signatures_by s.height
  pub each : AllByRecursion (IsCalmAsk s) asks
