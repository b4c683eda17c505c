-- What a replica is in a calm run, as far as its rows read it.
use Rattle.std.specs.Prelude.{◌≡◌, ℕ, ◌+◌, ◌<◌, ◌≤◌, true, length, None}
use Rattle.zy_base.specs.Machine.{Rules}
use Rattle.zy_base.specs.declared.ids.ClientId.{ClientId}
use Rattle.zy_base.specs.declared.step.Mode.TheVariants.{Active}
use Rattle.zy_chain.specs.declared.entry.Entry.{Entry}
use Rattle.zy_exec.specs.Kept.{last_place, now_of}
use Rattle.zy_exec.specs.Replay.{Point, is_new_to}
use Rattle.zy_table.specs.State.{State, pending_of}

-- It is active in the first view and stands at this point. It keeps its history and its orders from the first on, holds none above
-- its history, and no request waits at it.
pub record IsCalm {S : Type 0} (R : Rules S) (p : Point S) (s : State S) : Type 0 where
  pub mode : s.views.mode ≡ Active (record { 0 = 0 })
  pub now : now_of R s.kept ≡ p
  pub place : last_place s.kept ≡ p.place
  pub base : s.kept.base.place ≡ 0
  pub orders : s.orders.base ≡ 0
  pub slots : length s.orders.slots ≡ p.place
  pub pending : (client : ClientId) → pending_of s client ≡ None

-- An entry that may be run next where a replica stands: no checkpoint is due there, and it is newer than its client's last one.
pub record IsNext {S : Type 0} (p : Point S) (interval : ℕ) (e : Entry) : Type 0 where
  pub inside : p.place + 1 < interval
  pub small : interval ≤ 32
  pub newer : is_new_to p.known e ≡ true
