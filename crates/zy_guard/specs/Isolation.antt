-- What a client learns: a reply tells of nothing but what its client may see, what other clients do shows in it by one
-- tuple at most that it may read, and a denial names the first rule that fails.
use Rattle.std.specs.Prelude.{◌≡◌, ℕ, ◌<◌, ◌≤◌, true, false, ◌⊎◌, List, [], ◌∷◌, ◌++◌, Option, Some, None}
use Rattle.zy_tuple.specs.declared.values.Slot.{Slot}
use Rattle.zy_guard.specs.declared.values.Access.{Access}
use Rattle.zy_guard.specs.declared.values.Owned.{Owned}
use Rattle.zy_guard.specs.declared.values.Denial.{Denial}
use Rattle.zy_guard.specs.declared.values.Denial.TheVariants.{UnknownClient, OwnerNotReader, TakerNotReader, NotTaker}
use Rattle.zy_guard.specs.declared.values.GuardOp.{GuardOp}
use Rattle.zy_guard.specs.declared.values.GuardOp.TheVariants.{Out, Rdp, Inp, Cas}
use Rattle.zy_guard.specs.GuardedSpace.{has, is_within, sees, may_take, visible, oldest, rule_of}

-- ---- what one operation changes of what a client sees

-- a tuple that the client may read is at the end, which the other one put there
pub record IsOneMore (client other : ℕ) (before after : List Owned) : Type 0 where
  pub one : Owned
  pub reads : sees client one ≡ true
  pub by : one.owner.0 ≡ other
  pub now : visible client after ≡ visible client before ++ one ∷ []

-- a tuple that the client may read is gone, which the other one could take
pub record IsOneLess (client other : ℕ) (before after : List Owned) : Type 0 where
  pub earlier : List Owned
  pub one : Owned
  pub later : List Owned
  pub reads : sees client one ≡ true
  pub by : may_take other one ≡ true
  pub was : visible client before ≡ earlier ++ one ∷ later
  pub now : visible client after ≡ earlier ++ later

abbrev pub ChangesByOne : ℕ → ℕ → List Owned → List Owned → Type 0
ChangesByOne client other before after =
    (visible client after ≡ visible client before) ⊎ IsOneMore client other before after ⊎ IsOneLess client other before after

-- ---- rules

-- the readers and takers of the tuple that an operation puts in
abbrev pub access_in : GuardOp → Option Access
access_in (Out access tuple) = Some access
access_in (Rdp template) = None
access_in (Inp template) = None
access_in (Cas template access tuple) = Some access

-- the operation takes a tuple out, and this is the oldest match that the client may read
pub record IsToTake (client : ℕ) (op : GuardOp) (state : List Owned) (owned : Owned) : Type 0 where
  pub template : List Slot
  pub takes : op ≡ Inp template
  pub first : oldest template (visible client state) ≡ Some owned

-- when each rule fails
abbrev pub Fails : Denial → ℕ → GuardOp → List Owned → Type 0
Fails UnknownClient client op state = 64 ≤ client
Fails OwnerNotReader client op state = (access : Access) × (access_in op ≡ Some access) × (has client access.readers.0 ≡ false)
Fails TakerNotReader client op state = (access : Access) × (access_in op ≡ Some access) × (is_within access.takers.0 access.readers.0 ≡ false)
Fails NotTaker client op state = (owned : Owned) × IsToTake client op state owned × (may_take client owned ≡ false)

pub record IsFirstFailing (denial : Denial) (client : ℕ) (op : GuardOp) (state : List Owned) : Type 0 where
  pub fails : Fails denial client op state
  pub others_hold : (earlier : Denial) → rule_of earlier < rule_of denial → Fails earlier client op state → ⊥
