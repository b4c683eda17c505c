-- The guarded space, as steps on the list of its tuples, oldest first. Each tuple has readers and takers, which are sets
-- of clients from 0 to 63. A client sees the tuples alone that it may read.
use Rattle.std.specs.Prelude.{◌≡◌, ℕ, ◌^◌, ◌/◌, ◌%◌, ◌+◌, ◌<◌, ◌≤◌, ◌==◌, nat_lt, Bool, true, ◌&&◌, if◌then◌else◌, List, [], ◌∷◌, ◌++◌, filter, Option, Some, None}
use Rattle.std.specs.Int.Bits.{bit_and}
use Rattle.std.specs.List.{AllByRecursion}
use Rattle.zy_tuple.specs.declared.values.Field.{Field}
use Rattle.zy_tuple.specs.declared.values.Slot.{Slot}
use Rattle.zy_tuple.specs.declared.values.Reply.{Reply}
use Rattle.zy_tuple.specs.declared.values.Reply.TheVariants.{Done, Got, Nothing, True, False, Full}
use Rattle.zy_tuple.specs.Values.{IsTuple, IsTemplate, IsReply, matches}
use Rattle.zy_guard.specs.declared.values.Access.{Access}
use Rattle.zy_guard.specs.declared.values.Owned.{Owned}
use Rattle.zy_guard.specs.declared.values.Denial.{Denial}
use Rattle.zy_guard.specs.declared.values.Denial.TheVariants.{UnknownClient, OwnerNotReader, TakerNotReader, NotTaker}
use Rattle.zy_guard.specs.declared.values.GuardOp.{GuardOp}
use Rattle.zy_guard.specs.declared.values.GuardOp.TheVariants.{Out, Rdp, Inp, Cas}
use Rattle.zy_guard.specs.declared.values.GuardReply.{GuardReply}
use Rattle.zy_guard.specs.declared.values.GuardReply.TheVariants.{Plain, Denied}

-- ---- who may do what

-- bit i of a set stands for client i
abbrev pub has : ℕ → ℕ → Bool
has client set = (set / 2 ^ client) % 2 == 1

-- each client of a set is one of the others
abbrev pub is_within : ℕ → ℕ → Bool
is_within set others = bit_and set others == set

abbrev pub sees : ℕ → Owned → Bool
sees client owned = has client owned.access.readers.0

abbrev pub may_take : ℕ → Owned → Bool
may_take client owned = has client owned.access.takers.0

-- the tuples that a client may read, oldest first
abbrev pub visible : ℕ → List Owned → List Owned
visible client state = filter (sees client) state

-- ---- what there may be

abbrev pub IsAccess : Access → Type 0
IsAccess access = (access.readers.0 < 2 ^ 64) × (access.takers.0 < 2 ^ 64)

abbrev pub IsGuardOp : GuardOp → Type 0
IsGuardOp (Out access tuple) = IsAccess access × IsTuple tuple
IsGuardOp (Rdp template) = IsTemplate template
IsGuardOp (Inp template) = IsTemplate template
IsGuardOp (Cas template access tuple) = IsTemplate template × IsAccess access × IsTuple tuple

abbrev pub IsGuardReply : GuardReply → Type 0
IsGuardReply (Plain reply) = IsReply reply
IsGuardReply (Denied denial) = Unit {0}

-- a client of the 64 put it in, which may read it, and so may each that may take it
pub record IsOwned (owned : Owned) : Type 0 where
  pub client : owned.owner.0 < 64
  pub sets : IsAccess owned.access
  pub reads : sees owned.owner.0 owned ≡ true
  pub within : is_within owned.access.takers.0 owned.access.readers.0 ≡ true
  pub fields : IsTuple owned.tuple

abbrev pub owned_by : ℕ → List Owned → ℕ
owned_by client [] = 0
owned_by client (owned ∷ others) = (if owned.owner.0 == client then 1 else 0) + owned_by client others

-- a client has put in at most 64 of those that are there
pub record IsGuardState (state : List Owned) : Type 0 where
  pub each : AllByRecursion IsOwned state
  pub few : (client : ℕ) → owned_by client state ≤ 64

-- ---- steps

-- a state and the reply that led to it
pub record Step : Type 0 where
  pub state : List Owned
  pub reply : GuardReply

abbrev pub stayed : GuardReply → List Owned → Step
stayed reply state = record { state = state; reply = reply }

-- the oldest tuple that matches
abbrev pub oldest : List Slot → List Owned → Option Owned
oldest template [] = None
oldest template (owned ∷ others) = if matches template owned.tuple then Some owned else oldest template others

-- all but the oldest match of those that the client sees
abbrev pub without_oldest : ℕ → List Slot → List Owned → List Owned
without_oldest client template [] = []
without_oldest client template (owned ∷ others) =
    if sees client owned && matches template owned.tuple then others else owned ∷ without_oldest client template others

-- at the end, where fewer than 64 of this owner are there
abbrev pub inserted : Owned → Reply → List Owned → Step
inserted owned reply state =
    if nat_lt (owned_by owned.owner.0 state) 64
    then record { state = state ++ owned ∷ []; reply = Plain reply }
    else stayed (Plain Full) state

abbrev pub owned_of : ℕ → Access → List Field → Owned
owned_of client access tuple = record { owner = record { 0 = client }; access = access; tuple = tuple }

abbrev pub found : Option Owned → Reply
found None = Nothing
found (Some owned) = Got owned.tuple

-- the oldest match is taken out by one of its takers
abbrev pub taken : ℕ → List Slot → Option Owned → List Owned → Step
taken client template None state = stayed (Plain Nothing) state
taken client template (Some owned) state =
    if may_take client owned
    then record { state = without_oldest client template state; reply = Plain (Got owned.tuple) }
    else stayed (Denied NotTaker) state

abbrev pub unless_found : Option Owned → List Owned → Step → Step
unless_found None state otherwise = otherwise
unless_found (Some owned) state otherwise = stayed (Plain False) state

-- what an operation replies that no rule denies but the last
abbrev pub allowed_step : ℕ → GuardOp → List Owned → Step
allowed_step client (Out access tuple) state = inserted (owned_of client access tuple) Done state
allowed_step client (Rdp template) state = stayed (Plain (found (oldest template (visible client state)))) state
allowed_step client (Inp template) state = taken client template (oldest template (visible client state)) state
allowed_step client (Cas template access tuple) state =
    unless_found (oldest template (visible client state)) state (inserted (owned_of client access tuple) True state)

-- the first of the rules that look at no tuple and fail
abbrev pub access_denial : ℕ → Access → Option Denial
access_denial client access =
    if has client access.readers.0
    then (if is_within access.takers.0 access.readers.0 then None else Some TakerNotReader)
    else Some OwnerNotReader

abbrev pub op_denial : ℕ → GuardOp → Option Denial
op_denial client (Out access tuple) = access_denial client access
op_denial client (Rdp template) = None
op_denial client (Inp template) = None
op_denial client (Cas template access tuple) = access_denial client access

abbrev pub denial : ℕ → GuardOp → Option Denial
denial client op = if nat_lt client 64 then op_denial client op else Some UnknownClient

abbrev pub unless_denied : Option Denial → List Owned → Step → Step
unless_denied None state otherwise = otherwise
unless_denied (Some denied) state otherwise = stayed (Denied denied) state

-- what an operation of a client replies, and what it leaves
abbrev pub guard_step : ℕ → GuardOp → List Owned → Step
guard_step client op state = unless_denied (denial client op) state (allowed_step client op state)

-- the number of each rule
abbrev pub rule_of : Denial → ℕ
rule_of UnknownClient = 1
rule_of OwnerNotReader = 2
rule_of TakerNotReader = 3
rule_of NotTaker = 4
