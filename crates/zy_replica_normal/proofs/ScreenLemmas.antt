-- The signer of a verified part is one of the group.
use Rattle.std.proofs.Common.{◌≡◌, ◌<◌, ◌≤◌, ◌∷◌, [], ℕ, zero, suc, Bool, true, false, List, length, Option, Some, None, refl, arith}
use Rattle.std.specs.Prelude.{if◌then◌else◌, slice_get, ◌||◌, ◌&&◌}
use Rattle.std.proofs.lemmas.Bool.{and_parts}
use Rattle.std.specs.List.{list_any}
use Rattle.zy_base.specs.declared.cause.Cause.{Cause}
use Rattle.zy_base.specs.declared.cause.Cause.TheVariants as causes
use Rattle.zy_base.specs.declared.ids.Party.{Party}
use Rattle.zy_base.specs.declared.ids.Party.TheVariants.{Replica, Client}
use Rattle.zy_parts.specs.declared.signed.Part.{Part}
use Rattle.zy_parts.specs.declared.signed.Signed.{Signed}
use Rattle.zy_parts.specs.declared.statements.Ask.{Ask}
use Rattle.zy_parts.specs.declared.statements.Confirm.{Confirm}
use Rattle.zy_frames.specs.declared.frame.OrderFrame.{OrderFrame}
use Rattle.zy_frames.specs.declared.frame.Frame.TheVariants as frames
use Rattle.zy_frames.specs.Frames.{parts_of, IsFrameInRange}
use Rattle.zy_seal.specs.Keys.{Keys}
use Rattle.zy_seal.specs.Checking.{answer_of, answer_under}
use Rattle.zy_seal.specs.Screening.{screen, answer_to, is_unknown}
use Rattle.zy_admit.specs.Judging.{asking}
use Rattle.zy_table.specs.Roles.{is_client, is_replica, is_primary_of, in_role}
use Rattle.zy_table.specs.State.{State}
use Rattle.zy_replica_state.specs.Ready.{IsAskReady, IsOrderReady}

-- no part of a screened frame has an unknown signer
all_known : (keys : Keys) (parts : List Part) (unknown : Bool) (bad : Option Cause) → (if unknown then Some causes.UnknownParty else bad) ≡ None → unknown ≡ false
all_known keys parts true bad is = cc
all_known keys parts false bad is = refl

pub screened : (keys : Keys) (parts : List Part) → screen keys parts ≡ None → list_any (λ part. is_unknown (answer_to keys part)) parts ≡ false
screened keys parts is = all_known keys parts (list_any (λ part. is_unknown (answer_to keys part)) parts) _ is

second_known : (a b : Bool) → (a || (b || false)) ≡ false → b ≡ false
second_known true b is = cc
second_known false true is = cc
second_known false false is = refl

pub has_key : (keys : List (List ℕ)) (id : ℕ) (text sig : List ℕ) → is_unknown (answer_under (slice_get keys id) text sig) ≡ false → id < length keys
has_key [] id text sig is = let never : ⊥ = cc in absurd never
has_key (key ∷ keys) zero text sig is = omega arith
has_key (key ∷ keys) (suc id) text sig is = omega (arith, has_key keys id text sig is)

client_below : (keys : Keys) (by : Party) (text sig : List ℕ) → is_client by ≡ true → is_unknown (answer_of keys by text sig) ≡ false → (asking by).0 < length keys.clients
client_below keys (Client id) text sig client is = has_key keys.clients id.0 text sig is
client_below keys (Replica id) text sig client is = let never : ⊥ = cc in absurd never

first_known : (a : Bool) → (a || false) ≡ false → a ≡ false
first_known true is = cc
first_known false is = refl

-- a verified request is by a client of the group
pub ask_ready : {S : Type 0} (s : State S) (ask : Signed Ask) → length s.keys.clients ≤ 64 → IsFrameInRange (frames.Request ask) → screen s.keys (parts_of (frames.Request ask)) ≡ None
    → in_role s (frames.Request ask) ≡ true → IsAskReady ask
ask_ready s ask clients range verified role =
    let known = first_known _ (screened s.keys (parts_of (frames.Request ask)) verified) in
    let below : (asking ask.by).0 < length s.keys.clients = client_below s.keys ask.by _ _ role known in
    record { range = range; client = omega (arith, below, clients) }

-- the request beside a verified order is by a client of the group
pub order_ready : {S : Type 0} (s : State S) (o : OrderFrame) → length s.keys.clients ≤ 64 → IsFrameInRange (frames.Order o) → screen s.keys (parts_of (frames.Order o)) ≡ None
    → in_role s (frames.Order o) ≡ true → IsOrderReady o
order_ready s o clients range verified role =
    let roles = and_parts (is_primary_of s.counts o.order.stmt.view.0 o.order.by) (is_client o.ask.by) role in
    let known = second_known _ _ (screened s.keys (parts_of (frames.Order o)) verified) in
    let below : (asking o.ask.by).0 < length s.keys.clients = client_below s.keys o.ask.by _ _ roles.1 known in
    record { order = range.0; ask = record { range = range.1; client = omega (arith, below, clients) } }

-- the request beside what a backup says of it is by a client of the group
pub confirm_ready : {S : Type 0} (s : State S) (confirm : Signed Confirm) (ask : Signed Ask) → length s.keys.clients ≤ 64 → IsFrameInRange (frames.ConfirmReq confirm ask)
    → screen s.keys (parts_of (frames.ConfirmReq confirm ask)) ≡ None → in_role s (frames.ConfirmReq confirm ask) ≡ true → IsAskReady ask
confirm_ready s confirm ask clients range verified role =
    let roles = and_parts (is_replica confirm.by) (is_client ask.by && is_primary_of s.counts confirm.stmt.view.0 (Replica s.me)) role in
    let both = and_parts (is_client ask.by) (is_primary_of s.counts confirm.stmt.view.0 (Replica s.me)) roles.1 in
    let known = second_known _ _ (screened s.keys (parts_of (frames.ConfirmReq confirm ask)) verified) in
    let below : (asking ask.by).0 < length s.keys.clients = client_below s.keys ask.by _ _ both.0 known in
    record { range = range.1; client = omega (arith, below, clients) }
