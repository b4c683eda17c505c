-- The world as it is held: of the whole world the parts that answers and reports need.
use Rattle.std.specs.Prelude.{ℕ, ◌-◌, zero, suc, nat_lt, Bool, true, false, if◌then◌else◌, List, [], ◌∷◌, slice_get, slice_set, slice_index_or, Option, Some, None, option_map}
use Rattle.std.specs.Option.{option_and_then}
use Rattle.zy_base.specs.declared.ids.Party.{Party}
use Rattle.zy_base.specs.declared.ids.Party.TheVariants as parties
use Rattle.zy_chain.specs.Stretch.{Mark}
use Rattle.zy_frames.specs.Frames.{frame_in}
use Rattle.zy_parts.specs.declared.signed.Signed.{Signed}
use Rattle.zy_parts.specs.declared.statements.Ask.{Ask}
use Rattle.zy_seal.specs.Keys.{Keys}
use Rattle.zy_seal.specs.Sealing.{SealerState}
use Rattle.zy_table.specs.ClientState.{ClientState}
use Rattle.zy_table.specs.State.{State}
use Rattle.zy_table.specs.declared.client.Done.{Done}
use Rattle.zy_world_setup.specs.Kept.{Pairs}
use Rattle.zy_world_setup.specs.Said.{Told}
use Rattle.zy_world.specs.declared.bag.Passed.{Passed}
use Rattle.zy_world.specs.declared.seat.Seat.{Seat}
use Rattle.zy_world.specs.declared.seat.Seat.TheVariants as sat
use Rattle.zy_world_law.specs.Liars.{request_read}
use Rattle.zy_world_law.specs.Setup.{Setup}
use Rattle.zy_world_law.specs.World.{Mail, correct_in}

-- the states of the correct parties, none where a party lies
pub record Seated (S : Type 0) : Type 0 where
  pub replicas : List (Option (State S))
  pub clients : List (Option ClientState)

-- the keys of the liars, each at its next signature, none where a party doesn't lie
pub record Keyed : Type 0 where
  pub replicas : List (Option SealerState)
  pub clients : List (Option SealerState)

-- the frames that were sent, and how many of the first ones flows go over
pub record Posted : Type 0 where
  pub mails : List Mail
  pub passed : Passed

-- whether each party is muted
pub record Mutes : Type 0 where
  pub replicas : List Bool
  pub clients : List Bool

pub record Shown (S : Type 0) : Type 0 where
  pub setup : Setup
  pub keys : Keys
  pub seats : Seated S
  pub liars : Keyed
  pub bag : Posted
  pub mutes : Mutes
  pub agreed : Mark
  pub texts : Pairs
  pub said : Told

-- ---- seats

abbrev pub seat_in : {A : Type 0} → Option (Option A) → Seat
seat_in None = sat.Nobody
seat_in (Some None) = sat.Liar
seat_in (Some (Some x)) = sat.Correct

abbrev pub seat_of : {S : Type 0} → Seated S → Party → Seat
seat_of s (parties.Replica id) = seat_in (slice_get s.replicas id.0)
seat_of s (parties.Client id) = seat_in (slice_get s.clients id.0)

abbrev pub is_seated : Seat → Bool
is_seated sat.Nobody = false
is_seated sat.Liar = true
is_seated sat.Correct = true

abbrev pub is_correct_seat : Seat → Bool
is_correct_seat sat.Nobody = false
is_correct_seat sat.Liar = false
is_correct_seat sat.Correct = true

abbrev pub is_liar_seat : Seat → Bool
is_liar_seat sat.Nobody = false
is_liar_seat sat.Liar = true
is_liar_seat sat.Correct = false

abbrev pub with_replica : {S : Type 0} → Seated S → ℕ → Option (State S) → Seated S
with_replica s id x = record s { replicas = slice_set s.replicas id x }

abbrev pub with_client : {S : Type 0} → Seated S → ℕ → Option ClientState → Seated S
with_client s id x = record s { clients = slice_set s.clients id x }

-- as it would be held with other replicas in the seats
abbrev pub with_replicas : {S : Type 0} → (List (Option (State S)) → List (Option (State S))) → Shown S → Shown S
with_replicas others v = record v { seats = record v.seats { replicas = others v.seats.replicas } }

-- ---- keys of liars

abbrev pub key_in : Keyed → Party → Option SealerState
key_in k (parties.Replica id) = correct_in (slice_get k.replicas id.0)
key_in k (parties.Client id) = correct_in (slice_get k.clients id.0)

abbrev pub with_key : Keyed → Party → Option SealerState → Keyed
with_key k (parties.Replica id) key = record k { replicas = slice_set k.replicas id.0 key }
with_key k (parties.Client id) key = record k { clients = slice_set k.clients id.0 key }

-- ---- muted parties

abbrev pub muted_in : Mutes → Party → Bool
muted_in m (parties.Replica id) = slice_index_or m.replicas id.0 false
muted_in m (parties.Client id) = slice_index_or m.clients id.0 false

abbrev pub with_muted : Mutes → Party → Bool → Mutes
with_muted m (parties.Replica id) on = record m { replicas = slice_set m.replicas id.0 on }
with_muted m (parties.Client id) on = record m { clients = slice_set m.clients id.0 on }

-- ---- frames by their numbers, from 1

abbrev pub numbered : List Mail → ℕ → Option Mail
numbered mails zero = None
numbered mails (suc before) = slice_get mails before

abbrev pub delivered_if : List Mail → ℕ → Option Mail → List Mail
delivered_if mails number None = mails
delivered_if mails number (Some mail) = slice_set mails (number - 1) (record mail { delivered = true })

abbrev pub with_delivered : List Mail → ℕ → List Mail
with_delivered mails number = delivered_if mails number (numbered mails number)

abbrev pub dropped_if : List Mail → ℕ → Option Mail → List Mail
dropped_if mails number None = mails
dropped_if mails number (Some mail) = slice_set mails (number - 1) (record mail { dropped = true })

abbrev pub with_dropped : List Mail → ℕ → List Mail
with_dropped mails number = dropped_if mails number (numbered mails number)

-- ---- requests among the frames

abbrev pub request_in : List Mail → ℕ → Option (Signed Ask)
request_in mails number = option_and_then (λ mail. request_read (frame_in mail.bytes)) (numbered mails number)

abbrev pub requests_in : List Mail → List ℕ → Option (List (Signed Ask))
requests_in mails [] = Some []
requests_in mails (number ∷ more) = option_and_then (λ ask. option_map (λ asks. ask ∷ asks) (requests_in mails more)) (request_in mails number)

-- ---- completions

-- of two marks the second where it is further
abbrev pub further_mark : Mark → Mark → Mark
further_mark m n = if nat_lt m.place n.place then n else m

-- the mark behind a completion, if there is one
abbrev pub mark_after : Mark → Option Done → Mark
mark_after m None = m
mark_after m (Some done) = further_mark m (record { place = done.place.0; head = done.head })
