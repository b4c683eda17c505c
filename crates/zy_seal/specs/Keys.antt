-- Public keys by party.
use Rattle.std.specs.Prelude.{ℕ, List, Option, slice_get}
use Rattle.zy_base.specs.declared.ids.Party.{Party}
use Rattle.zy_base.specs.declared.ids.Party.TheVariants.{Replica, Client}

-- the keys of the replicas and of the clients, each in the order of their numbers
pub record Keys : Type 0 where
  pub replicas : List (List ℕ)
  pub clients : List (List ℕ)

-- the key of a party, if it is one of these
abbrev pub key_of : Keys → Party → Option (List ℕ)
key_of keys (Replica id) = slice_get keys.replicas id.0
key_of keys (Client id) = slice_get keys.clients id.0
