-- Keys of liars that are taken out and put back.
use Rattle.std.proofs.Common.{◌≡◌, List, Option, Some, None, ap}
use Rattle.zy_base.specs.declared.ids.Party.{Party}
use Rattle.zy_base.specs.declared.ids.Party.TheVariants as parties
use Rattle.zy_seal.specs.Sealing.{SealerState}
use Rattle.zy_world.specs.Shown.{Keyed, key_in, with_key}
use Rattle.zy_world.proofs.SeatLemmas.{set_set, set_back}

pub key_again : (k : Keyed) (liar : Party) (a b : Option SealerState) → with_key (with_key k liar a) liar b ≡ with_key k liar b
key_again k (parties.Replica id) a b = let put : List (Option SealerState) → Keyed = λ xs. record k { replicas = xs } in ap put (set_set k.replicas id.0 a b)
key_again k (parties.Client id) a b = let put : List (Option SealerState) → Keyed = λ xs. record k { clients = xs } in ap put (set_set k.clients id.0 a b)

pub key_back : (k : Keyed) (liar : Party) (key : SealerState) → key_in k liar ≡ Some key → with_key (with_key k liar None) liar (Some key) ≡ k
key_back k (parties.Replica id) key is = let put : List (Option SealerState) → Keyed = λ xs. record k { replicas = xs } in ap put (set_back k.replicas id.0 key is)
key_back k (parties.Client id) key is = let put : List (Option SealerState) → Keyed = λ xs. record k { clients = xs } in ap put (set_back k.clients id.0 key is)
