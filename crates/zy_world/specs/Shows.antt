-- What of a whole world is held: not where replicas stood, when things were said, and any completion but the furthest.
use Rattle.std.specs.Prelude.{◌≡◌, ℕ, ◌≤◌, Bool, true, List, length, map, slice_get, Option, Some, option_map}
use Rattle.zy_base.specs.declared.ids.Party.{Party}
use Rattle.zy_base.specs.declared.ids.Party.TheVariants as parties
use Rattle.zy_world_setup.specs.Kept.{IsShown}
use Rattle.zy_world_setup.specs.Said.{AreShown}
use Rattle.zy_world.specs.Passed.{ArePast}
use Rattle.zy_world.specs.Shown.{Shown, Seated, Keyed, Mutes, seat_of, is_liar_seat, key_in, muted_in}
use Rattle.zy_world_law.specs.Safe.{agreed_mark}
use Rattle.zy_world_law.specs.Setup.{Setup, keys_of, sealer_of}
use Rattle.zy_world_law.specs.World.{World, Replica, Client, correct_in}
use Rattle.zy_seal.specs.Sealing.{signatures_by}

-- the states of correct parties
pub record ShowsSeats {S : Type 0} (replicas : List (Option (Replica S))) (clients : List (Option Client)) (v : Seated S) : Type 0 where
  pub of_replicas : map (option_map (λ x. x.state)) replicas ≡ v.replicas
  pub of_clients : map (option_map (λ x. x.state)) clients ≡ v.clients

-- of each liar the key at its next signature
pub record ShowsKeys {S : Type 0} (seats : Seated S) (setup : Setup) (used : Party → ℕ) (v : Keyed) : Type 0 where
  pub keys : (party : Party) → is_liar_seat (seat_of seats party) ≡ true → key_in v party ≡ Some (sealer_of setup party (used party))
  pub within : (party : Party) → is_liar_seat (seat_of seats party) ≡ true → used party ≤ signatures_by setup.height

pub record ShowsMutes (replicas clients : ℕ) (muted : Party → Bool) (v : Mutes) : Type 0 where
  pub all_replicas : length v.replicas ≡ replicas
  pub all_clients : length v.clients ≡ clients
  pub marks : (party : Party) → muted_in v party ≡ muted party

-- the texts that a correct party in its seat said
abbrev pub texts_of : {S : Type 0} → List (Option (Replica S)) → List (Option Client) → Party → Option (List (List ℕ))
texts_of replicas clients (parties.Replica id) = option_map (λ x. map (λ remark. remark.text) x.said) (correct_in (slice_get replicas id.0))
texts_of replicas clients (parties.Client id) = option_map (λ x. x.said) (correct_in (slice_get clients id.0))

pub record Shows {S : Type 0} (g : World S) (v : Shown S) : Type 0 where
  pub setup : g.setup ≡ v.setup
  pub keys : keys_of g.setup ≡ v.keys
  pub seats : ShowsSeats g.replicas g.clients v.seats
  pub liars : ShowsKeys v.seats g.setup g.used v.liars
  pub mails : g.bag ≡ v.bag.mails
  pub past : ArePast v.seats v.mutes v.bag
  pub mutes : ShowsMutes (length g.replicas) (length g.clients) g.muted v.mutes
  pub agreed : agreed_mark g ≡ v.agreed
  pub texts : IsShown g.texts v.texts
  pub said : AreShown (texts_of g.replicas g.clients) v.said
