-- Who sits in each seat, as it is held and in the whole world.
use Rattle.std.proofs.Common.{◌≡◌, ℕ, Bool, not, ◌&&◌, List, map, Option, refl, sym, ap, ap₂, ◌∙◌}
use Rattle.std.specs.Prelude.{slice_get, option_map}
use Rattle.zy_base.specs.declared.ids.Party.{Party}
use Rattle.zy_base.specs.declared.ids.Party.TheVariants as parties
use Rattle.zy_table.specs.ClientState.{ClientState}
use Rattle.zy_table.specs.State.{State}
use Rattle.zy_world.specs.Shown.{Seated, seat_in, seat_of, is_seated, is_correct_seat, is_liar_seat}
use Rattle.zy_world.specs.Shows.{ShowsSeats, texts_of}
use Rattle.zy_world.specs.declared.seat.Seat.{Seat}
use Rattle.zy_world.specs.declared.seat.Seat.TheVariants as sat
use Rattle.zy_world_law.specs.World.{World, correct_in, texts_said, is_party, is_correct, is_liar}
use Rattle.zy_world.proofs.SeatLemmas.{kind_of_map, told_kind, within_kind, sits_in_map}

-- the seat of a party in the whole world
abbrev pub whole_seat : {S : Type 0} → World S → Party → Seat
whole_seat g (parties.Replica id) = seat_in (slice_get g.replicas id.0)
whole_seat g (parties.Client id) = seat_in (slice_get g.clients id.0)

pub party_is : {S : Type 0} (g : World S) (party : Party) → is_party g party ≡ is_seated (whole_seat g party)
party_is g (parties.Replica id) = within_kind g.replicas id.0
party_is g (parties.Client id) = within_kind g.clients id.0

pub correct_is : {S : Type 0} (g : World S) (party : Party) → is_correct g party ≡ is_correct_seat (whole_seat g party)
correct_is g (parties.Replica id) = told_kind (λ x. map (λ remark. remark.text) x.said) (slice_get g.replicas id.0)
correct_is g (parties.Client id) = told_kind (λ x. x.said) (slice_get g.clients id.0)

liar_kind : (seat : Seat) → (is_seated seat && not (is_correct_seat seat)) ≡ is_liar_seat seat
liar_kind sat.Nobody = refl
liar_kind sat.Liar = refl
liar_kind sat.Correct = refl

pub liar_is : {S : Type 0} (g : World S) (party : Party) → is_liar g party ≡ is_liar_seat (whole_seat g party)
liar_is g party = ap₂ (λ (a b : Bool). a && not b) (party_is g party) (correct_is g party) ∙ liar_kind (whole_seat g party)

pub said_is : {S : Type 0} (g : World S) (party : Party) → texts_said g party ≡ texts_of g.replicas g.clients party
said_is g (parties.Replica id) = refl
said_is g (parties.Client id) = refl

module _ {S : Type 0} (g : World S) (v : Seated S) (shows : ShowsSeats g.replicas g.clients v) where
  pub seat_shown : (party : Party) → seat_of v party ≡ whole_seat g party
  seat_shown (parties.Replica id) =
      ap (λ (xs : List (Option (State S))). seat_in (slice_get xs id.0)) (sym shows.of_replicas) ∙ kind_of_map (λ x. x.state) g.replicas id.0
  seat_shown (parties.Client id) =
      ap (λ (xs : List (Option ClientState)). seat_in (slice_get xs id.0)) (sym shows.of_clients) ∙ kind_of_map (λ x. x.state) g.clients id.0

  pub replica_shown : (id : ℕ) → correct_in (slice_get v.replicas id) ≡ option_map (λ x. x.state) (correct_in (slice_get g.replicas id))
  replica_shown id =
      ap (λ (xs : List (Option (State S))). correct_in (slice_get xs id)) (sym shows.of_replicas) ∙ sits_in_map (λ x. x.state) g.replicas id

  pub client_shown : (id : ℕ) → correct_in (slice_get v.clients id) ≡ option_map (λ x. x.state) (correct_in (slice_get g.clients id))
  client_shown id =
      ap (λ (xs : List (Option ClientState)). correct_in (slice_get xs id)) (sym shows.of_clients) ∙ sits_in_map (λ x. x.state) g.clients id
