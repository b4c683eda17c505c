-- Columns of links that stay, and the ends of chains.
use Rattle.std.proofs.Common.{◌≡◌, ◌≢◌, ℕ, zero, suc, ◌<◌, List, [], ◌∷◌, length, get_or, replicate, Option, Some, None, refl, sym, ◌∙◌, subst, set, arith}
use Rattle.std.proofs.lemmas.List.{get_or-set_same, get_or-set_other}
use Rattle.zy_slots.specs.declared.link.Link.{Link}
use Rattle.zy_slots.specs.declared.slot.Kind.{Kind}
use Rattle.zy_slots.specs.declared.slot.Kind.TheVariants.{Order, Chain, Pile}
use Rattle.zy_slots.specs.declared.slot.Slot.{Slot}
use Rattle.zy_slots.specs.Columns.{no_link, ends_at, slot_at, link_of, linked, IsDetached, IsAttached, StaysBeside, StaysInPiles}

pub ends_at-set : (chains : List Link) (bucket : ℕ) (ends : Link) → bucket < length chains → ends_at (set chains bucket ends) bucket ≡ ends
ends_at-set chains bucket ends within = get_or-set_same chains bucket ends no_link within

pub ends_at-set_other : (chains : List Link) (bucket : ℕ) (ends : Link) (other : ℕ) → other ≢ bucket → ends_at (set chains bucket ends) other ≡ ends_at chains other
ends_at-set_other chains bucket ends other apart = get_or-set_other chains bucket other ends no_link apart

pub ends_at_read : (chains : List Link) (bucket : ℕ) (default : Link) → bucket < length chains → get_or chains bucket default ≡ ends_at chains bucket
ends_at_read [] bucket default within = absurd (omega arith)
ends_at_read (ends ∷ chains) zero default within = refl
ends_at_read (ends ∷ chains) (suc bucket) default within = ends_at_read chains bucket default (omega arith)

pub no_ends : (many bucket : ℕ) → ends_at (replicate many no_link) bucket ≡ no_link
no_ends zero bucket = refl
no_ends (suc many) zero = refl
no_ends (suc many) (suc bucket) = no_ends many bucket

module _ {T : Type 0} where
  pub same_column : (kind : Kind) (slots slots' : List (Slot T)) (ends : Link)
      → ((place : ℕ) → link_of kind (slot_at slots' place) ≡ link_of kind (slot_at slots place)) → linked kind slots' ends ≡ linked kind slots ends
  same_column kind slots slots' ends same = λ i place. at place i
    where
      at : (place : Option ℕ) → linked kind slots' ends place ≡ linked kind slots ends place
      at None = refl
      at (Some place) = same place

  -- out of the order, and then out of a chain
  pub out_of_order : (slots middle slots' : List (Slot T)) (order order' : Link) (place : ℕ)
      → IsDetached (linked Order slots order) (linked Order middle order') place → StaysBeside Chain middle slots'
      → IsDetached (linked Order slots order) (linked Order slots' order') place
  out_of_order slots middle slots' order order' place out rest =
      subst (λ (at : Option ℕ → Link). IsDetached (linked Order slots order) at place) (sym (same_column Order middle slots' order' (rest.others Order (λ same. cc)))) out

  pub out_of_chain : (slots middle slots' : List (Slot T)) (ends ends' : Link) (place : ℕ)
      → StaysBeside Order slots middle → IsDetached (linked Chain middle ends) (linked Chain slots' ends') place
      → IsDetached (linked Chain slots ends) (linked Chain slots' ends') place
  out_of_chain slots middle slots' ends ends' place rest out =
      subst (λ (at : Option ℕ → Link). IsDetached at (linked Chain slots' ends') place) (same_column Chain slots middle ends (rest.others Chain (λ same. cc))) out

  pub into_order : (slots middle slots' : List (Slot T)) (order order' : Link) (place : ℕ) (sides : Link)
      → IsAttached (linked Order slots order) (linked Order middle order') place sides → StaysBeside Chain middle slots'
      → IsAttached (linked Order slots order) (linked Order slots' order') place sides
  into_order slots middle slots' order order' place sides put rest =
      subst (λ (at : Option ℕ → Link). IsAttached (linked Order slots order) at place sides) (sym (same_column Order middle slots' order' (rest.others Order (λ same. cc)))) put

  pub into_chain : (slots middle slots' : List (Slot T)) (ends ends' : Link) (place : ℕ) (sides : Link)
      → StaysBeside Order slots middle → IsAttached (linked Chain middle ends) (linked Chain slots' ends') place sides
      → IsAttached (linked Chain slots ends) (linked Chain slots' ends') place sides
  into_chain slots middle slots' ends ends' place sides rest put =
      subst (λ (at : Option ℕ → Link). IsAttached at (linked Chain slots' ends') place sides) (same_column Chain slots middle ends (rest.others Chain (λ same. cc))) put

  pub beside_piles : (slots middle slots' : List (Slot T)) (chains chains' : List Link) (bucket : ℕ) → StaysBeside Order slots middle → StaysBeside Chain middle slots'
      → ((other : ℕ) → other ≢ bucket → ends_at chains' other ≡ ends_at chains other) → StaysInPiles slots slots' chains chains' bucket
  beside_piles slots middle slots' chains chains' bucket first second others =
      record {
        as_many = second.as_many ∙ first.as_many;
        held = λ place. second.held place ∙ first.held place;
        piles = λ place. second.others Pile (λ same. cc) place ∙ first.others Pile (λ same. cc) place;
        other_chains = others;
      }
