-- Inner forms: the links of a vector of slots, one column for each kind of ring, and what writes of links make of them.
use Rattle.std.specs.Prelude.{◌≡◌, ◌≢◌, ◌<◌, ◌⊎◌, ℕ, false, List, [], ◌∷◌, ◌++◌, length, Option, Some, None, IfSome, slice_index_or}
use Rattle.zy_slots.specs.declared.link.Link.{Link}
use Rattle.zy_slots.specs.declared.slot.Kind.{Kind}
use Rattle.zy_slots.specs.declared.slot.Kind.TheVariants.{Order, Chain, Pile}
use Rattle.zy_slots.specs.declared.slot.Held.{Held}
use Rattle.zy_slots.specs.declared.slot.Slot.{Slot}

abbrev pub no_link : Link
no_link = record { prev = None; next = None }

abbrev pub ends_at : List Link → ℕ → Link
ends_at chains bucket = slice_index_or chains bucket no_link

-- the neighbours are below this number
abbrev pub AreWithin : ℕ → Link → Type 0
AreWithin limit link = IfSome link.prev (λ place. place < limit) × IfSome link.next (λ place. place < limit)

-- one link is another, the others stay
pub record IsPut (at at' : Option ℕ → Link) (place : Option ℕ) (link : Link) : Type 0 where
  pub here : at' place ≡ link
  pub elsewhere : (other : Option ℕ) → other ≢ place → at' other ≡ at other

-- behind one place now comes another, and before one place another: all else stays
pub record IsJoined (at at' : Option ℕ → Link) (left right after before : Option ℕ) : Type 0 where
  pub next : (at' left).next ≡ after
  pub prev : (at' right).prev ≡ before
  pub next_stays : (other : Option ℕ) → other ≢ left → (at' other).next ≡ (at other).next
  pub prev_stays : (other : Option ℕ) → other ≢ right → (at' other).prev ≡ (at other).prev

-- the neighbours of a place are each other's
abbrev pub IsDetached : (Option ℕ → Link) → (Option ℕ → Link) → ℕ → Type 0
IsDetached at at' place = IsJoined at at' (at (Some place)).prev (at (Some place)).next (at (Some place)).next (at (Some place)).prev

-- a place has a link, and its neighbours name it
pub record IsAttached (at at' : Option ℕ → Link) (place : ℕ) (link : Link) : Type 0 where
  pub middle : Option ℕ → Link
  pub put : IsPut at middle (Some place) link
  pub joined : IsJoined middle at' link.prev link.next (Some place) (Some place)

module _ {T : Type 0} where
  abbrev pub no_slot : Slot T
  no_slot = record { held = record { value = None; bucket = 0; live = false }; order = no_link; chain = no_link; pile = no_link }

  abbrev pub slot_at : List (Slot T) → ℕ → Slot T
  slot_at slots place = slice_index_or slots place no_slot

  abbrev pub link_of : Kind → Slot T → Link
  link_of Order slot = slot.order
  link_of Chain slot = slot.chain
  link_of Pile slot = slot.pile

  abbrev pub with_link : Kind → Link → Slot T → Slot T
  with_link Order link slot = record slot { order = link }
  with_link Chain link slot = record slot { chain = link }
  with_link Pile link slot = record slot { pile = link }

  -- the links of one kind, with a ring's own link at None
  abbrev pub linked : Kind → List (Slot T) → Link → Option ℕ → Link
  linked kind slots ends None = ends
  linked kind slots ends (Some place) = link_of kind (slot_at slots place)

  -- all but the links of one kind stays
  pub record StaysBeside (kind : Kind) (slots slots' : List (Slot T)) : Type 0 where
    pub as_many : length slots' ≡ length slots
    pub held : (place : ℕ) → (slot_at slots' place).held ≡ (slot_at slots place).held
    pub others : (other : Kind) → other ≢ kind → (place : ℕ) → link_of other (slot_at slots' place) ≡ link_of other (slot_at slots place)

  -- what is held and the stack and the free slots stay, and all chains but one
  pub record StaysInPiles (slots slots' : List (Slot T)) (chains chains' : List Link) (bucket : ℕ) : Type 0 where
    pub as_many : length slots' ≡ length slots
    pub held : (place : ℕ) → (slot_at slots' place).held ≡ (slot_at slots place).held
    pub piles : (place : ℕ) → (slot_at slots' place).pile ≡ (slot_at slots place).pile
    pub other_chains : (other : ℕ) → other ≢ bucket → ends_at chains' other ≡ ends_at chains other

  -- a place in no ring: the first free one, or one more at the end
  abbrev pub IsTaken : List (Slot T) → List (Slot T) → Link → Link → ℕ → Type 0
  IsTaken slots slots' free free' place =
      ((free.next ≡ Some place) × IsDetached (linked Pile slots free) (linked Pile slots' free') place × StaysBeside Pile slots slots')
      ⊎ ((place ≡ length slots) × (place < 4294967295) × (slots' ≡ slots ++ no_slot ∷ []) × (free' ≡ free))

  -- what one place holds is another, all else stays
  pub record IsHeldNow (slots slots' : List (Slot T)) (place : ℕ) (now : Held T) : Type 0 where
    pub as_many : length slots' ≡ length slots
    pub here : (slot_at slots' place).held ≡ now
    pub elsewhere : (other : ℕ) → other ≢ place → (slot_at slots' other).held ≡ (slot_at slots other).held
    pub links : (kind : Kind) (other : ℕ) → link_of kind (slot_at slots' other) ≡ link_of kind (slot_at slots other)
