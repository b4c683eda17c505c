-- Inner forms: how the slots stand for live and unlinked cells.
use Rattle.std.specs.Prelude.{◌≡◌, ◌==◌, ℕ, zero, suc, ◌+◌, ◌<◌, ◌≤◌, if◌then◌else◌, true, false, List, [], ◌∷◌, ◌++◌, length, map, Option, Some, None}
use Rattle.std.specs.List.{AllByRecursion}
use Rattle.zy_slots.specs.declared.link.Link.{Link}
use Rattle.zy_slots.specs.declared.slot.Kind.TheVariants.{Order, Chain, Pile}
use Rattle.zy_slots.specs.declared.slot.Slot.{Slot}
use Rattle.zy_slots.specs.Rings.{IsRing}
use Rattle.zy_slots.specs.Cells.{Cell, Kept, Cells, ids, chain_of}
use Rattle.zy_slots.specs.Columns.{ends_at, slot_at, linked}

-- how often a place stands in a list
abbrev pub times : ℕ → List ℕ → ℕ
times place [] = 0
times place (other ∷ others) = (if place == other then 1 else 0) + times place others

-- the places that are met along the links, at most so many
abbrev pub walk : (Option ℕ → Link) → ℕ → Option ℕ → List ℕ
walk at zero place = []
walk at (suc more) None = []
walk at (suc more) (Some place) = place ∷ walk at more (at (Some place)).next

-- no place, or one of these
abbrev pub IsAmong : List ℕ → Option ℕ → Type 0
IsAmong places None = Unit {0}
IsAmong places (Some place) = 0 < times place places

abbrev pub AreAmong : List ℕ → Link → Type 0
AreAmong places link = IsAmong places link.prev × IsAmong places link.next

-- an age above that of a place, and one below it
abbrev pub IsYounger : (ℕ → ℕ) → Option ℕ → ℕ → Type 0
IsYounger age None limit = Unit {0}
IsYounger age (Some place) limit = age place < limit

abbrev pub IsOlder : (ℕ → ℕ) → ℕ → Option ℕ → Type 0
IsOlder age limit None = Unit {0}
IsOlder age limit (Some place) = limit < age place

abbrev pub IsAgedBetween : (ℕ → ℕ) → Link → ℕ → Type 0
IsAgedBetween age link place = IsYounger age link.prev (age place) × IsOlder age (age place) link.next

-- the lists of the rings, the places that stand in none, and an age of each place
pub record Layout (T : Type 0) : Type 0 where
  pub live : List (Cell T)
  pub stack : List (Kept T)
  pub empty : List ℕ
  pub loose : List ℕ
  pub age : ℕ → ℕ

module _ {T : Type 0} where
  abbrev pub kept_ids : List (Kept T) → List ℕ
  kept_ids stack = map (λ item. item.cell.id) stack

  abbrev pub with_cell : ℕ → ℕ → Option T → List (Cell T) → List (Cell T)
  with_cell place bucket None cells = cells
  with_cell place bucket (Some value) cells = record { id = place; bucket = bucket; value = value } ∷ cells

  abbrev pub cells_at : List (Slot T) → List ℕ → List (Cell T)
  cells_at slots [] = []
  cells_at slots (place ∷ places) =
      with_cell place (slot_at slots place).held.bucket (slot_at slots place).held.value (cells_at slots places)

  abbrev pub with_kept : ℕ → ℕ → Option T → Link → Link → List (Kept T) → List (Kept T)
  with_kept place bucket None order chain stack = stack
  with_kept place bucket (Some value) order chain stack =
      record { cell = record { id = place; bucket = bucket; value = value }; order = order; chain = chain } ∷ stack

  abbrev pub stack_at : List (Slot T) → List ℕ → List (Kept T)
  stack_at slots [] = []
  stack_at slots (place ∷ places) =
      with_kept place (slot_at slots place).held.bucket (slot_at slots place).held.value (slot_at slots place).order (slot_at slots place).chain (stack_at slots places)

  -- the cells that the links lead through
  abbrev pub cells_of : List (Slot T) → Link → Link → Cells T
  cells_of slots order stack = record {
    live = cells_at slots (walk (linked Order slots order) (length slots) order.next);
    stack = stack_at slots (walk (linked Pile slots stack) (length slots) stack.next);
  }

  -- each cell is older than those behind it
  abbrev pub Rises : (ℕ → ℕ) → List (Cell T) → Type 0
  Rises age [] = Unit {0}
  Rises age (cell ∷ cells) = AllByRecursion (λ (other : Cell T). age cell.id < age other.id) cells × Rises age cells

  -- what an unlinked cell keeps as its neighbours is among these places or above it on the stack
  abbrev pub AreNamed : List ℕ → List (Kept T) → Type 0
  AreNamed above [] = Unit {0}
  AreNamed above (item ∷ items) =
      AreAmong above item.order × AreAmong above item.chain × AreNamed (item.cell.id ∷ above) items

  -- its age lies between those of its kept neighbours, in both orders
  abbrev pub IsAged : (ℕ → ℕ) → Kept T → Type 0
  IsAged age item = IsAgedBetween age item.order item.cell.id × IsAgedBetween age item.chain item.cell.id

  pub record HoldsLive (slots : List (Slot T)) (cell : Cell T) : Type 0 where
    pub held : (slot_at slots cell.id).held ≡ record { value = Some cell.value; bucket = cell.bucket; live = true }
    pub fits : cell.bucket < 64

  pub record HoldsKept (slots : List (Slot T)) (item : Kept T) : Type 0 where
    pub held : (slot_at slots item.cell.id).held ≡ record { value = Some item.cell.value; bucket = item.cell.bucket; live = false }
    pub fits : item.cell.bucket < 64
    pub order : (slot_at slots item.cell.id).order ≡ item.order
    pub chain : (slot_at slots item.cell.id).chain ≡ item.chain

  abbrev pub total : Layout T → ℕ → ℕ
  total layout place =
      times place (ids layout.live) + times place (kept_ids layout.stack) + times place layout.empty + times place layout.loose

  -- each place stands in one list at most, and all lists together are as long as the vector
  pub record IsSound (size : ℕ) (layout : Layout T) : Type 0 where
    pub once : (place : ℕ) → total layout place ≤ 1
    pub within : (place : ℕ) → 0 < total layout place → place < size
    pub sized : length layout.live + length layout.stack + length layout.empty + length layout.loose ≡ size
    pub few : size ≤ 4294967295
    pub named : AreNamed (ids layout.live ++ layout.loose) layout.stack
    pub rises : Rises layout.age layout.live
    pub aged : AllByRecursion (IsAged layout.age) layout.stack

  pub record IsShape (slots : List (Slot T)) (order : Link) (chains : List Link) (stack free : Link) (layout : Layout T) : Type 0 where
    pub sound : IsSound (length slots) layout
    pub order_ring : IsRing (linked Order slots order) (ids layout.live)
    pub chain_rings : (bucket : ℕ) → bucket < 64 → IsRing (linked Chain slots (ends_at chains bucket)) (ids (chain_of bucket layout.live))
    pub stack_ring : IsRing (linked Pile slots stack) (kept_ids layout.stack)
    pub free_ring : IsRing (linked Pile slots free) layout.empty
    pub holds_live : AllByRecursion (HoldsLive slots) layout.live
    pub holds_kept : AllByRecursion (HoldsKept slots) layout.stack
    pub marks : (place : ℕ) → times place (ids layout.live) + times place layout.loose ≡ 0 → (slot_at slots place).held.live ≡ false

  -- the slots stand for some cells, and none stands in no ring
  pub record IsLinked (slots : List (Slot T)) (order : Link) (chains : List Link) (stack free : Link) : Type 0 where
    pub layout : Layout T
    pub tight : layout.loose ≡ []
    pub shape : IsShape slots order chains stack free layout
