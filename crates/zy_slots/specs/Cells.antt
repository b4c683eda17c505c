-- What contracts see of linked slots: the live cells in the order of their insertion, and a stack of unlinked ones,
-- each with the neighbours that it had in both orders.
use Rattle.std.specs.Prelude.{◌≡◌, ◌≢◌, ◌==◌, ℕ, if◌then◌else◌, List, [], ◌∷◌, ◌++◌, map, filter, Option, Some, None}
use Rattle.std.specs.List.{AllByRecursion}
use Rattle.std.specs.Coded.{coded×}
use Rattle.zy_slots.specs.declared.link.Link.{Link}
use Rattle.zy_slots.specs.Rings.{between}

pub record Cell (T : Type 0) : Type 0 where
  pub id : ℕ
  pub bucket : ℕ
  pub value : T

pub record Kept (T : Type 0) : Type 0 where
  pub cell : Cell T
  pub order : Link
  pub chain : Link

-- the top of the stack comes first
pub record Cells (T : Type 0) : Type 0 where
  pub live : List (Cell T)
  pub stack : List (Kept T)

-- no link to this id
abbrev pub IsApart : ℕ → Link → Type 0
IsApart id link = (link.prev ≢ Some id) × (link.next ≢ Some id)

module _ {T : Type 0} where
  abbrev pub with_live : Cells T → List (Cell T) → Cells T
  with_live cells live = record cells { live = live }

  abbrev pub with_stack : Cells T → List (Kept T) → Cells T
  with_stack cells stack = record cells { stack = stack }

  abbrev pub ids : List (Cell T) → List ℕ
  ids cells = map (λ cell. cell.id) cells

  -- the cells of a bucket, in their order
  abbrev pub chain_of : ℕ → List (Cell T) → List (Cell T)
  chain_of bucket cells = filter (λ cell. cell.bucket == bucket) cells

  -- a live cell with this id stands between these
  pub record Stands (cells : Cells T) (id : ℕ) (earlier : List (Cell T)) (cell : Cell T) (later : List (Cell T)) : Type 0 where
    pub split : cells.live ≡ earlier ++ cell ∷ later
    pub named : cell.id ≡ id

  abbrev pub IsLive : Cells T → ℕ → Type 0
  IsLive cells id = (earlier : List (Cell T)) × (cell : Cell T) × (later : List (Cell T)) × Stands cells id earlier cell later

  -- a cell with the neighbours that it has between these, in the order and in its chain
  abbrev pub kept : List (Cell T) → Cell T → List (Cell T) → Kept T
  kept earlier cell later = record {
    cell = cell;
    order = between (ids earlier) (ids later);
    chain = between (ids (chain_of cell.bucket earlier)) (ids (chain_of cell.bucket later));
  }

  -- a cell put behind the one with this id, or first
  abbrev pub put_behind : Option ℕ → Cell T → List (Cell T) → List (Cell T)
  put_behind None cell cells = cell ∷ cells
  put_behind (Some id) cell [] = cell ∷ []
  put_behind (Some id) cell (other ∷ others) =
      if other.id == id then other ∷ cell ∷ others else other ∷ put_behind (Some id) cell others

  -- the top of the stack is put back behind the neighbour that it had before it
  abbrev pub relinked_onto : List (Cell T) → List (Kept T) → Cells T
  relinked_onto live [] = record { live = live; stack = [] }
  relinked_onto live (top ∷ rest) = record { live = put_behind top.order.prev top.cell live; stack = rest }

  abbrev pub relinked : Cells T → Cells T
  relinked cells = relinked_onto cells.live cells.stack

  -- the top's kept neighbours are live and stand next to each other in the order, and so in its chain; where it kept
  -- one alone, this one is first or last there, and where it kept none, there is nothing
  pub record CanRelink (cells : Cells T) : Type 0 where
    pub top : Kept T
    pub rest : List (Kept T)
    pub on_top : cells.stack ≡ top ∷ rest
    pub earlier : List (Cell T)
    pub later : List (Cell T)
    pub in_order : cells.live ≡ earlier ++ later
    pub order_kept : top.order ≡ between (ids earlier) (ids later)
    pub chain_earlier : List (Cell T)
    pub chain_later : List (Cell T)
    pub in_chain : chain_of top.cell.bucket cells.live ≡ chain_earlier ++ chain_later
    pub chain_kept : top.chain ≡ between (ids chain_earlier) (ids chain_later)

  -- no unlinked cell keeps this id as a neighbour
  abbrev pub KeptByNone : List (Kept T) → ℕ → Type 0
  KeptByNone stack id = AllByRecursion (λ (item : Kept T). IsApart id item.order × IsApart id item.chain) stack

  -- the last live cell is no neighbour that an unlinked one kept
  pub record CanTakeLast (cells : Cells T) : Type 0 where
    pub front : List (Cell T)
    pub last : Cell T
    pub split : cells.live ≡ front ++ last ∷ []
    pub kept_by_none : KeptByNone cells.stack last.id

  -- an id that is neither live nor on the stack nor kept there
  pub record IsFresh (cells : Cells T) (id : ℕ) : Type 0 where
    pub not_live : AllByRecursion (λ (cell : Cell T). cell.id ≢ id) cells.live
    pub not_unlinked : AllByRecursion (λ (item : Kept T). item.cell.id ≢ id) cells.stack
    pub kept_by_none : KeptByNone cells.stack id
