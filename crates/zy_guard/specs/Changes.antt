-- Inner forms, which only private contracts and representations cite: a guarded space kept as linked cells, with the
-- changes that lead back to its earlier states. The cells of an owner are one chain.
use Rattle.std.specs.Prelude.{◌≡◌, ℕ, ◌-◌, List, [], ◌∷◌, ◌++◌, length, take, map, reverse}
use Rattle.std.specs.List.{AllByRecursion}
use Rattle.zy_slots.specs.Cells.{Cell, Kept, Cells, with_live, relinked, CanRelink, CanTakeLast, IsFresh}
use Rattle.zy_guard.specs.declared.values.Owned.{Owned}
use Rattle.zy_guard.specs.declared.changes.Change.{Change}
use Rattle.zy_guard.specs.declared.changes.Change.TheVariants.{Same, Put, Took}
use Rattle.zy_guard.specs.GuardedSpace.{IsGuardState}

-- the values of live cells
abbrev pub values_of : List (Cell Owned) → List Owned
values_of cells = map (λ (cell : Cell Owned). cell.value) cells

-- the cells as they were before a change: what was put is the last, what was taken is on top of the stack
abbrev pub undone : Change → Cells Owned → Cells Owned
undone Same cells = cells
undone Put cells = with_live cells (take (length cells.live - 1) cells.live)
undone Took cells = relinked cells

abbrev pub CanUndo : Change → Cells Owned → Type 0
CanUndo Same cells = Unit {0}
CanUndo Put cells = CanTakeLast cells
CanUndo Took cells = CanRelink cells

-- the states before each of these changes, which are given newest first
unfoldable pub earlier : Cells Owned → List Change → List (List Owned)
earlier cells [] = []
earlier cells (change ∷ changes) = values_of (undone change cells).live ∷ earlier (undone change cells) changes

-- the same oldest first, for changes oldest first
abbrev pub trail_of : Cells Owned → List Change → List (List Owned)
trail_of cells changes = reverse (earlier cells (reverse changes))

-- a value in the chain of its owner
abbrev pub IsInChain : Cell Owned → Type 0
IsInChain cell = cell.bucket ≡ cell.value.owner.0

abbrev pub AllInChains : List (Cell Owned) → Type 0
AllInChains cells = AllByRecursion IsInChain cells

abbrev pub AllKeptInChains : List (Kept Owned) → Type 0
AllKeptInChains stack = AllByRecursion (λ (item : Kept Owned). IsInChain item.cell) stack

-- the changes, newest first, lead back over states to cells of which none was taken
unfoldable pub LeadsBack : Cells Owned → List Change → Type 0
LeadsBack cells [] = cells.stack ≡ []
LeadsBack cells (change ∷ changes) =
    CanUndo change cells × IsGuardState (values_of (undone change cells).live) × LeadsBack (undone change cells) changes

pub record IsSound (cells : Cells Owned) (changes : List Change) : Type 0 where
  pub leads_back : LeadsBack cells (reverse changes)
  pub state : IsGuardState (values_of cells.live)
  pub chains : AllInChains cells.live
  pub kept : AllKeptInChains cells.stack

-- the cells of a space, its changes, and how many cells are live
pub record IsGuard (cells : Cells Owned) (changes : List Change) (live : ℕ) : Type 0 where
  pub sound : IsSound cells changes
  pub counted : live ≡ length cells.live

-- the cells and changes now hold this state, and lead back to what they held before
pub record IsStep (cells cells' : Cells Owned) (changes changes' : List Change) (state : List Owned) : Type 0 where
  pub state_now : values_of cells'.live ≡ state
  pub trail_now : trail_of cells' changes' ≡ trail_of cells changes ++ values_of cells.live ∷ []
  pub sound : IsSound cells' changes'

-- a value is the last now, in the chain of its owner and under an id that was in no use
pub record IsPutLast (cells cells' : Cells Owned) (owned : Owned) : Type 0 where
  pub id : ℕ
  pub fresh : IsFresh cells id
  pub now : cells' ≡ with_live cells (cells.live ++ record { id = id; bucket = owned.owner.0; value = owned } ∷ [])
