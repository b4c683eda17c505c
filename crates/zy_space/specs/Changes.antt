-- Inner forms, which only private contracts and representations cite: a space kept as linked cells, with the changes
-- that lead back to its earlier states.
use Rattle.std.specs.Prelude.{◌≡◌, ℕ, ◌-◌, ◌≤◌, List, [], ◌∷◌, ◌++◌, length, take, map, reverse}
use Rattle.std.specs.List.{AllByRecursion}
use Rattle.zy_slots.specs.Cells.{Cell, Kept, Cells, with_live, relinked, CanRelink, CanTakeLast, IsFresh}
use Rattle.zy_tuple.specs.declared.values.Field.{Field}
use Rattle.zy_tuple.specs.Values.{IsTuple}
use Rattle.zy_space.specs.declared.changes.Change.{Change}
use Rattle.zy_space.specs.declared.changes.Change.TheVariants.{Same, Put, Took}
use Rattle.zy_space.specs.Bucket.{bucket_of}

-- the tuples of live cells
abbrev pub tuples_of : List (Cell (List Field)) → List (List Field)
tuples_of cells = map (λ (cell : Cell (List Field)). cell.value) cells

-- the cells as they were before a change: what was put is the last, what was taken is on top of the stack
abbrev pub undone : Change → Cells (List Field) → Cells (List Field)
undone Same cells = cells
undone Put cells = with_live cells (take (length cells.live - 1) cells.live)
undone Took cells = relinked cells

abbrev pub CanUndo : Change → Cells (List Field) → Type 0
CanUndo Same cells = Unit {0}
CanUndo Put cells = CanTakeLast cells
CanUndo Took cells = CanRelink cells

-- the states before each of these changes, which are given newest first
unfoldable pub earlier : Cells (List Field) → List Change → List (List (List Field))
earlier cells [] = []
earlier cells (change ∷ changes) = tuples_of (undone change cells).live ∷ earlier (undone change cells) changes

-- the same oldest first, for changes oldest first
abbrev pub trail_of : Cells (List Field) → List Change → List (List (List Field))
trail_of cells changes = reverse (earlier cells (reverse changes))

-- the changes, newest first, lead back from the cells to some of which none was taken
unfoldable pub LeadsBack : Cells (List Field) → List Change → Type 0
LeadsBack cells [] = cells.stack ≡ []
LeadsBack cells (change ∷ changes) =
    CanUndo change cells × (length (undone change cells).live ≤ 4096) × LeadsBack (undone change cells) changes

-- a tuple in its bucket
abbrev pub HoldsTuple : Cell (List Field) → Type 0
HoldsTuple cell = IsTuple cell.value × (cell.bucket ≡ bucket_of cell.value)

abbrev pub AllTuples : List (Cell (List Field)) → Type 0
AllTuples cells = AllByRecursion HoldsTuple cells

abbrev pub AllKeptTuples : List (Kept (List Field)) → Type 0
AllKeptTuples stack = AllByRecursion (λ (item : Kept (List Field)). HoldsTuple item.cell) stack

pub record IsSound (cells : Cells (List Field)) (changes : List Change) : Type 0 where
  pub leads_back : LeadsBack cells (reverse changes)
  pub tuples : AllTuples cells.live
  pub kept : AllKeptTuples cells.stack
  pub few : length cells.live ≤ 4096

-- the cells of a space, its changes, and how many cells are live
pub record IsSpace (cells : Cells (List Field)) (changes : List Change) (live : ℕ) : Type 0 where
  pub sound : IsSound cells changes
  pub counted : live ≡ length cells.live

-- the cells and changes now hold these tuples, and lead back to what they held before
pub record IsStep (cells cells' : Cells (List Field)) (changes changes' : List Change) (tuples : List (List Field)) : Type 0 where
  pub tuples_now : tuples_of cells'.live ≡ tuples
  pub trail_now : trail_of cells' changes' ≡ trail_of cells changes ++ tuples_of cells.live ∷ []
  pub sound : IsSound cells' changes'

-- a tuple is the last now, in its bucket and under an id that was in no use
pub record IsPutLast (cells cells' : Cells (List Field)) (tuple : List Field) : Type 0 where
  pub id : ℕ
  pub fresh : IsFresh cells id
  pub now : cells' ≡ with_live cells (cells.live ++ record { id = id; bucket = bucket_of tuple; value = tuple } ∷ [])
