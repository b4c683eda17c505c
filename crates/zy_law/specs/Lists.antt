-- The list of entries that a mark stands for, and how marks lie on one list.
use Rattle.std.specs.Prelude.{◌≡◌, ℕ, ◌<◌, ◌≤◌, List, length, take, fold}
use Rattle.zy_chain.specs.declared.entry.Entry.{Entry}
use Rattle.zy_chain.specs.Heads.{empty_head}
use Rattle.zy_chain.specs.Stretch.{Mark}
use Rattle.zy_choose.specs.Choice.{IsChoice}
use Rattle.zy_law.specs.Fixed.{IsFixed}
use Rattle.zy_law.specs.Histories.{AreKept}
use Rattle.zy_law.specs.Reports.{IsValidNew}
use Rattle.zy_law.specs.Said.{Moment, At}
use Rattle.zy_law.specs.World.{World}
use Rattle.zy_choose.specs.Reports.{PlainReport}

-- the list whose head is the mark's, read back through the kept texts
pub record IsListOf (w : World) (m : Mark) (list : List Entry) : Type 0 where
  pub long : length list ≡ m.place
  pub head : fold w.next empty_head list ≡ m.head
  pub texts : AreKept w.kept w.next empty_head list

-- the far mark's list has the near mark's as a front
pub record Extends (w : World) (near far : Mark) : Type 0 where
  pub order : near.place ≤ far.place
  pub front : (list : List Entry) → IsListOf w far list → IsListOf w near (take near.place list)

-- some correct replica's history of a view below this one passes the mark
pub record IsKnown (w : World) (below : ℕ) (m : Mark) : Type 0 where
  pub moment : Moment w
  pub earlier : moment.stand.view < below
  pub passes : At moment m

-- a mark with which a view may begin: it is known, and extends all that is fixed in the views before
pub record IsSafeStart (w : World) (view : ℕ) (m : Mark) : Type 0 where
  pub known : IsKnown w view m
  pub extends : (earlier : ℕ) (fixed : Mark) → earlier < view → IsFixed w earlier fixed → Extends w fixed m

-- each choice of a valid new view is such a mark
abbrev pub AreChoicesSafe : World → ℕ → Type 0
AreChoicesSafe w view =
    (reports : List PlainReport) (m : Mark) → IsValidNew w view reports → IsChoice w.next w.counts.agree reports m → IsSafeStart w view m
