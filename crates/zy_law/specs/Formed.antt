-- The rules on a report that safety doesn't need: how much room it takes, and where what it proves stands among its entries.
use Rattle.std.specs.Prelude.{◌≡◌, ℕ, ◌*◌, ◌^◌, ◌%◌, ◌<◌, ◌≤◌, List, All, IfSome, length}
use Rattle.zy_base.specs.declared.ids.Digest.{Digest}
use Rattle.zy_chain.specs.declared.entry.Entry.{Entry}
use Rattle.zy_chain.specs.Stretch.{Mark, Stretch, end_of}
use Rattle.zy_choose.specs.Marks.{Has}
use Rattle.zy_choose.specs.Reports.{PlainReport}
use Rattle.zy_law.specs.Lawful.{IsChosenStart}
use Rattle.zy_law.specs.Reports.{IsProven, IsValidNew}
use Rattle.zy_law.specs.World.{World}
use Rattle.zy_chain.specs.Entries.{IsOfClients}

-- a mark that isn't past the end, and is the stretch's where it isn't below the base
pub record IsInReach (next : Digest → Entry → Digest) (s : Stretch) (m : Mark) : Type 0 where
  pub within : m.place ≤ end_of s
  pub shared : s.base.place ≤ m.place → Has next s m

-- The stable place is a multiple of the interval between checkpoints. There are few entries, of clients below 64, and the places
-- are those of a frame. The view's begin and the commit certificate are marks of the report's history.
pub record IsInOrder (next : Digest → Entry → Digest) (interval : ℕ) (r : PlainReport) : Type 0 where
  pub multiple : r.stretch.base.place % interval ≡ 0
  pub few : length r.stretch.entries ≤ 2 * interval
  pub clients : All IsOfClients r.stretch.entries
  pub end : end_of r.stretch < 2 ^ 62
  pub began : IsInReach next r.stretch r.began
  pub spec : IfSome r.spec (IsInReach next r.stretch)

-- A report for a view breaks no rule: its certificates are backed, and it is in order.
pub record IsFormed (w : World) (view : ℕ) (r : PlainReport) : Type 0 where
  pub proven : IsProven w view r
  pub in_order : IsInOrder w.next w.interval r

-- a valid new view, each of whose reports is in order
pub record IsFormedNew (w : World) (view : ℕ) (reports : List PlainReport) : Type 0 where
  pub valid : IsValidNew w view reports
  pub in_order : All (IsInOrder w.next w.interval) reports

-- the choice of a valid new view, each of whose reports is in order
pub record IsFormedStart (w : World) (view : ℕ) (m : Mark) : Type 0 where
  pub start : IsChosenStart w view m
  pub in_order : All (IsInOrder w.next w.interval) start.reports
