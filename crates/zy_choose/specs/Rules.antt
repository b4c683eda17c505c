-- What makes a report well formed, as far as it tells it of itself. The numbers of the rules are those by which a
-- refusal names them.
use Rattle.std.specs.Prelude.{◌≡◌, ℕ, ◌*◌, ◌^◌, ◌%◌, ◌<◌, ◌≤◌, All, IfSome, length}
use Rattle.zy_chain.specs.Stretch.{Mark, Stretch, end_of}
use Rattle.zy_choose.specs.Marks.{Has, link}
use Rattle.zy_choose.specs.Reports.{PlainReport}
use Rattle.zy_choose.specs.declared.report.ReportRule.{ReportRule}
use Rattle.zy_choose.specs.declared.report.ReportRule.TheVariants.{Stable, Entries, Began, Spec}
use Rattle.zy_chain.specs.Entries.{IsOfClients}

-- the stable proof isn't of a later view, and its place is a multiple of the interval between snapshots
pub record IsStableInOrder (interval : ℕ) (r : PlainReport) : Type 0 where
  pub view : r.stable_view ≤ r.last_view
  pub multiple : r.stretch.base.place % interval ≡ 0

-- there are few entries, of clients below 64, and the places are those of a frame
pub record AreEntriesInRange (interval : ℕ) (r : PlainReport) : Type 0 where
  pub few : length r.stretch.entries ≤ 2 * interval
  pub clients : All IsOfClients r.stretch.entries
  pub end : end_of r.stretch < 2 ^ 62

-- a mark that isn't past the end, and is the stretch's where it isn't below the base
pub record Fits (s : Stretch) (m : Mark) : Type 0 where
  pub within : m.place ≤ end_of s
  pub shared : s.base.place ≤ m.place → Has link s m

pub record IsWellFormed (interval : ℕ) (r : PlainReport) : Type 0 where
  pub stable : IsStableInOrder interval r
  pub entries : AreEntriesInRange interval r
  pub began : Fits r.stretch r.began
  pub spec : IfSome r.spec (Fits r.stretch)

-- the first rule that the report breaks
abbrev pub IsFirstBroken : ℕ → PlainReport → ReportRule → Type 0
IsFirstBroken interval r Stable = ¬ IsStableInOrder interval r
IsFirstBroken interval r Entries = IsStableInOrder interval r × ¬ AreEntriesInRange interval r
IsFirstBroken interval r Began = IsStableInOrder interval r × AreEntriesInRange interval r × ¬ Fits r.stretch r.began
IsFirstBroken interval r Spec =
    IsStableInOrder interval r × AreEntriesInRange interval r × Fits r.stretch r.began × ¬ IfSome r.spec (Fits r.stretch)
