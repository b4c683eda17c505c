-- What a report proves, and when a new view is valid.
use Rattle.std.specs.Prelude.{◌≡◌, ◌≢◌, ℕ, ◌<◌, ◌≤◌, List, length, All, IfSome}
use Rattle.std.specs.List.{AllPairs}
use Rattle.zy_choose.specs.Reports.{PlainReport}
use Rattle.zy_law.specs.Fixed.{IsCertified}
use Rattle.zy_law.specs.Histories.{origin}
use Rattle.zy_law.specs.Said.{IsVouched, IsBacked}
use Rattle.zy_law.specs.World.{World}
use Rattle.zy_law.specs.World.Statement.{Check, Began, Change}

-- Each certificate of a report for a new view is backed. The rules on room, and on where the certificates stand among
-- the entries, aren't needed for safety.
pub record IsProven (w : World) (view : ℕ) (r : PlainReport) : Type 0 where
  pub earlier : r.last_view < view
  -- view 0 begins with the empty history, each later view by a view certificate
  pub began_first : r.last_view ≡ 0 → r.began ≡ origin
  pub began_later : 0 < r.last_view → IsBacked w w.counts.cert (Began r.last_view r.began)
  pub spec : IfSome r.spec (IsCertified w r.last_view)
  -- the empty history is stable from the start, each longer one by a stable proof
  pub stable_view : r.stable_view ≤ r.last_view
  pub stable_first : r.stretch.base.place ≡ 0 → r.stretch.base ≡ origin
  pub stable_later : 0 < r.stretch.base.place → IsBacked w w.counts.local (Check r.stable_view r.stretch.base r.state)

pub record IsValidReport (w : World) (view : ℕ) (r : PlainReport) : Type 0 where
  pub signed : IsVouched w (Change view r) r.by
  pub proven : IsProven w view r

-- just enough reports, of different replicas
pub record IsValidNew (w : World) (view : ℕ) (reports : List PlainReport) : Type 0 where
  pub many : length reports ≡ w.counts.change
  pub different : AllPairs (λ r s. r.by ≢ s.by) reports
  pub each : All (IsValidReport w view) reports
