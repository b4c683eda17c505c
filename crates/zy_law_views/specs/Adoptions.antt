-- When a replica begins a view lawfully with what it takes up.
use Rattle.std.specs.Prelude.{◌≡◌, ℕ, ◌<◌, ◌≤◌, List, slice_get, Some}
use Rattle.zy_base.specs.Machine.{Rules}
use Rattle.zy_chain.specs.declared.entry.Entry.{Entry}
use Rattle.zy_change.specs.Views.{own_view}
use Rattle.zy_change.specs.declared.kept.Chosen.{Chosen}
use Rattle.zy_exec.specs.Kept.{Kept}
use Rattle.zy_law.specs.Steps.{MayStand, after_standing}
use Rattle.zy_law.specs.World.{World}
use Rattle.zy_parts.specs.declared.reports.Change.{Change}
use Rattle.zy_parts.specs.declared.signed.Signed.{Signed}
use Rattle.zy_parts.specs.declared.statements.Check.{Check}
use Rattle.zy_table.specs.State.{State}
use Rattle.zy_vframes.specs.declared.frame.ViewCert.{ViewCert}
use Rattle.zy_law_views.specs.Tied.{IsChosenNew, IsTied, IsViewCert, began_with, stand_in}
use Rattle.zy_law_views.specs.Cores.{core_of}

-- The certificate is of a view that may begin: it isn't below the own one, and above the last active one. What is chosen out of
-- its proper new view is confirmed, and this is the report of the provider.
pub record IsDue {S : Type 0} (interval : ℕ) (w : World) (s : State S) (cert : ViewCert) (chosen : Chosen) (p : Signed Change) : Type 0 where
  pub own : own_view s.views ≤ cert.new.stmt.view.0
  pub later : s.views.last_view.0 < cert.new.stmt.view.0
  pub new : IsChosenNew interval w cert.new.stmt chosen
  pub begans : IsViewCert w cert.new.stmt chosen cert.begans
  pub there : slice_get cert.new.stmt.changes chosen.provider ≡ Some p

-- It may stand in the view with this history, and is tied to the world in which it does, with what it keeps then and this stable
-- checkpoint.
pub record IsBegunLawfully {S : Type 0} (R : Rules S) (interval : ℕ) (w : World) (r : ℕ) (s : State S) (cert : ViewCert) (chosen : Chosen) (k : Kept S) (stable : Check) (proof : List (Signed Check))
    (history : List Entry) : Type 0 where
  pub may : MayStand w r (stand_in cert history)
  pub tied : IsTied R interval (after_standing w r (stand_in cert history)) r (began_with cert chosen k stable proof (core_of s)) history
