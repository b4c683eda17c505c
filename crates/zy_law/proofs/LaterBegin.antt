-- Where the greatest last view is above that in which a mark is fixed, its begin carries the mark, and so does the
-- anchor.
use Rattle.std.proofs.Common.{ℕ, ◌<◌}
use Rattle.zy_chain.specs.Stretch.{Mark}
use Rattle.zy_law.specs.Fixed.{IsFixed}
use Rattle.zy_law.specs.World.{World}
use Rattle.zy_law.specs.Lawful.{IsLawful}
use Rattle.zy_law.specs.Lists.{Extends}
use Rattle.zy_law.proofs.ListLemmas.{Extends-itself, Extends-further, Extends-passed}
use Rattle.zy_law.proofs.BeganOnce.{begin_extends}
use Rattle.zy_law.proofs.OneView.{solid_together}
use Rattle.zy_law.proofs.OneView.IsSolid.{below}
use Rattle.zy_law.proofs.ReportedLemmas.{Reported, ground}

module _ (w : World) (lawful : IsLawful w) (view : ℕ) (c : Reported w view) where
  pub earlier_carried : (earlier : ℕ) (k : Mark) → earlier < c.last → IsFixed w earlier k → Extends w k c.anchor
  earlier_carried earlier k before fixed =
      let g = ground w lawful view c in
      let to_begin = begin_extends w lawful c.last earlier g.begin k g.is (c.safe c.last g.earlier) before fixed in
      let both = solid_together w lawful c.last g.begin g.begin c.anchor g.is g.known (below (Extends-itself w lawful g.begin)) g.solid in
      Extends-further w lawful k g.begin c.anchor to_begin (Extends-passed w lawful both.moment g.begin c.anchor both.first both.second g.begin_order)
