use Rattle.std.proofs.Common.{◌≡◌, true, false, sym, ◌∙◌}
use Rattle.std.specs.Prelude.{nat_le}
use Rattle.zy_exec.specs.Kept.{last_place}
use Rattle.zy_replica_normal.proofs.FillLemmas.{within, beyond}
use Rattle.zy_replica_normal.proofs.holes.nothing_kept.Goals as goal

pub returns-then-le : goal.returns-then-le
returns-then-le g c =
    let le : nat_le c.args.hole.now.to.0 (last_place c.args.core.kept) ≡ true = rw (sym c.length.ensures.place) (within _ _ (sym c.le.ensures ∙ c.if-le.true)) in
    rw le c.refused.ensures

pub returns-else-le : goal.returns-else-le
returns-else-le g c =
    let le : nat_le c.args.hole.now.to.0 (last_place c.args.core.kept) ≡ false = rw (sym c.length.ensures.place) (beyond _ _ (sym c.le.ensures ∙ c.if-le.false)) in
    rw le c.refused-else-le.ensures
