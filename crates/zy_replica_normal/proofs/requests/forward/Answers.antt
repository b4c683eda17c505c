use Rattle.std.proofs.Common.{◌≡◌, true, ◌∙◌, ap, sym}
use Rattle.std.specs.Prelude.{nat_le}
use Rattle.zy_base.specs.declared.step.Answer.TheVariants.{Taken}
use Rattle.zy_table.specs.Deeds.{Going, ends}
use Rattle.zy_table.specs.State.{signs_left}
use Rattle.zy_replica_normal.proofs.RunLemmas.{some_left}
use Rattle.zy_replica_normal.proofs.requests.forward.Goals as goal

pub returns : goal.returns
returns g c =
    let some : nat_le 1 (signs_left c.args.core) ≡ true = rw (sym c.signs_left.ensures) (some_left _ c.if-signs_left-eq0.false) in
    rw some (c.ends.ensures ∙ ap (λ (x : Going g.row.M-State.Denot). ends Taken x) c.in_ok-request_waits.ensures)
