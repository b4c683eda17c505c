use Rattle.std.proofs.Common.{◌≡◌, ◌≤◌, true, sym, subst}
use Rattle.std.specs.Option.{ForSome}
use Rattle.zy_change.specs.Owing.{is_gathering}
use Rattle.zy_table.specs.State.{signs_left}
use Rattle.zy_table.specs.Deeds.{Going}
use Rattle.zy_replica_views.specs.Follows.{IsChosenIn}
use Rattle.zy_replica_views.proofs.CarryLemmas.{rest_left}
use Rattle.zy_replica_views.proofs.leaving.carry_out.Goals as goal

pub give_if-requires-clause-left : goal.give_if-requires-clause-left
give_if-requires-clause-left g c =
    rest_left g.M.Machine.rules c.args.progress c.in_ok-left.left c.args.owed.now.leave c.args.owed.now.gather c.in_ok-left.ensures (subst (λ n. n ≤ signs_left c.args.progress.state) (sym c.requires.can.signs) c.requires.left)

pub give_if-requires-clause-gathers : goal.give_if-requires-clause-gathers
give_if-requires-clause-gathers g c =
    subst (λ (x : Going g.row.M-State.Denot). ForSome c.args.owed.now.gather (λ view. is_gathering x.state.views view.0 ≡ true)) (sym c.in_ok-left.ensures) c.requires.can.gathers

pub give_if-requires-clause-chosen : goal.give_if-requires-clause-chosen
give_if-requires-clause-chosen g c =
    subst (λ (x : Going g.row.M-State.Denot). ForSome c.args.owed.now.gather (λ view. ForSome c.args.owed.now.confirm (IsChosenIn x view))) (sym c.in_ok-left.ensures) c.requires.can.chosen
