use Rattle.std.proofs.Common.{sym, ap, ◌∙◌}
use Rattle.zy_world.specs.Tale.{is_short_tale}
use Rattle.zy_world.proofs.Lies.{if_ok}
use Rattle.zy_world.proofs.tale.Tale.is_short.Goals as goal

pub returns-in-Statement : goal.returns-in-Statement
returns-in-Statement c =
    if_ok c.is_short.result (λ short each party. each party 0 ∙ ap (is_short_tale c.args.setup.now party) (sym c.in-Statement.is)) c.is_short.ensures
