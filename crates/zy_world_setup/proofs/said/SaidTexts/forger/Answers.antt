use Rattle.std.proofs.Common.{ap, ◌∙◌}
use Rattle.zy_world_setup.specs.Said.{forger_among, told_by}
use Rattle.zy_world_setup.proofs.SaidLemmas.{forger_shown}
use Rattle.zy_world_setup.proofs.said.SaidTexts.forger.Goals as goal

pub returns : goal.returns
returns c said shown =
    let keys = c.args.directory.now in
    let told = c.args.self.now in
    c.forger_in.ensures
    ∙ ap (forger_among keys (told_by told)) (c.deref.ensures.value ∙ c.in_ok-parts.ensures)
    ∙ forger_shown keys said told _ shown
