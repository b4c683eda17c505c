use Rattle.zy_replica_state.proofs.ReadyLemmas.{change_kept}
use Rattle.zy_replica_state.proofs.state.Core.seal_change.Goals as goal

pub returns-clause-kept : goal.returns-clause-kept
returns-clause-kept g c =
    change_kept c.args.self c.is_later-later.ensures.ready c.args.view c.in_ok-told.told c.seal.result c.is_later-later.ensures.fit c.requires.above c.requires.range c.in_ok-told.ensures.report c.seal.ensures.value c.seal.ensures.short
