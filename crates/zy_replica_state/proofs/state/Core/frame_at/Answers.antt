use Rattle.std.proofs.Common.{Some, sym, ◌∙◌, ap}
use Rattle.std.specs.Prelude.{option_copied}
use Rattle.zy_replica_state.proofs.ReadyLemmas.{stored_ready}
use Rattle.zy_replica_state.proofs.state.Core.frame_at.Goals as goal

pub returns-in_ok-frame_copy-in-Some-clause-ready : goal.returns-in_ok-frame_copy-in-Some-clause-ready
returns-in_ok-frame_copy-in-Some-clause-ready g c x is =
    stored_ready c.self.inside.orders _ c.self.invariant.orders x
    (sym c.stored.ensures ∙ ap option_copied c.in-Some.is ∙ ap Some (sym c.in_ok-frame_copy-in-Some.ensures) ∙ is)
