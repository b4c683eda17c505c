use Rattle.std.proofs.Common.{sym, ◌∙◌, ap, subst}
use Rattle.std.specs.Prelude.{option_copied}
use Rattle.std.proofs.lemmas.Option.{same_Some}
use Rattle.zy_parts.specs.Signing.{IsSignedInRange}
use Rattle.zy_parts.specs.Statements.{IsOrderInRange}
use Rattle.zy_replica_state.proofs.ReadyLemmas.{stored_ready}
use Rattle.zy_replica_state.proofs.state.Core.order_at.Goals as goal

pub returns-in_ok-signed_copy-in-Some-clause-range : goal.returns-in_ok-signed_copy-in-Some-clause-range
returns-in_ok-signed_copy-in-Some-clause-range g c x is =
    subst (IsSignedInRange IsOrderInRange) (sym c.in_ok-signed_copy-in-Some.ensures ∙ same_Some _ _ is)
    (stored_ready c.self.inside.orders _ c.self.invariant.orders c.in-Some.kept.now (sym c.stored.ensures ∙ ap option_copied c.in-Some.is)).order
