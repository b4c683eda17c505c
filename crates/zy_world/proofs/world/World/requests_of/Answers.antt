use Rattle.std.proofs.Common.{◌≡◌, List, Option, sym, ap, ◌∙◌, subst}
use Rattle.std.specs.Prelude.{IfOk}
use Rattle.zy_base.specs.declared.ids.Party.{Party}
use Rattle.zy_parts.specs.declared.signed.Signed.{Signed}
use Rattle.zy_parts.specs.declared.statements.Ask.{Ask}
use Rattle.zy_world.specs.Shown.{Shown}
use Rattle.zy_world.specs.Shows.{Shows}
use Rattle.zy_world.specs.Tale.{if_replica}
use Rattle.zy_world_law.specs.Liars.{requests_at}
use Rattle.zy_world.proofs.Lies.{if_ok, long_if, requests_shown}
use Rattle.zy_world.proofs.world.World.requests_of.Goals as goal

pub returns-in-Replica-clause-value : goal.returns-in-Replica-clause-value
returns-in-Replica-clause-value g c w s =
    let i = subst (λ (v : Shown g.row.M-State.Denot). Shows w v) (sym c.self.view_is) s in
    subst (λ (asks : Option (List (Signed Ask))). IfOk c.requests.result (λ found. found ≡ asks))
    (requests_shown w _ i c.args.asks.now ∙ ap (λ (liar : Party). if_replica liar (requests_at w c.args.asks.now)) (sym c.in-Replica.is))
    c.requests.ensures.value

pub returns-in-Replica-clause-long : goal.returns-in-Replica-clause-long
returns-in-Replica-clause-long g c = if_ok c.requests.result (long_if c.self.inside.bag.mails c.args.asks.now) c.requests.ensures.value

pub returns-in-Client-clause-value : goal.returns-in-Client-clause-value
returns-in-Client-clause-value g c w s = sym (ap (λ (liar : Party). if_replica liar (requests_at w c.args.asks.now)) c.in-Client.is)
