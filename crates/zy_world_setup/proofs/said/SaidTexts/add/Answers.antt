use Rattle.std.proofs.Common.{ℕ, List, map, refl, sym, subst}
use Rattle.zy_base.specs.declared.ids.Party.{Party}
use Rattle.zy_base.specs.declared.step.Spoken.{Spoken}
use Rattle.zy_world_setup.specs.Said.{AreShown, Told, also_said}
use Rattle.zy_world_setup.proofs.SaidLemmas.{replica_says, client_says}
use Rattle.zy_world_setup.proofs.said.SaidTexts.add.Goals as goal

abbrev texts : List Spoken → List (List ℕ)
texts more = map (λ spoken. spoken.text) more

pub returns-in_ok-add_at-in-Replica : goal.returns-in_ok-add_at-in-Replica
returns-in_ok-add_at-in-Replica c said shown =
    let old : Told = record { replicas = c.self.inside.replicas.items; clients = c.self.inside.clients.items } in
    let new : Told = record { replicas = c.add_at.new.seats.items; clients = c.self.inside.clients.items } in
    let more = texts c.args.more in
    subst (λ (party : Party). AreShown (also_said said party more) new) (sym c.in-Replica.is)
    (replica_says said old more (subst (AreShown said) (sym c.self.view_is) shown) c.in-Replica.id new c.in_ok-add_at-in-Replica.ensures refl)

pub returns-in_ok-add_at-in-Client : goal.returns-in_ok-add_at-in-Client
returns-in_ok-add_at-in-Client c said shown =
    let old : Told = record { replicas = c.self.inside.replicas.items; clients = c.self.inside.clients.items } in
    let new : Told = record { replicas = c.self.inside.replicas.items; clients = c.add_at-in-Client.new.seats.items } in
    let more = texts c.args.more in
    subst (λ (party : Party). AreShown (also_said said party more) new) (sym c.in-Client.is)
    (client_says said old more (subst (AreShown said) (sym c.self.view_is) shown) c.in-Client.id new c.in_ok-add_at-in-Client.ensures refl)
