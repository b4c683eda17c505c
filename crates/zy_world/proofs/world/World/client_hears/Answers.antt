use Rattle.std.proofs.Common.{sym, ap, ◌∙◌, subst}
use Rattle.std.proofs.lemmas.Result.{err_from_is_err_and}
use Rattle.std.specs.Prelude.{IfOk, IfErr}
use Rattle.zy_base.specs.declared.ids.Party.TheVariants as parties
use Rattle.zy_world.specs.Answered.{GoesTo, IsBrokenBy}
use Rattle.zy_world.specs.Shown.{Seated, with_replicas}
use Rattle.zy_world_law.specs.Events.{Happened}
use Rattle.zy_world_law.specs.World.{World, delivered}
use Rattle.zy_world.proofs.ComingBack.{brought_to_client, ok_so}
use Rattle.zy_world.proofs.Heard.{brought_unheard}
use Rattle.zy_world.proofs.world.World.client_hears.Goals as goal

pub returns-clause-goes : goal.returns-clause-goes
returns-clause-goes g c w mail before s there correct =
    let marked : World g.row.M-State.Denot = delivered w c.args.number mail in
    let h = c.in_ok-hears.ensures.heard marked (λ xs. before) (c.marked.ensures.shows w mail (λ xs. before) s there) in
    subst (λ (e : Happened g.row.M-State.Denot). IfOk c.client_steps.result (λ r. GoesTo e r.note (with_replicas (λ xs. before) r.world)))
    (sym (brought_to_client g.M.Machine.rules w c.args.number mail c.args.bytes c.args.id correct _ h))
    (c.client_steps.ensures.goes (record marked { texts = h.texts }) (λ xs. before) h.shows)

pub returns-clause-broken : goal.returns-clause-broken
returns-clause-broken g c w mail before s there correct =
    let marked : World g.row.M-State.Denot = delivered w c.args.number mail in
    let h = c.in_ok-hears.ensures.heard marked (λ xs. before) (c.marked.ensures.shows w mail (λ xs. before) s there) in
    subst (λ (e : Happened g.row.M-State.Denot). IfErr c.client_steps.result (IsBrokenBy e))
    (sym (brought_to_client g.M.Machine.rules w c.args.number mail c.args.bytes c.args.id correct _ h))
    (c.client_steps.ensures.broken (record marked { texts = h.texts }) (λ xs. before) h.shows)

pub returns-clause-replicas : goal.returns-clause-replicas
returns-clause-replicas g c =
    ok_so _ _ c.client_steps.result c.client_steps.ensures.replicas (λ r is.
    is ∙ ap (λ (s : Seated g.row.M-State.Denot). s.replicas) (c.in_ok-hears.ensures.seats ∙ c.marked.ensures.seats))

pub returns-in_err-hears-clause-broken : goal.returns-in_err-hears-clause-broken
returns-in_err-hears-clause-broken g c w mail before s there correct =
    let p = err_from_is_err_and c.from_residual.result c.from_residual.ensures.1 in
    rw (p.1, p.2)
    (brought_unheard g.M.Machine.rules w c.args.number mail (parties.Client c.args.id) c.args.bytes correct c.in_err-hears.field-0.0
    (c.in_err-hears.ensures.unheard (delivered w c.args.number mail) (λ xs. before) (c.marked.ensures.shows w mail (λ xs. before) s there)))
