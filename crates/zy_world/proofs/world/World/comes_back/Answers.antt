use Rattle.std.proofs.Common.{true, Some, sym, ap, ◌∙◌, subst}
use Rattle.std.proofs.lemmas.Result.{err_from_is_err_and}
use Rattle.std.specs.Prelude.{IfOk, IfErr, slice_set}
use Rattle.zy_base.specs.declared.ids.Party.TheVariants as parties
use Rattle.zy_base.specs.declared.step.Event.TheVariants.{Heard}
use Rattle.zy_table.specs.Whole.{whole_step}
use Rattle.zy_world.specs.Answered.{GoesTo, IsBrokenBy}
use Rattle.zy_world.specs.Shown.{Seated, Shown, seat_in, with_replicas}
use Rattle.zy_world_law.specs.Events.{Happened}
use Rattle.zy_world_law.specs.World.{World, delivered}
use Rattle.zy_world.proofs.Changes.{mail_marked}
use Rattle.zy_world.proofs.ComingBack.{back_has, brought_to_replica, ok_so}
use Rattle.zy_world.proofs.Heard.{brought_unheard}
use Rattle.zy_world.proofs.world.World.comes_back.Goals as goal

pub returns-clause-goes : goal.returns-clause-goes
returns-clause-goes g c w mail x before t =
    let R = g.M.Machine.rules in
    let marked : World g.row.M-State.Denot = delivered w c.args.number mail in
    let o = whole_step R x.state (Heard mail.bytes) in
    let h = c.in_ok-hears_sent.ensures.heard marked (record mail { delivered = true }) (λ xs. before) (c.marked.ensures.shows w mail (λ xs. before) t.shows t.there) (mail_marked w c.args.number mail t.there) in
    let has = back_has (record marked { texts = h.texts }) c.args.id x o c.args.gone.step before c.args.gone.replica _ _ c.seated.ensures h.shows t.sits t.gone.replica t.gone.step in
    subst (λ (e : Happened g.row.M-State.Denot). IfOk c.replica_stepped.result (λ r. GoesTo e r.note (with_replicas (λ xs. slice_set before c.args.id.0 (Some c.args.gone.replica)) r.world)))
    (sym (brought_to_replica R w c.args.number mail mail.bytes c.args.id x t.sits _ h))
    (c.replica_stepped.ensures.goes (record marked { texts = h.texts }) x (Heard mail.bytes) o (λ xs. slice_set before c.args.id.0 (Some c.args.gone.replica)) has)

pub returns-clause-broken : goal.returns-clause-broken
returns-clause-broken g c w mail x before t =
    let R = g.M.Machine.rules in
    let marked : World g.row.M-State.Denot = delivered w c.args.number mail in
    let o = whole_step R x.state (Heard mail.bytes) in
    let h = c.in_ok-hears_sent.ensures.heard marked (record mail { delivered = true }) (λ xs. before) (c.marked.ensures.shows w mail (λ xs. before) t.shows t.there) (mail_marked w c.args.number mail t.there) in
    let has = back_has (record marked { texts = h.texts }) c.args.id x o c.args.gone.step before c.args.gone.replica _ _ c.seated.ensures h.shows t.sits t.gone.replica t.gone.step in
    subst (λ (e : Happened g.row.M-State.Denot). IfErr c.replica_stepped.result (IsBrokenBy e))
    (sym (brought_to_replica R w c.args.number mail mail.bytes c.args.id x t.sits _ h))
    (c.replica_stepped.ensures.broken (record marked { texts = h.texts }) x (Heard mail.bytes) o (λ xs. slice_set before c.args.id.0 (Some c.args.gone.replica)) has)

pub returns-clause-replicas : goal.returns-clause-replicas
returns-clause-replicas g c =
    ok_so _ _ c.replica_stepped.result c.replica_stepped.ensures.seats (λ r is.
    ap (λ (s : Seated g.row.M-State.Denot). s.replicas) (is ∙ ap (λ (v : Shown g.row.M-State.Denot). v.seats) c.seated.ensures)
    ∙ ap (λ (s : Seated g.row.M-State.Denot). slice_set s.replicas c.args.id.0 (Some c.args.gone.replica)) (c.in_ok-hears_sent.ensures.seats ∙ c.marked.ensures.seats))

pub returns-in_err-hears_sent-clause-broken : goal.returns-in_err-hears_sent-clause-broken
returns-in_err-hears_sent-clause-broken g c w mail x before t =
    let p = err_from_is_err_and c.from_residual.result c.from_residual.ensures.1 in
    rw (p.1, p.2)
    (brought_unheard g.M.Machine.rules w c.args.number mail (parties.Replica c.args.id) mail.bytes (ap (λ o. seat_in o) t.sits) c.in_err-hears_sent.field-0.0
    (c.in_err-hears_sent.ensures.unheard (delivered w c.args.number mail) (record mail { delivered = true }) (λ xs. before) (c.marked.ensures.shows w mail (λ xs. before) t.shows t.there) (mail_marked w c.args.number mail t.there)))
