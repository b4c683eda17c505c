use Rattle.std.proofs.Common.{◌≡◌, ◌∷◌, Result, Ok, Some, sym, ap, ◌∙◌, subst}
use Rattle.std.proofs.lemmas.List.{nil_from_length}
use Rattle.std.proofs.lemmas.Result.{err_from_is_err_and}
use Rattle.std.specs.Prelude.{IfErr}
use Rattle.std.specs.Vec.Iter.{into_iter_items}
use Rattle.zy_base.specs.declared.ids.Party.TheVariants as parties
use Rattle.zy_base.specs.declared.want.Want.{Want}
use Rattle.zy_world.specs.Ahead.{IsTurn}
use Rattle.zy_world.specs.Answered.{IsBrokenBy}
use Rattle.zy_world.specs.declared.step.Gone.{Gone}
use Rattle.zy_world_law.specs.Events.{Happened}
use Rattle.zy_world_law.specs.World.{mail_at}
use Rattle.zy_world.proofs.ComingBack.{both_ok, client_goes_on, client_there, client_turn, its_turn, replica_goes_on, replica_turn, some_out, turn_is, who}
use Rattle.zy_world.proofs.NextFrames.{bytes_are, mail, mail_there}
use Rattle.zy_world.proofs.world.World.turn.Goals as goal

pub returns-in_ok-gone-in-Some-clause-goes : goal.returns-in_ok-gone-in-Some-clause-goes
returns-in_ok-gone-in-Some-clause-goes g c w due more first is =
    let R = g.M.Machine.rules in
    let old = into_iter_items c.args.out.now in
    let new = into_iter_items c.next.new.self in
    let gone = c.in_ok-gone-in-Some.gone in
    let number = c.in-Replica.number in
    let id = c.in-Replica.id in
    let to = replica_turn number id due (sym c.in-Replica.is ∙ first) in
    let taken : old ≡ Ok gone ∷ new = c.in-Some.ensures.cases.0 ∙ ap (λ (made : Result (Gone g.row.M.Denot g.row.M-State.Denot) Want). made ∷ new) c.in_ok-gone-in-Some.was in
    let x = who R w due more old c.args.self is id to.0 new gone taken in
    let turn = subst (λ n. IsTurn R w n (mail R w due more is.next) id x.0 is.before gone c.args.self) to.1 (its_turn R w due more old c.args.self is id to.0 new gone taken) in
    both_ok _ _ _ c.comes_back.result (c.comes_back.ensures.goes w (mail R w due more is.next) x.0 is.before turn) c.comes_back.ensures.replicas
    (λ r goes seats. replica_goes_on R w due more old c.args.self is id to.0 new gone taken number r.note r.world to.1 goes seats)

pub returns-in_ok-gone-in-Some-clause-broken : goal.returns-in_ok-gone-in-Some-clause-broken
returns-in_ok-gone-in-Some-clause-broken g c w due more first is =
    let R = g.M.Machine.rules in
    let old = into_iter_items c.args.out.now in
    let new = into_iter_items c.next.new.self in
    let gone = c.in_ok-gone-in-Some.gone in
    let number = c.in-Replica.number in
    let id = c.in-Replica.id in
    let to = replica_turn number id due (sym c.in-Replica.is ∙ first) in
    let taken : old ≡ Ok gone ∷ new = c.in-Some.ensures.cases.0 ∙ ap (λ (made : Result (Gone g.row.M.Denot g.row.M-State.Denot) Want). made ∷ new) c.in_ok-gone-in-Some.was in
    let x = who R w due more old c.args.self is id to.0 new gone taken in
    let turn = subst (λ n. IsTurn R w n (mail R w due more is.next) id x.0 is.before gone c.args.self) to.1 (its_turn R w due more old c.args.self is id to.0 new gone taken) in
    subst (λ (h : Happened g.row.M-State.Denot). IfErr c.comes_back.result (IsBrokenBy h))
    (turn_is R w due more old c.args.self is number (mail R w due more is.next).bytes (parties.Replica id) to.0 to.1 (sym (bytes_are R w due more is.next)))
    (c.comes_back.ensures.broken w (mail R w due more is.next) x.0 is.before turn)

pub returns-in_err-gone-in-Some-clause-broken : goal.returns-in_err-gone-in-Some-clause-broken
returns-in_err-gone-in-Some-clause-broken g c w due more first is =
    let p = err_from_is_err_and c.from_residual.result c.from_residual.ensures.1 in
    rw (p.1, p.2) tt

pub returns-in-None-clause-goes : goal.returns-in-None-clause-goes
returns-in-None-clause-goes g c w due more first is =
    let to = replica_turn c.in-Replica.number c.in-Replica.id due (sym c.in-Replica.is ∙ first) in
    absurd (some_out g.M.Machine.rules w due more (into_iter_items c.args.out.now) c.args.self is c.in-Replica.id to.0 (nil_from_length _ (sym c.args.out.now.rest.ok.0 ∙ c.in-None.ensures.cases.0)))

pub returns-in-Client-clause-goes : goal.returns-in-Client-clause-goes
returns-in-Client-clause-goes g c w due more first is =
    let R = g.M.Machine.rules in
    let old = into_iter_items c.args.out.now in
    let number = c.in-Client.number in
    let id = c.in-Client.id in
    let bytes = c.in-Client.bytes in
    let to = client_turn number id bytes due (sym c.in-Client.is ∙ first) in
    let there = subst (λ n. mail_at w n ≡ Some (mail R w due more is.next)) to.1 (mail_there R w due more is.next) in
    both_ok _ _ _ c.client_hears.result
    (c.client_hears.ensures.goes w (mail R w due more is.next) is.before is.shows there (client_there R w due more old c.args.self is id to.0))
    c.client_hears.ensures.replicas
    (λ r goes seats. client_goes_on R w due more old c.args.self is id to.0 number bytes r.note r.world to.1 to.2 goes seats)

pub returns-in-Client-clause-broken : goal.returns-in-Client-clause-broken
returns-in-Client-clause-broken g c w due more first is =
    let R = g.M.Machine.rules in
    let old = into_iter_items c.args.out.now in
    let number = c.in-Client.number in
    let id = c.in-Client.id in
    let bytes = c.in-Client.bytes in
    let to = client_turn number id bytes due (sym c.in-Client.is ∙ first) in
    let there = subst (λ n. mail_at w n ≡ Some (mail R w due more is.next)) to.1 (mail_there R w due more is.next) in
    subst (λ (h : Happened g.row.M-State.Denot). IfErr c.client_hears.result (IsBrokenBy h))
    (turn_is R w due more old c.args.self is number bytes (parties.Client id) to.0 to.1 to.2)
    (c.client_hears.ensures.broken w (mail R w due more is.next) is.before is.shows there (client_there R w due more old c.args.self is id to.0))
