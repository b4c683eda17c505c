use Rattle.std.proofs.Common.{◌≡◌, ◌++◌, ◌∷◌, [], true, false, Option, ap, ap₂, ◌∙◌, subst}
use Rattle.std.specs.Prelude.{nat_eq}
use Rattle.std.specs.List.{list_any}
use Rattle.std.specs.Result.{OnOk}
use Rattle.zy_base.specs.declared.ids.Party.TheVariants as parties
use Rattle.zy_seal.specs.Keys.{Keys}
use Rattle.zy_seal.specs.Sealing.{SealerState}
use Rattle.zy_table.specs.State.{State, start_of}
use Rattle.zy_world_law.specs.Setup.{Setup, sealer_of}
use Rattle.zy_world.proofs.Seating.{among, liar_seated, liar_signs, correct_sits, correct_keeps}
use Rattle.zy_world.proofs.start.seat_replica.Goals as goal

pub returns-then-contains : goal.returns-then-contains
returns-then-contains g c =
    let s = c.args.setup.now in
    let lies = among (λ id. id.0) c.args.id.0 c.setup.inside.liars.items c.deref.result.now s.liars c.contains.result true c.contains.ensures.value c.deref.ensures.value
    (ap (λ (v : Setup). v.liars) c.setup.view_is) c.if-contains.true in
    record {
      seats = subst (λ (seat : Option (State g.row.M-State.Denot)). OnOk c.leave.result (c.leave.new.self.seats.items ≡ c.args.row.now.seats.items ++ seat ∷ []))
          (liar_seated (list_any (nat_eq c.args.id.0) s.liars) _ lies) c.leave.ensures.seats;
      keys = subst (λ (key : Option SealerState). OnOk c.leave.result (c.leave.new.self.keys.items ≡ c.args.row.now.keys.items ++ key ∷ []))
          (liar_signs (list_any (nat_eq c.args.id.0) s.liars) c.beside.result (sealer_of s (parties.Replica c.args.id) 0) lies (c.beside.ensures ∙ c.requires.sealer)) c.leave.ensures.keys;
    }

pub returns : goal.returns
returns g c =
    let R = g.M.Machine.rules in
    let s = c.args.setup.now in
    let id = c.args.id in
    let lies = among (λ id. id.0) id.0 c.setup.inside.liars.items c.deref.result.now s.liars c.contains.result false c.contains.ensures.value c.deref.ensures.value
    (ap (λ (v : Setup). v.liars) c.setup.view_is) c.if-contains.false in
    let starts : c.in_ok-start.field-0 ≡ start_of R s.interval id s.counts c.args.directory.now (sealer_of s (parties.Replica id) 0) =
    c.in_ok-start.ensures
    ∙ ap (λ (v : Setup). start_of R v.interval id v.counts c.in_ok-clone.field-0 c.args.sealer) c.setup.view_is
    ∙ ap₂ (λ (keys : Keys) (sealer : SealerState). start_of R s.interval id s.counts keys sealer) c.in_ok-clone.ensures.cases c.requires.sealer in
    record {
      seats = subst (λ (seat : Option (State g.row.M-State.Denot)). OnOk c.seat.result (c.seat.new.self.seats.items ≡ c.args.row.now.seats.items ++ seat ∷ []))
          (correct_sits (list_any (nat_eq id.0) s.liars) c.in_ok-start.field-0 _ lies starts) c.seat.ensures.seats;
      keys = subst (λ (key : Option SealerState). OnOk c.seat.result (c.seat.new.self.keys.items ≡ c.args.row.now.keys.items ++ key ∷ []))
          (correct_keeps (list_any (nat_eq id.0) s.liars) _ lies) c.seat.ensures.keys;
    }
