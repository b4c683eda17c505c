use Rattle.std.proofs.Common.{◌≡◌, Err, sym, subst}
use Rattle.std.specs.Prelude.{IfOk}
use Rattle.zy_seal.specs.declared.sealer.SealFault.TheVariants.{KeySpent}
use Rattle.zy_world.specs.Answered.{GoesTo}
use Rattle.zy_world.specs.Shown.{Shown}
use Rattle.zy_world.specs.Shows.{Shows}
use Rattle.zy_world_law.specs.Events.{Happened, spent}
use Rattle.zy_world.proofs.Lies.{lied, lied_too_long, same_keys, shown_key, shows_lied, unlied}
use Rattle.zy_world.proofs.world.World.lies.Goals as goal

pub returns-in-Ok-Some : goal.returns-in-Ok-Some
returns-in-Ok-Some g c w s can =
    let i = subst (λ (v : Shown g.row.M-State.Denot). Shows w v) (sym c.self.view_is) s in
    let signed = rw c.in-Ok-Some.field-0-is at (c.in-Ok-Some.ensures.told _ (shown_key w _ i c.args.liar c.args.to.now can)) in
    subst (λ (h : Happened g.row.M-State.Denot). IfOk c.sends.result (λ r. GoesTo h r.note r.world))
    (sym (lied w _ i c.args.liar c.args.to.now can c.args.tale c.sign.new.self c.in-Ok-Some.bytes signed))
    (c.sends.ensures (spent w c.args.liar) (shows_lied w _ i c.args.liar c.args.to.now can c.args.tale c.sign.new.self c.in-Ok-Some.bytes signed))

pub returns-in-Ok-None : goal.returns-in-Ok-None
returns-in-Ok-None g c w s can =
    let i = subst (λ (v : Shown g.row.M-State.Denot). Shows w v) (sym c.self.view_is) s in
    let long = rw c.in-Ok-None.field-0-is at (c.in-Ok-None.ensures.told _ (shown_key w _ i c.args.liar c.args.to.now can)) in
    subst (λ (h : Happened g.row.M-State.Denot). GoesTo h c.no_subject.result.note c.no_subject.result.world)
    (sym (lied_too_long w _ i c.args.liar c.args.to.now can c.args.tale c.sign.new.self long.0))
    (c.no_subject.ensures.goes w (λ xs. xs) (same_keys w _ i c.sign.new.self long.1))

pub returns-in-Err-KeySpent : goal.returns-in-Err-KeySpent
returns-in-Err-KeySpent g c w s can =
    let i = subst (λ (v : Shown g.row.M-State.Denot). Shows w v) (sym c.self.view_is) s in
    let err : c.sign.result ≡ Err KeySpent = cc in
    let untold = c.sign.ensures.spent _ (shown_key w _ i c.args.liar c.args.to.now can) err in
    rw (c.noted.ensures.world, c.noted.ensures.note)
    (record {
      world = w;
      goes = unlied w _ i c.args.liar c.args.to.now can c.args.tale c.sign.new.self c.requires untold;
      shows = same_keys w _ i c.sign.new.self untold.same;
    })
