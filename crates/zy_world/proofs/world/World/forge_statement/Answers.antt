use Rattle.std.proofs.Common.{◌≡◌, Option, Some, None, sym, ap, ◌∙◌, subst}
use Rattle.std.specs.Prelude.{IfOk, option_map}
use Rattle.zy_world_setup.specs.Telling.{telling_of}
use Rattle.zy_world.specs.Answered.{GoesTo}
use Rattle.zy_world_law.specs.Events.{Happened, forge}
use Rattle.zy_world_law.specs.Liars.{Telling, if_short, statement_told}
use Rattle.zy_world.proofs.world.World.forge_statement.Goals as goal

pub returns-in-Some : goal.returns-in-Some
returns-in-Some g c w s =
    let told : Some (telling_of c.in-Some.statement) ≡ statement_told c.args.bytes.now =
    ap (option_map telling_of) (sym c.in-Some.is) ∙ c.in_ok-statement.ensures.value ∙ ap statement_told c.as_slice.ensures.value in
    subst (λ (h : Happened g.row.M-State.Denot). IfOk c.forge.result (λ r. GoesTo h r.note r.world)) (ap (λ (t : Option Telling). forge w c.args.party c.args.to.now (if_short w.setup c.args.party t)) told) (c.forge.ensures w s)

pub returns-in-None : goal.returns-in-None
returns-in-None g c w s =
    let told : None ≡ statement_told c.args.bytes.now =
    ap (option_map telling_of) (sym c.in-None.is) ∙ c.in_ok-statement.ensures.value ∙ ap statement_told c.as_slice.ensures.value in
    subst (λ (h : Happened g.row.M-State.Denot). GoesTo h c.no_subject.result.note c.no_subject.result.world) (ap (λ (t : Option Telling). forge w c.args.party c.args.to.now (if_short w.setup c.args.party t)) told) (c.no_subject.ensures.goes w (λ xs. xs) s)
