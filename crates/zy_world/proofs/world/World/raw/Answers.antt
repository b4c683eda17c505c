use Rattle.std.proofs.Common.{Bool, sym, ap, ◌∙◌, subst}
use Rattle.std.specs.Prelude.{IfOk, if◌then◌else◌}
use Rattle.zy_table.specs.Sending.{copies}
use Rattle.zy_world.specs.Answered.{GoesTo}
use Rattle.zy_world_law.specs.Events.{Happened, no_subject}
use Rattle.zy_world_law.specs.Events.Happened.{Goes}
use Rattle.zy_world_law.specs.World.{with_sent}
use Rattle.zy_world_law.specs.declared.note.Note.TheVariants.{Quiet}
use Rattle.zy_world.proofs.world.World.raw.Goals as goal

pub returns-then-are_parties : goal.returns-then-are_parties
returns-then-are_parties g c w s =
    subst (λ (h : Happened g.row.M-State.Denot). IfOk c.sends.result (λ r. GoesTo h r.note r.world))
    (sym (ap (λ (b : Bool). if b then Goes (with_sent w (copies c.args.bytes.now c.args.to.now)) Quiet else no_subject w) (sym (c.are_parties.ensures w s) ∙ c.if-are_parties.true)))
    (c.sends.ensures w s)

pub returns-else-are_parties : goal.returns-else-are_parties
returns-else-are_parties g c w s =
    subst (λ (h : Happened g.row.M-State.Denot). GoesTo h c.no_subject.result.note c.no_subject.result.world)
    (sym (ap (λ (b : Bool). if b then Goes (with_sent w (copies c.args.bytes.now c.args.to.now)) Quiet else no_subject w) (sym (c.are_parties.ensures w s) ∙ c.if-are_parties.false)))
    (c.no_subject.ensures.goes w (λ xs. xs) s)
