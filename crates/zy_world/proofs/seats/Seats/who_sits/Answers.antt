use Rattle.std.proofs.Common.{◌≡◌, ◌++◌, ◌∷◌, [], List, Bool, Option, get_or, length, ap, ap₂, sym, ◌∙◌, arith}
use Rattle.std.proofs.lemmas.List.{map_more}
use Rattle.zy_world_law.specs.World.{is_told}
use Rattle.zy_table.specs.State.{State}
use Rattle.zy_world.specs.Shown.{Seated}
use Rattle.zy_world.proofs.seats.Seats.who_sits.Goals as goal

pub loop-seat-preserved : goal.loop-seat-preserved
loop-seat-preserved g c =
    let same : c.deref-seat-items.result.now ≡ c.args.self.now.replicas =
    c.deref-seat-items.ensures.value ∙ ap (λ (s : Seated g.row.M-State.Denot). s.replicas) c.self.view_is in
    let i = c.loop-seat.seat-index in
    c.in_ok-push.ensures.items
    ∙ ap₂ (λ (l : List Bool) (b : Bool). l ++ b ∷ []) c.loop-seat.invariant
    (c.is_there.ensures ∙ ap is_told c.seat-item.is ∙ ap (λ (l : List (Option (State g.row.M-State.Denot))). is_told (get_or l i c.seat-item.result)) same)
    ∙ sym (map_more is_told c.args.self.now.replicas i c.seat-item.result (omega (arith, c.loop-seat-test.true, ap length same)))
