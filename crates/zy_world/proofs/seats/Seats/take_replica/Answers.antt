use Rattle.std.proofs.Common.{◌≡◌, Option, Some, None, refl, sym, ap, ◌∙◌}
use Rattle.std.specs.Prelude.{slice_get, slice_set}
use Rattle.std.proofs.lemmas.Option.{same_Some}
use Rattle.zy_world.specs.Shown.{Seated}
use Rattle.zy_world_law.specs.World.{correct_in}
use Rattle.zy_table.specs.State.{State}
use Rattle.zy_world.proofs.seats.Seats.take_replica.Goals as goal
use Rattle.zy_world.proofs.seats.Seats.take_replica.Goals.{in-Some+in_ok-push-in-Some, in-None}

pub returns-clause-taken : goal.returns-clause-taken
returns-clause-taken g c =
    let sits : (s : State g.row.M-State.Denot) → slice_get c.args.self.now.replicas c.args.id.0 ≡ Some (Some s) → c.take_from.result ≡ Some s =
    λ s there. c.take_from.ensures.taken ∙ ap (λ (v : Seated g.row.M-State.Denot). correct_in (slice_get v.replicas c.args.id.0)) c.self.view_is
    ∙ ap (λ (o : Option (Option (State g.row.M-State.Denot))). correct_in o) there in
    elim c.match-take_from.branch [
      | in-Some+in_ok-push-in-Some w ↦
          rw (w.result-is, w.jobs-is)
          (λ s there. (
            c.take_from.ensures.left ∙ ap (λ (v : Seated g.row.M-State.Denot). slice_set v.replicas c.args.id.0 None) c.self.view_is,
            (_, record { replica = same_Some w.in-Some.replica s (sym w.in-Some.is ∙ sits s there); bytes = refl }, w.in_ok-push-in-Some.ensures.items),
          ))
      | in-None w ↦ rw w.result-is (λ s there. let none : None ≡ Some s = sym w.in-None.is ∙ sits s there in absurd cc)
    ]
