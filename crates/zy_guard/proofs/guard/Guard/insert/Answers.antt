use Rattle.std.proofs.Common.{◌≡◌, true, ltb, sym, ◌∙◌, arith}
use Rattle.std.proofs.lemmas.Bool.{ltb-true}
use Rattle.zy_guard.specs.Changes.{values_of}
use Rattle.zy_guard.specs.GuardedSpace.{owned_of, owned_by}
use Rattle.zy_guard.specs.SpaceLaws.{added_state, state_few}
use Rattle.zy_guard.proofs.ChangeLemmas.{length-values}
use Rattle.zy_guard.proofs.guard.Guard.insert.Goals as goal

pub put-requires-clause-state : goal.put-requires-clause-state
put-requires-clause-state c =
    let state = values_of c.self.inside.slots.live in
    let room : ltb (owned_by c.args.client.0 state) 64 ≡ true = sym c.owns_fewer.ensures ∙ c.if-not-owns_fewer.false in
    rw c.in_ok-clone.ensures.cases (added_state (owned_of c.args.client.0 c.args.access c.args.tuple.now) state c.requires (ltb-true (owned_by c.args.client.0 state) 64 room) c.self.invariant.sound.state)

pub overflow_add-self : goal.overflow_add-self
overflow_add-self c = omega (arith, state_few (values_of c.self.inside.slots.live) c.self.invariant.sound.state, length-values c.self.inside.slots.live, c.self.invariant.counted)
