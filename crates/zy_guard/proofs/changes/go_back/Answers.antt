use Rattle.std.proofs.Common.{rules, ◌≡◌, [], subst, arith}
use Rattle.std.proofs.lemmas.List.{nil_from_length}
use Rattle.zy_guard.specs.Changes.{values_of, IsSound}
use Rattle.zy_guard.specs.SpaceLaws.{state_few}
use Rattle.zy_guard.proofs.ChangeLemmas.{length-values, no_trail, back_sound, back_trail}
use Rattle.zy_guard.proofs.changes.go_back.Goals as goal

pub undo_change-requires-clause-can : goal.undo_change-requires-clause-can
undo_change-requires-clause-can c =
    (back_sound c.args.slots.now c.pop_back.new.self.items c.in-Some.change (subst (IsSound c.args.slots.now) c.in-Some.ensures.items c.requires.sound)).0

pub undo_change-requires-clause-fits : goal.undo_change-requires-clause-fits
undo_change-requires-clause-fits c =
    omega (arith, state_few (values_of c.args.slots.now.live) c.requires.sound.state, length-values c.args.slots.now.live, c.requires.live)

pub returns-in-Some-clause-sound : goal.returns-in-Some-clause-sound
returns-in-Some-clause-sound c =
    rw c.undo_change.ensures.slots ((back_sound c.args.slots.now c.pop_back.new.self.items c.in-Some.change (subst (IsSound c.args.slots.now) c.in-Some.ensures.items c.requires.sound)).1)

pub returns-in-Some-clause-back : goal.returns-in-Some-clause-back
returns-in-Some-clause-back c =
    rw (c.undo_change.ensures.slots, c.in-Some.ensures.items) (back_trail c.args.slots.now c.pop_back.new.self.items c.in-Some.change)

pub returns-in-None-clause-back : goal.returns-in-None-clause-back
returns-in-None-clause-back c =
    let none : c.args.changes.now.items ≡ [] = nil_from_length _ (search rules) in
    absurd (no_trail c.args.slots.now c.args.changes.now.items none c.requires.some)
