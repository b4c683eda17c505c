use Rattle.std.proofs.Common.{rules, ◌≡◌, List, [], ◌∷◌, ap, ◌∙◌, subst}
use Rattle.std.proofs.lemmas.List.{nil_from_length}
use Rattle.zy_slots.specs.Cells.{Cells}
use Rattle.zy_guard.specs.declared.values.Owned.{Owned}
use Rattle.zy_guard.specs.declared.changes.Change.{Change}
use Rattle.zy_guard.specs.declared.changes.Change.TheVariants.{Same, Put, Took}
use Rattle.zy_guard.specs.Changes.{IsSound}
use Rattle.zy_guard.proofs.ChangeLemmas.{no_trail, some_kept, forget_took, forget_other, stays-same, stays-put}
use Rattle.zy_guard.proofs.changes.forget_oldest.Goals as goal

-- the change that was popped is the oldest of the sound changes
sound_with : (cells : Cells Owned) (all rest : List Change) (oldest change : Change) → all ≡ change ∷ rest → change ≡ oldest → IsSound cells all → IsSound cells (oldest ∷ rest)
sound_with cells all rest oldest change popped is sound = subst (IsSound cells) (popped ∙ ap (λ (c : Change). c ∷ rest) is) sound

pub forget-requires : goal.forget-requires
forget-requires c =
    some_kept c.args.slots.now c.pop_front.new.self.items (sound_with c.args.slots.now _ _ Took c.in-Some-Took.field-0 c.in-Some-Took.ensures.items c.in-Some-Took.field-0-is c.requires.sound)

pub returns-in-Some-Took-clause-sound : goal.returns-in-Some-Took-clause-sound
returns-in-Some-Took-clause-sound c =
    (forget_took c.args.slots.now c.forget.new.self c.pop_front.new.self.items (sound_with c.args.slots.now _ _ Took c.in-Some-Took.field-0 c.in-Some-Took.ensures.items c.in-Some-Took.field-0-is c.requires.sound) c.forget.ensures.taken).sound

pub returns-in-Some-Took-clause-live : goal.returns-in-Some-Took-clause-live
returns-in-Some-Took-clause-live c =
    (forget_took c.args.slots.now c.forget.new.self c.pop_front.new.self.items (sound_with c.args.slots.now _ _ Took c.in-Some-Took.field-0 c.in-Some-Took.ensures.items c.in-Some-Took.field-0-is c.requires.sound) c.forget.ensures.taken).live

pub returns-in-Some-Took-clause-trail : goal.returns-in-Some-Took-clause-trail
returns-in-Some-Took-clause-trail c =
    rw (c.in-Some-Took.ensures.items, c.in-Some-Took.field-0-is) ((forget_took c.args.slots.now c.forget.new.self c.pop_front.new.self.items (sound_with c.args.slots.now _ _ Took c.in-Some-Took.field-0 c.in-Some-Took.ensures.items c.in-Some-Took.field-0-is c.requires.sound) c.forget.ensures.taken).trail)

pub returns-in-Some-Same-clause-sound : goal.returns-in-Some-Same-clause-sound
returns-in-Some-Same-clause-sound c =
    (forget_other c.args.slots.now c.pop_front.new.self.items Same stays-same (sound_with c.args.slots.now _ _ Same c.in-Some-Same.field-0 c.in-Some-Same.ensures.items c.in-Some-Same.field-0-is c.requires.sound)).sound

pub returns-in-Some-Same-clause-trail : goal.returns-in-Some-Same-clause-trail
returns-in-Some-Same-clause-trail c =
    rw (c.in-Some-Same.ensures.items, c.in-Some-Same.field-0-is) ((forget_other c.args.slots.now c.pop_front.new.self.items Same stays-same (sound_with c.args.slots.now _ _ Same c.in-Some-Same.field-0 c.in-Some-Same.ensures.items c.in-Some-Same.field-0-is c.requires.sound)).trail)

pub returns-in-Some-Put-clause-sound : goal.returns-in-Some-Put-clause-sound
returns-in-Some-Put-clause-sound c =
    (forget_other c.args.slots.now c.pop_front.new.self.items Put stays-put (sound_with c.args.slots.now _ _ Put c.in-Some-Put.field-0 c.in-Some-Put.ensures.items c.in-Some-Put.field-0-is c.requires.sound)).sound

pub returns-in-Some-Put-clause-trail : goal.returns-in-Some-Put-clause-trail
returns-in-Some-Put-clause-trail c =
    rw (c.in-Some-Put.ensures.items, c.in-Some-Put.field-0-is) ((forget_other c.args.slots.now c.pop_front.new.self.items Put stays-put (sound_with c.args.slots.now _ _ Put c.in-Some-Put.field-0 c.in-Some-Put.ensures.items c.in-Some-Put.field-0-is c.requires.sound)).trail)

pub returns-in-None-clause-trail : goal.returns-in-None-clause-trail
returns-in-None-clause-trail c =
    let none : c.args.changes.now.items ≡ [] = nil_from_length _ (search rules) in
    absurd (no_trail c.args.slots.now c.args.changes.now.items none c.requires.some)
