use Rattle.std.proofs.Common.{◌≡◌, ◌∙◌, ◌++◌, ◌∷◌, length, length-append, sym, ap, arith}
use Rattle.zy_space.specs.TupleSpace.{oldest, without_oldest, found}
use Rattle.zy_space.specs.Timeline.{Timeline, onward}
use Rattle.zy_space.specs.Changes.{tuples_of, trail_of}
use Rattle.zy_space.proofs.SearchLemmas.{oldest_given, given_is_tuple}
use Rattle.zy_space.proofs.ChangeLemmas.{length-tuples, onward_from}
use Rattle.zy_space.proofs.space.Space.take.Goals as goal

pub invariant_of-self-in-Some : goal.invariant_of-self-in-Some
invariant_of-self-in-Some c =
    let at = c.in-Some.ensures.found in
    let step = c.in_ok-take_out-in-Some.ensures.ok at.earlier at.cell at.later (record { split = at.split; named = at.named }) in
    record {
      sound = step.sound;
      counted = omega (
        arith,
        ap length step.tuples_now,
        length-tuples c.take_out.new.slots.live,
        length-tuples (at.earlier ++ at.later),
        length-append at.earlier at.later,
        ap length at.split,
        length-append at.earlier (at.cell ∷ at.later),
        c.self.invariant.counted,
      );
    }

pub returns-in_ok-take_out-in-Some-clause-reply : goal.returns-in_ok-take_out-in-Some-clause-reply
returns-in_ok-take_out-in-Some-clause-reply c =
    oldest_given c.args.template.now c.self.inside.slots c.in-Some.id.0 c.in_ok-tuple-in-Some.tuple c.in-Some.ensures.found c.in_ok-tuple-in-Some.ensures
    ∙ ap (λ (t : Timeline). found (oldest c.args.template.now t.tuples)) c.self.view_is

pub returns-in_ok-take_out-in-Some-clause-after : goal.returns-in_ok-take_out-in-Some-clause-after
returns-in_ok-take_out-in-Some-clause-after c =
    let at = c.in-Some.ensures.found in
    let step = c.in_ok-take_out-in-Some.ensures.ok at.earlier at.cell at.later (record { split = at.split; named = at.named }) in
    onward_from c.self.inside.slots c.take_out.new.slots c.self.inside.changes.items c.take_out.new.changes.items (tuples_of (at.earlier ++ at.later)) step
    ∙ ap (onward (record { tuples = tuples_of c.self.inside.slots.live; trail = trail_of c.self.inside.slots c.self.inside.changes.items })) (sym at.others)
    ∙ ap (λ (t : Timeline). onward t (without_oldest c.args.template.now t.tuples)) c.self.view_is

pub returns-in_ok-take_out-in-Some-clause-is_reply : goal.returns-in_ok-take_out-in-Some-clause-is_reply
returns-in_ok-take_out-in-Some-clause-is_reply c =
    given_is_tuple c.args.template.now c.self.inside.slots c.in-Some.id.0 c.in_ok-tuple-in-Some.tuple c.self.invariant.sound.tuples c.in-Some.ensures.found c.in_ok-tuple-in-Some.ensures
