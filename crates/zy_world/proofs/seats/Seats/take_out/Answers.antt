use Rattle.std.proofs.Common.{◌≡◌, ◌∷◌, ◌++◌, [], List, length, map, rules, sym, ap, ◌∙◌, subst, refl, append_assoc, append-nil, arith}
use Rattle.std.proofs.lemmas.List.{nil_from_length}
use Rattle.zy_world.proofs.OutOfSeats.{IsTaking, taking_all, taking_more, taking_none}
use Rattle.zy_world.specs.Ahead.{IsJob, turn_of}
use Rattle.zy_world.specs.declared.batch.Due.{Due}
use Rattle.zy_world.specs.declared.batch.Turn.{Turn}
use Rattle.zy_world.proofs.seats.Seats.take_out.Goals as goal

pub loop-due-init : goal.loop-due-init
loop-due-init g c =
    let all = c.into_iter-due-iterator.ensures.into_iter_gives in
    record {
      long = search rules;
      taking = λ left apart. rw (all.0, c.new-jobs.ensures.items) (taking_none IsJob c.args.dues.items c.args.self.now.replicas left apart);
      turns = rw (all.0, c.new-turns.ensures.items) refl;
      clients = refl;
    }

pub loop-due-preserved : goal.loop-due-preserved
loop-due-preserved g c =
    let held = c.loop-due.invariant in
    let steps = c.in-Some.ensures.steps in
    let due = c.in-Some.due in
    let rest = c.next.new.self.rest.items in
    record {
      long = omega (arith, ap length steps.0, steps.1, held.long);
      taking = λ left apart.
          taking_more IsJob c.args.dues.items c.args.self.now.replicas left due rest c.loop-due.self.replicas c.take_for.new.self.replicas c.loop-due.jobs.items c.take_for.new.jobs.items
          (subst (λ (l : List Due). IsTaking IsJob c.args.dues.items c.args.self.now.replicas left l c.loop-due.self.replicas c.loop-due.jobs.items) steps.0 (held.taking left apart))
          c.in_ok-take_for.ensures.taken;
      turns =
          ap (λ (l : List Turn). l ++ map turn_of rest) c.in_ok-push.ensures.items
          ∙ append_assoc c.loop-due.turns.items (c.in_ok-take_for.field-0 ∷ []) (map turn_of rest)
          ∙ ap (λ (turn : Turn). c.loop-due.turns.items ++ turn ∷ map turn_of rest) c.in_ok-take_for.ensures.turn
          ∙ ap (λ (l : List Due). c.loop-due.turns.items ++ map turn_of l) (sym steps.0)
          ∙ held.turns;
      clients = c.take_for.ensures.clients ∙ held.clients;
    }

pub returns-clause-out : goal.returns-clause-out
returns-clause-out g c left apart =
    let none : c.loop-due.due-iterator.rest.items ≡ [] = nil_from_length _ (c.loop-due.invariant.long ∙ c.in-None.ensures.steps.0) in
    taking_all IsJob c.args.dues.items c.args.self.now.replicas left c.loop-due.self.replicas c.loop-due.jobs.items
    (subst (λ (l : List Due). IsTaking IsJob c.args.dues.items c.args.self.now.replicas left l c.loop-due.self.replicas c.loop-due.jobs.items) none (c.loop-due.invariant.taking left apart))

pub returns-clause-turns : goal.returns-clause-turns
returns-clause-turns g c =
    let none : c.loop-due.due-iterator.rest.items ≡ [] = nil_from_length _ (c.loop-due.invariant.long ∙ c.in-None.ensures.steps.0) in
    sym (append-nil c.loop-due.turns.items) ∙ ap (λ (l : List Due). c.loop-due.turns.items ++ map turn_of l) (sym none) ∙ c.loop-due.invariant.turns
