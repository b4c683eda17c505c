use Rattle.std.proofs.Common.{arith}
use Rattle.std.specs.Str.Parse.{digits_value}
use Rattle.zy_guard.proofs.SetLaws.{number_front, number_back, risen_next, risen_last, risen_fails, risen_full, no_number, out_of_range}
use Rattle.zy_guard.proofs.sets.rising.Goals as goal

pub returns-in_err-client : goal.returns-in_err-client
returns-in_err-client c =
    rw c.from_residual.ensures
    (risen_fails c.args.text.now c.loop-step.step c.loop-step.set c.loop-step.least c.loop-step.rest.now c.split_at.result.0.now c.loop-step.invariant
    (number_front c.loop-step.rest.now c.split_at.result.0.now c.comma_at.result c.comma_at.ensures c.split_at.ensures.front)
    (no_number c.loop-step.least c.split_at.result.0.now (λ numeral low high. c.in_err-client.ensures (numeral, omega (arith, high)))))

pub returns-then-client-least : goal.returns-then-client-least
returns-then-client-least c =
    risen_fails c.args.text.now c.loop-step.step c.loop-step.set c.loop-step.least c.loop-step.rest.now c.split_at.result.0.now c.loop-step.invariant
    (number_front c.loop-step.rest.now c.split_at.result.0.now c.comma_at.result c.comma_at.ensures c.split_at.ensures.front)
    (no_number c.loop-step.least c.split_at.result.0.now (λ numeral low high. out_of_range c.in_ok-client.client c.loop-step.least (digits_value 10 c.split_at.result.0.now) c.then-client-least.either c.in_ok-client.ensures.1 low high))

pub returns-in-empty : goal.returns-in-empty
returns-in-empty c = risen_last c.args.text.now c.loop-step.step c.loop-step.set c.loop-step.least c.loop-step.rest.now c.split_at.result.0.now c.split_at.result.1.now c.in_ok-client.client c.loop-step.invariant
    (number_front c.loop-step.rest.now c.split_at.result.0.now c.comma_at.result c.comma_at.ensures c.split_at.ensures.front)
    (number_back c.loop-step.rest.now c.split_at.result.1.now c.comma_at.result c.comma_at.ensures c.split_at.ensures.back)
    c.in_ok-client.ensures.0.0 c.in_ok-client.ensures.1 c.if-client-least.false c.if-client-ge-CLIENTS.false c.in-empty.len_below

pub loop-step-preserved : goal.loop-step-preserved
loop-step-preserved c = risen_next c.args.text.now c.loop-step.step c.loop-step.set c.loop-step.least c.loop-step.rest.now c.split_at.result.0.now c.split_at.result.1.now c.in_ok-client.client c.loop-step.invariant
    (number_front c.loop-step.rest.now c.split_at.result.0.now c.comma_at.result c.comma_at.ensures c.split_at.ensures.front)
    (number_back c.loop-step.rest.now c.split_at.result.1.now c.comma_at.result c.comma_at.ensures c.split_at.ensures.back)
    c.in_ok-client.ensures.0.0 c.in_ok-client.ensures.1 c.if-client-least.false c.if-client-ge-CLIENTS.false c.in-len1-up.len_at_least

pub returns : goal.returns
returns c = risen_full c.args.text.now c.loop-step.step c.loop-step.set c.loop-step.least c.loop-step.rest.now c.loop-step.invariant c.loop-step-test.false
