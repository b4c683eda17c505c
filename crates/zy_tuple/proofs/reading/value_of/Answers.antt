use Rattle.std.proofs.Common.{◌≡◌, ◌+◌, get_or, take, sym, ap, subst, ◌∙◌, arith}
use Rattle.std.specs.Str.Parse.{AllDigits, digits_value}
use Rattle.std.proofs.lemmas.Int.Digits.{digits_more, digits_value_more}
use Rattle.std.proofs.lemmas.Str.Parse.{digits_value-take-le}
use Rattle.std.proofs.lemmas.List.{take_all}
use Rattle.zy_tuple.proofs.Numerals.{no_digit, digit_is, own}
use Rattle.zy_tuple.proofs.reading.value_of.Goals as goal

pub returns-then-not-is_ascii_digit : goal.returns-then-not-is_ascii_digit
returns-then-not-is_ascii_digit c = λ h.
    let none = no_digit c.args.digits.now c.loop-digit.digit-index c.loop-digit-test.true (sym c.if-not-is_ascii_digit.ensures.value) in
    let all = h.0 in
    cc

pub returns-in_err-checked_mul : goal.returns-in_err-checked_mul
returns-in_err-checked_mul c = rw c.from_residual.ensures (λ h.
    omega (arith, c.loop-digit.invariant.value, digits_value_more 10 c.args.digits.now c.loop-digit.digit-index c.loop-digit-test.true, digits_value-take-le 10 c.args.digits.now (c.loop-digit.digit-index + 1) (omega arith), c.in_err-checked_mul.ensures, h.1))

pub returns-in_err-value : goal.returns-in_err-value
returns-in_err-value c = rw c.from_residual-in_err-value.ensures (λ h.
    let digit = digit_is (get_or c.args.digits.now c.loop-digit.digit-index 0) (sym c.if-not-is_ascii_digit.ensures.value) in
    omega (arith, digit.0, c.from.ensures, c.in_ok-checked_mul.ensures, c.loop-digit.invariant.value, digits_value_more 10 c.args.digits.now c.loop-digit.digit-index c.loop-digit-test.true, digits_value-take-le 10 c.args.digits.now (c.loop-digit.digit-index + 1) (omega arith), c.in_err-value.ensures, h.1))

pub loop-digit-preserved : goal.loop-digit-preserved
loop-digit-preserved c =
    let digit = digit_is (get_or c.args.digits.now c.loop-digit.digit-index 0) (sym c.if-not-is_ascii_digit.ensures.value) in
    record {
      digits = digits_more 10 c.args.digits.now c.loop-digit.digit-index c.loop-digit-test.true c.loop-digit.invariant.digits digit.1;
      below = omega (arith, c.in_ok-value.ensures);
      value = omega (arith, digit.0, c.from.ensures, c.in_ok-checked_mul.ensures, c.in_ok-value.ensures, c.loop-digit.invariant.value, digits_value_more 10 c.args.digits.now c.loop-digit.digit-index c.loop-digit-test.true);
    }

pub returns : goal.returns
returns c =
    let whole : take c.loop-digit.digit-index c.args.digits.now ≡ c.args.digits.now = take_all c.loop-digit.digit-index c.args.digits.now c.loop-digit-test.false in
    let value = c.loop-digit.invariant.value ∙ ap (digits_value 10) whole in
    let all = own.from c.args.digits.now (subst (AllDigits 10) whole c.loop-digit.invariant.digits) in
    ((all, omega (arith, value, c.loop-digit.invariant.below)), value)
