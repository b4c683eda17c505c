-- What is kept was judged to be new, and leaves the stable checkpoint as it is.
use Rattle.std.proofs.Common.{◌≡◌, ℕ, ◌*◌, nat_eq, Bool, true, false, cond, List, Option, Some, None, refl, ◌∙◌}
use Rattle.std.proofs.lemmas.Bool.{cond_both}
use Rattle.zy_base.specs.declared.cause.Cause.{Cause}
use Rattle.zy_base.specs.declared.cause.Cause.TheVariants as causes
use Rattle.zy_base.specs.declared.ids.Party.{Party}
use Rattle.zy_parts.specs.declared.signed.Signed.{Signed}
use Rattle.zy_parts.specs.declared.statements.Spec.{Spec}
use Rattle.zy_parts.specs.declared.statements.Check.{Check}
use Rattle.zy_cert.specs.Signers.{has_signer}
use Rattle.zy_check.specs.declared.kept.Kept.{Kept}
use Rattle.zy_check.specs.Board.{Board, Round, height, with_round, put_spec, put_check, specs_at, checks_at, with_spec, with_check, only_spec, only_check, without_other_specs, without_other_checks, without_others, IsBoard, Stays}
use Rattle.zy_check.specs.Judging.{place_cause, first_cause, answered, beside_spec, beside_check, judge_spec, judge_check, is_refused, after_spec, after_check}
use Rattle.zy_check.proofs.BoardLemmas.{with_spec-is, with_check-is}

repeated : (found : Bool) (other : Kept) → is_refused (answered (cond found (Some causes.Repeat) None) other) ≡ false → found ≡ false
repeated true other kept = absurd cc
repeated false other kept = refl

new_of : {S : Type 0} (cause : Option Cause) (by : Party) (list : List (Signed S)) (other : Kept) → is_refused (answered (first_cause cause by list) other) ≡ false → has_signer by list ≡ false
new_of (Some cause) by list other kept = absurd cc
new_of None by list other kept = repeated (has_signer by list) other kept

pub spec-new : (b : Board) (vote : Signed Spec) (own : Option Spec) → is_refused (judge_spec b vote own) ≡ false → has_signer vote.by (specs_at b vote.stmt.place.0) ≡ false
unfolding judge_spec
spec-new b vote own kept = let list = specs_at b vote.stmt.place.0 in new_of (place_cause b vote.stmt.place.0) vote.by list (beside_spec list vote own) kept

pub check-new : (b : Board) (vote : Signed Check) (own : Option Check) → is_refused (judge_check b vote own) ≡ false → has_signer vote.by (checks_at b vote.stmt.place.0) ≡ false
unfolding judge_check
check-new b vote own kept = let list = checks_at b vote.stmt.place.0 in new_of (place_cause b vote.stmt.place.0) vote.by list (beside_check list vote own) kept

pub after_spec-is : (b : Board) (vote : Signed Spec) (own : Option Spec) → IsBoard b → IsBoard (after_spec b vote own)
after_spec-is b vote own is =
    cond_both (is_refused (judge_spec b vote own)) b (with_spec b vote) IsBoard (λ refused. is) (λ kept. with_spec-is b vote is (spec-new b vote own kept))

pub after_check-is : (b : Board) (vote : Signed Check) (own : Option Check) → IsBoard b → IsBoard (after_check b vote own)
after_check-is b vote own is =
    cond_both (is_refused (judge_check b vote own)) b (with_check b vote) IsBoard (λ refused. is) (λ kept. with_check-is b vote is (check-new b vote own kept))

-- ---- the interval and the stable checkpoint stay

stays_by : (one two : Bool) (b : Board) (near far : Round) → Stays b (cond one (record b { near = near }) (cond two (record b { far = far }) b))
stays_by true two b near far = record { interval = refl; stable = refl; proof = refl }
stays_by false true b near far = record { interval = refl; stable = refl; proof = refl }
stays_by false false b near far = record { interval = refl; stable = refl; proof = refl }

with_round-stays : (b : Board) (place : ℕ) (change : Round → Round) → Stays b (with_round b place change)
with_round-stays b place change = stays_by (nat_eq (height b place) b.interval) (nat_eq (height b place) (2 * b.interval)) b (change b.near) (change b.far)

with_spec-stays : (b : Board) (vote : Signed Spec) → Stays b (with_spec b vote)
unfolding with_spec
with_spec-stays b vote = with_round-stays b vote.stmt.place.0 (put_spec vote)

with_check-stays : (b : Board) (vote : Signed Check) → Stays b (with_check b vote)
unfolding with_check
with_check-stays b vote = with_round-stays b vote.stmt.place.0 (put_check vote)

pub after_spec-stays : (b : Board) (vote : Signed Spec) (own : Option Spec) → Stays b (after_spec b vote own)
after_spec-stays b vote own =
    cond_both (is_refused (judge_spec b vote own)) b (with_spec b vote) (Stays b) (λ refused. record { interval = refl; stable = refl; proof = refl }) (λ kept. with_spec-stays b vote)

pub after_check-stays : (b : Board) (vote : Signed Check) (own : Option Check) → Stays b (after_check b vote own)
after_check-stays b vote own =
    cond_both (is_refused (judge_check b vote own)) b (with_check b vote) (Stays b) (λ refused. record { interval = refl; stable = refl; proof = refl }) (λ kept. with_check-stays b vote)

specs-stay : (b : Board) (spec : Spec) → Stays b (without_other_specs b spec)
unfolding without_other_specs
specs-stay b spec = with_round-stays b spec.place.0 (only_spec spec)

checks-stay : (b : Board) (check : Check) → Stays b (without_other_checks b check)
unfolding without_other_checks
checks-stay b check = with_round-stays b check.place.0 (only_check check)

pub without_others-stays : (b : Board) (spec : Spec) (check : Check) → Stays b (without_others b spec check)
without_others-stays b spec check =
    let one = specs-stay b spec in
    let two = checks-stay (without_other_specs b spec) check in
    record { interval = two.interval ∙ one.interval; stable = two.stable ∙ one.stable; proof = two.proof ∙ one.proof }
