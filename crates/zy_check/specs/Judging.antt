-- What a Spec or a Check of another replica comes to. The own statement of its place is given where the own history has
-- come so far.
use Rattle.std.specs.Prelude.{ℕ, ◌%◌, Bool, true, false, nat_eq, nat_lt, nat_le, if◌then◌else◌, List, Option, Some, None}
use Rattle.zy_base.specs.declared.cause.Cause.{Cause}
use Rattle.zy_base.specs.declared.cause.Cause.TheVariants as causes
use Rattle.zy_base.specs.declared.ids.Party.{Party}
use Rattle.zy_parts.specs.declared.signed.Signed.{Signed}
use Rattle.zy_parts.specs.declared.statements.Spec.{Spec}
use Rattle.zy_parts.specs.declared.statements.Check.{Check}
use Rattle.zy_cert.specs.Equal.{same_digest, same_spec, same_check}
use Rattle.zy_cert.specs.Signers.{has_signer}
use Rattle.zy_check.specs.declared.kept.Kept.{Kept}
use Rattle.zy_check.specs.declared.kept.Kept.TheVariants as answers
use Rattle.zy_check.specs.Votes.{put_vote, equal_to}
use Rattle.zy_check.specs.Board.{Board, window_of, specs_at, checks_at, with_spec, with_check}

-- why nothing of a place is kept
abbrev pub place_cause : Board → ℕ → Option Cause
place_cause b place =
    if nat_eq (place % b.interval) 0
    then (if nat_le place b.stable.place.0 then Some causes.OldPlace
    else (if nat_lt (window_of b) place then Some (causes.WindowFull (record { 0 = window_of b }))
    else None))
    else Some causes.Unmatched

-- why a statement isn't compared with the own one: the place comes first, then that its signer's is kept already
abbrev pub first_cause : {S : Type 0} → Option Cause → Party → List (Signed S) → Option Cause
first_cause (Some cause) by list = Some cause
first_cause None by list = if has_signer by list then Some causes.Repeat else None

abbrev pub answered : Option Cause → Kept → Kept
answered (Some cause) other = answers.Refused cause
answered None other = other

-- a Spec beside the own one; the number counts it too
abbrev pub beside_spec : List (Signed Spec) → Signed Spec → Option Spec → Kept
beside_spec list vote None = answers.Held
beside_spec list vote (Some own) =
    if same_digest vote.stmt.head own.head
    then (if same_spec vote.stmt own then answers.Kept (equal_to same_spec own (put_vote vote list)) else answers.Refused causes.Unmatched)
    else answers.Refused (causes.OtherHistory own.head vote.stmt.head)

unfoldable pub judge_spec : Board → Signed Spec → Option Spec → Kept
judge_spec b vote own =
    let list = specs_at b vote.stmt.place.0 in
    answered (first_cause (place_cause b vote.stmt.place.0) vote.by list) (beside_spec list vote own)

-- a Check beside the own one; the number counts it too
abbrev pub beside_check : List (Signed Check) → Signed Check → Option Check → Kept
beside_check list vote None = answers.Held
beside_check list vote (Some own) =
    if same_digest vote.stmt.head own.head
    then (if same_digest vote.stmt.state own.state
    then answers.Kept (equal_to same_check own (put_vote vote list))
    else answers.Refused (causes.WrongState own.state vote.stmt.state))
    else answers.Refused (causes.OtherHistory own.head vote.stmt.head)

unfoldable pub judge_check : Board → Signed Check → Option Check → Kept
judge_check b vote own =
    let list = checks_at b vote.stmt.place.0 in
    answered (first_cause (place_cause b vote.stmt.place.0) vote.by list) (beside_check list vote own)

-- ---- what is kept after it

abbrev pub is_refused : Kept → Bool
is_refused answers.Held = false
is_refused (answers.Kept number) = false
is_refused (answers.Refused cause) = true

abbrev pub after_spec : Board → Signed Spec → Option Spec → Board
after_spec b vote own = if is_refused (judge_spec b vote own) then b else with_spec b vote

abbrev pub after_check : Board → Signed Check → Option Check → Board
after_check b vote own = if is_refused (judge_check b vote own) then b else with_check b vote
