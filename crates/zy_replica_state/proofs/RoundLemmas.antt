-- What is kept of responses and checkpoints stays in range.
use Rattle.std.proofs.Common.{ℕ, Bool, true, false, List, ◌+◌, ◌*◌}
use Rattle.std.specs.Prelude.{if◌then◌else◌, nat_eq, Option}
use Rattle.std.proofs.lemmas.List.Elements.{All-nil}
use Rattle.zy_base.specs.declared.ids.Digest.{Digest}
use Rattle.zy_parts.specs.Signing.{IsSignedInRange}
use Rattle.zy_parts.specs.Statements.{IsSpecInRange, IsCheckInRange}
use Rattle.zy_parts.specs.declared.signed.Signed.{Signed}
use Rattle.zy_parts.specs.declared.statements.Check.{Check}
use Rattle.zy_parts.specs.declared.statements.Spec.{Spec}
use Rattle.zy_cert.specs.Equal.{same_spec, same_check}
use Rattle.zy_check.specs.Board.{Board, Round, start_of, height, no_round, round_at, with_round, put_spec, put_check, only_spec, only_check, with_spec, with_check, without_other_specs, without_other_checks, without_others, with_stable, stated}
use Rattle.zy_check.specs.Judging.{is_refused, judge_spec, judge_check, after_spec, after_check}
use Rattle.zy_check.proofs.VoteLemmas.{All-put, All-only}
use Rattle.zy_replica_state.specs.Ready.{IsRoundInRange, AreRoundsInRange}

none-in_range : IsRoundInRange no_round
none-in_range = record { specs = All-nil (IsSignedInRange IsSpecInRange); checks = All-nil (IsSignedInRange IsCheckInRange) }

pub start-in_range : (interval : ℕ) (empty : Digest) → AreRoundsInRange (start_of interval empty)
start-in_range interval empty = record { near = none-in_range; far = none-in_range }

pub round_at-in_range : (b : Board) (place : ℕ) → AreRoundsInRange b → IsRoundInRange (round_at b place)
round_at-in_range b place all = by (nat_eq (height b place) b.interval) (nat_eq (height b place) (2 * b.interval))
  where
    by : (near far : Bool) → IsRoundInRange (if near then b.near else (if far then b.far else no_round))
    by true far = all.near
    by false true = all.far
    by false false = none-in_range

round-in_range : (b : Board) (place : ℕ) (change : Round → Round) → ((r : Round) → IsRoundInRange r → IsRoundInRange (change r)) → AreRoundsInRange b → AreRoundsInRange (with_round b place change)
round-in_range b place change keeps all = by (nat_eq (height b place) b.interval) (nat_eq (height b place) (2 * b.interval))
  where
    by : (near far : Bool) → AreRoundsInRange (if near then record b { near = change b.near } else (if far then record b { far = change b.far } else b))
    by true far = record { near = keeps b.near all.near; far = all.far }
    by false true = record { near = all.near; far = keeps b.far all.far }
    by false false = all

module _ (b : Board) where
  with_spec-in_range : (vote : Signed Spec) → IsSignedInRange IsSpecInRange vote → AreRoundsInRange b → AreRoundsInRange (with_spec b vote)
  unfolding with_spec
  with_spec-in_range vote range all =
      round-in_range b vote.stmt.place.0 (put_spec vote) (λ r is. record { specs = All-put (IsSignedInRange IsSpecInRange) vote r.specs is.specs range; checks = is.checks }) all

  with_check-in_range : (vote : Signed Check) → IsSignedInRange IsCheckInRange vote → AreRoundsInRange b → AreRoundsInRange (with_check b vote)
  unfolding with_check
  with_check-in_range vote range all =
      round-in_range b vote.stmt.place.0 (put_check vote) (λ r is. record { specs = is.specs; checks = All-put (IsSignedInRange IsCheckInRange) vote r.checks is.checks range }) all

  other_specs-in_range : (spec : Spec) → AreRoundsInRange b → AreRoundsInRange (without_other_specs b spec)
  unfolding without_other_specs
  other_specs-in_range spec all =
      round-in_range b spec.place.0 (only_spec spec) (λ r is. record { specs = All-only same_spec (IsSignedInRange IsSpecInRange) spec r.specs is.specs; checks = is.checks }) all

  other_checks-in_range : (check : Check) → AreRoundsInRange b → AreRoundsInRange (without_other_checks b check)
  unfolding without_other_checks
  other_checks-in_range check all =
      round-in_range b check.place.0 (only_check check) (λ r is. record { specs = is.specs; checks = All-only same_check (IsSignedInRange IsCheckInRange) check r.checks is.checks }) all

  pub after_spec-in_range : (vote : Signed Spec) (own : Option Spec) → IsSignedInRange IsSpecInRange vote → AreRoundsInRange b → AreRoundsInRange (after_spec b vote own)
  after_spec-in_range vote own range all = by (is_refused (judge_spec b vote own))
    where
      by : (refused : Bool) → AreRoundsInRange (if refused then b else with_spec b vote)
      by true = all
      by false = with_spec-in_range vote range all

  pub after_check-in_range : (vote : Signed Check) (own : Option Check) → IsSignedInRange IsCheckInRange vote → AreRoundsInRange b → AreRoundsInRange (after_check b vote own)
  after_check-in_range vote own range all = by (is_refused (judge_check b vote own))
    where
      by : (refused : Bool) → AreRoundsInRange (if refused then b else with_check b vote)
      by true = all
      by false = with_check-in_range vote range all

  pub with_stable-in_range : (proof : List (Signed Check)) → AreRoundsInRange b → AreRoundsInRange (with_stable b proof)
  unfolding with_stable
  with_stable-in_range proof all =
      record { near = round_at-in_range b ((stated b.stable proof).place.0 + b.interval) all; far = round_at-in_range b ((stated b.stable proof).place.0 + 2 * b.interval) all }

pub without_others-in_range : (b : Board) (spec : Spec) (check : Check) → AreRoundsInRange b → AreRoundsInRange (without_others b spec check)
without_others-in_range b spec check all = other_checks-in_range (without_other_specs b spec) check (other_specs-in_range b spec all)
