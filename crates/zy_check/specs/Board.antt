-- The stable checkpoint with its proof, and what is kept of the two next multiples of the interval.
use Rattle.std.specs.Prelude.{◌≡◌, ℕ, ◌+◌, ◌-◌, ◌*◌, ◌%◌, ◌^◌, ◌<◌, ◌≤◌, min, nat_eq, if◌then◌else◌, List, [], ◌∷◌, length, All}
use Rattle.zy_base.specs.declared.ids.Digest.{Digest}
use Rattle.zy_chain.specs.Heads.{empty_head}
use Rattle.zy_parts.specs.declared.signed.Signed.{Signed}
use Rattle.zy_parts.specs.declared.statements.Spec.{Spec}
use Rattle.zy_parts.specs.declared.statements.Check.{Check}
use Rattle.zy_cert.specs.Equal.{same_spec, same_check}
use Rattle.zy_check.specs.Votes.{put_vote, only, IsRising}

-- what is kept of one place, by rising numbers of the signers
pub record Round : Type 0 where
  pub specs : List (Signed Spec)
  pub checks : List (Signed Check)

pub record Board : Type 0 where
  pub interval : ℕ
  -- the stable checkpoint, as its Checks say it
  pub stable : Check
  -- those Checks
  pub proof : List (Signed Check)
  -- what is kept one interval above the stable place, and two intervals above it
  pub near : Round
  pub far : Round

abbrev pub no_round : Round
no_round = record { specs = []; checks = [] }

-- the checkpoint of the empty history, whose snapshot has this digest
abbrev pub origin_check : Digest → Check
origin_check empty = record { view = record { 0 = 0 }; place = record { 0 = 0 }; head = empty_head; state = empty }

abbrev pub start_of : ℕ → Digest → Board
start_of interval empty = record { interval = interval; stable = origin_check empty; proof = []; near = no_round; far = no_round }

-- the last place of which anything is kept
abbrev pub window_of : Board → ℕ
window_of b = min (b.stable.place.0 + 2 * b.interval) (2 ^ 62 - 1)

-- how far a place lies above the stable one
abbrev pub height : Board → ℕ → ℕ
height b place = place - b.stable.place.0

-- ---- what is kept at a place

abbrev pub round_at : Board → ℕ → Round
round_at b place =
    if nat_eq (height b place) b.interval then b.near
    else (if nat_eq (height b place) (2 * b.interval) then b.far
    else no_round)

abbrev pub specs_at : Board → ℕ → List (Signed Spec)
specs_at b place = (round_at b place).specs

abbrev pub checks_at : Board → ℕ → List (Signed Check)
checks_at b place = (round_at b place).checks

-- ---- changes

-- with what is kept at a place changed
abbrev pub with_round : Board → ℕ → (Round → Round) → Board
with_round b place change =
    if nat_eq (height b place) b.interval then record b { near = change b.near }
    else (if nat_eq (height b place) (2 * b.interval) then record b { far = change b.far }
    else b)

abbrev pub put_spec : Signed Spec → Round → Round
put_spec vote r = record r { specs = put_vote vote r.specs }

abbrev pub put_check : Signed Check → Round → Round
put_check vote r = record r { checks = put_vote vote r.checks }

abbrev pub only_spec : Spec → Round → Round
only_spec spec r = record r { specs = only same_spec spec r.specs }

abbrev pub only_check : Check → Round → Round
only_check check r = record r { checks = only same_check check r.checks }

-- with one more Spec
unfoldable pub with_spec : Board → Signed Spec → Board
with_spec b vote = with_round b vote.stmt.place.0 (put_spec vote)

-- with one more Check
unfoldable pub with_check : Board → Signed Check → Board
with_check b vote = with_round b vote.stmt.place.0 (put_check vote)

-- without the Specs that differ from one of their place
unfoldable pub without_other_specs : Board → Spec → Board
without_other_specs b spec = with_round b spec.place.0 (only_spec spec)

-- without the Checks that differ from one of their place
unfoldable pub without_other_checks : Board → Check → Board
without_other_checks b check = with_round b check.place.0 (only_check check)

abbrev pub without_others : Board → Spec → Check → Board
without_others b spec check = without_other_checks (without_other_specs b spec) check

-- nothing is kept but the stable checkpoint with its proof
abbrev pub cleared : Board → Board
cleared b = record b { near = no_round; far = no_round }

-- ---- a new stable checkpoint

-- equal Checks of this place, at least one
pub record IsProof (place : ℕ) (list : List (Signed Check)) : Type 0 where
  pub stmt : Check
  pub located : stmt.place.0 ≡ place
  pub some : 0 < length list
  pub equal : All (λ s. s.stmt ≡ stmt) list

-- what the Checks of a proof say
abbrev pub stated : Check → List (Signed Check) → Check
stated other [] = other
stated other (first ∷ others) = first.stmt

-- what equal Checks say is stable, they are its proof, and only what lies above it is still kept
unfoldable pub with_stable : Board → List (Signed Check) → Board
with_stable b proof =
    let stable = stated b.stable proof in
    record {
      interval = b.interval;
      stable = stable;
      proof = proof;
      near = round_at b (stable.place.0 + b.interval);
      far = round_at b (stable.place.0 + 2 * b.interval);
    }

-- ---- what holds of every board

-- each statement is of this place, and the signers rise
pub record IsRound (place : ℕ) (r : Round) : Type 0 where
  pub specs_here : All (λ s. s.stmt.place.0 ≡ place) r.specs
  pub specs_rise : IsRising r.specs
  pub checks_here : All (λ s. s.stmt.place.0 ≡ place) r.checks
  pub checks_rise : IsRising r.checks

pub record IsBoard (b : Board) : Type 0 where
  pub at_least : 4 ≤ b.interval
  pub at_most : b.interval ≤ 32
  pub multiple : b.stable.place.0 % b.interval ≡ 0
  pub proven : All (λ s. s.stmt ≡ b.stable) b.proof
  pub near : IsRound (b.stable.place.0 + b.interval) b.near
  pub far : IsRound (b.stable.place.0 + 2 * b.interval) b.far

-- what is kept may have changed, and nothing else has
pub record Stays (b c : Board) : Type 0 where
  pub interval : c.interval ≡ b.interval
  pub stable : c.stable ≡ b.stable
  pub proof : c.proof ≡ b.proof
