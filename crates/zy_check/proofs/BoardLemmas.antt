-- What holds of every board stays true.
use Rattle.std.proofs.Common.{◌≡◌, ℕ, ◌+◌, ◌-◌, ◌*◌, ◌%◌, ◌<◌, ◌≤◌, false, cond, nat_eq, List, [], ◌∷◌, length, All, get_or, refl, sym, ap, ◌∙◌, subst, arith}
use Rattle.std.proofs.lemmas.Bool.{cond-true, cond-false, cond_both, eqb-true}
use Rattle.std.proofs.lemmas.Bool.Decides.{nat_tests}
use Rattle.std.proofs.lemmas.List.Elements.{All-nil}
use Rattle.zy_base.specs.declared.ids.Digest.{Digest}
use Rattle.zy_parts.specs.declared.signed.Signed.{Signed}
use Rattle.zy_parts.specs.declared.statements.Spec.{Spec}
use Rattle.zy_parts.specs.declared.statements.Check.{Check}
use Rattle.zy_cert.specs.Equal.{same_spec, same_check}
use Rattle.zy_cert.specs.Signers.{has_signer}
use Rattle.zy_check.specs.Votes.{IsRising}
use Rattle.zy_check.specs.Board.{Round, Board, no_round, start_of, height, round_at, specs_at, checks_at, with_round, put_spec, put_check, only_spec, only_check, with_spec, with_check, without_other_specs, without_other_checks, cleared, IsProof, stated, with_stable, IsRound, IsBoard}
use Rattle.zy_check.proofs.VoteLemmas.{All-put, put-rising, only-rising, All-only}

-- ---- rounds

none-rising : {S : Type 0} → IsRising {S = S} []
none-rising i j d before small = absurd (omega arith)

pub no_round-is : (place : ℕ) → IsRound place no_round
no_round-is place =
    record {
      specs_here = All-nil (λ s. s.stmt.place.0 ≡ place);
      specs_rise = none-rising;
      checks_here = All-nil (λ s. s.stmt.place.0 ≡ place);
      checks_rise = none-rising;
    }

pub put_spec-is : (place : ℕ) (vote : Signed Spec) (r : Round) → IsRound place r → vote.stmt.place.0 ≡ place → has_signer vote.by r.specs ≡ false → IsRound place (put_spec vote r)
put_spec-is place vote r is here new =
    record {
      specs_here = All-put (λ s. s.stmt.place.0 ≡ place) vote r.specs is.specs_here here;
      specs_rise = put-rising vote r.specs is.specs_rise new;
      checks_here = is.checks_here;
      checks_rise = is.checks_rise;
    }

pub put_check-is : (place : ℕ) (vote : Signed Check) (r : Round) → IsRound place r → vote.stmt.place.0 ≡ place → has_signer vote.by r.checks ≡ false → IsRound place (put_check vote r)
put_check-is place vote r is here new =
    record {
      specs_here = is.specs_here;
      specs_rise = is.specs_rise;
      checks_here = All-put (λ s. s.stmt.place.0 ≡ place) vote r.checks is.checks_here here;
      checks_rise = put-rising vote r.checks is.checks_rise new;
    }

pub only_spec-is : (place : ℕ) (spec : Spec) (r : Round) → IsRound place r → IsRound place (only_spec spec r)
only_spec-is place spec r is =
    record {
      specs_here = All-only same_spec (λ s. s.stmt.place.0 ≡ place) spec r.specs is.specs_here;
      specs_rise = only-rising same_spec spec r.specs is.specs_rise;
      checks_here = is.checks_here;
      checks_rise = is.checks_rise;
    }

pub only_check-is : (place : ℕ) (check : Check) (r : Round) → IsRound place r → IsRound place (only_check check r)
only_check-is place check r is =
    record {
      specs_here = is.specs_here;
      specs_rise = is.specs_rise;
      checks_here = All-only same_check (λ s. s.stmt.place.0 ≡ place) check r.checks is.checks_here;
      checks_rise = only-rising same_check check r.checks is.checks_rise;
    }

-- ---- boards

pub start-is : (interval : ℕ) (empty : Digest) → 4 ≤ interval → interval ≤ 32 → IsBoard (start_of interval empty)
start-is interval empty least most =
    record {
      at_least = least;
      at_most = most;
      multiple = omega arith;
      proven = All-nil (λ s. s.stmt ≡ (start_of interval empty).stable);
      near = no_round-is (0 + interval);
      far = no_round-is (0 + 2 * interval);
    }

-- another round one interval above the stable place, and two
pub with_near-is : (b : Board) (r : Round) → IsBoard b → IsRound (b.stable.place.0 + b.interval) r → IsBoard (record b { near = r })
with_near-is b r is round = record { at_least = is.at_least; at_most = is.at_most; multiple = is.multiple; proven = is.proven; near = round; far = is.far }

pub with_far-is : (b : Board) (r : Round) → IsBoard b → IsRound (b.stable.place.0 + 2 * b.interval) r → IsBoard (record b { far = r })
with_far-is b r is round = record { at_least = is.at_least; at_most = is.at_most; multiple = is.multiple; proven = is.proven; near = is.near; far = round }

pub near-place : (b : Board) (place : ℕ) → IsBoard b → height b place ≡ b.interval → place ≡ b.stable.place.0 + b.interval
near-place b place is e = let least = is.at_least in omega arith

pub far-place : (b : Board) (place : ℕ) → IsBoard b → height b place ≡ 2 * b.interval → place ≡ b.stable.place.0 + 2 * b.interval
far-place b place is e = let least = is.at_least in omega arith

-- what is kept of a place above the stable one
pub round_at-is : (b : Board) (place : ℕ) → IsBoard b → IsRound place (round_at b place)
round_at-is b place is =
    cond_both (nat_eq (height b place) b.interval) b.near (cond (nat_eq (height b place) (2 * b.interval)) b.far no_round) (IsRound place)
    (λ near. rw (near-place b place is (eqb-true _ _ near)) is.near)
    (λ not_near. cond_both (nat_eq (height b place) (2 * b.interval)) b.far no_round (IsRound place)
    (λ far. rw (far-place b place is (eqb-true _ _ far)) is.far)
    (λ not_far. no_round-is place))

with_round-is : (b : Board) (place : ℕ) (change : Round → Round) → IsBoard b → ((r : Round) → r ≡ round_at b place → IsRound place r → IsRound place (change r)) → IsBoard (with_round b place change)
with_round-is b place change is keeps =
    cond_both (nat_eq (height b place) b.interval) (record b { near = change b.near }) (cond (nat_eq (height b place) (2 * b.interval)) (record b { far = change b.far }) b) IsBoard
    (λ near. let here = near-place b place is (eqb-true _ _ near) in
    let same : b.near ≡ round_at b place = sym (cond-true _ _ _ near) in
    with_near-is b (change b.near) is (subst (λ p. IsRound p (change b.near)) here (keeps b.near same (subst (λ p. IsRound p b.near) (sym here) is.near))))
    (λ not_near. cond_both (nat_eq (height b place) (2 * b.interval)) (record b { far = change b.far }) b IsBoard
    (λ far. let here = far-place b place is (eqb-true _ _ far) in
    let same : b.far ≡ round_at b place = sym (cond-false _ _ _ not_near ∙ cond-true _ _ _ far) in
    with_far-is b (change b.far) is (subst (λ p. IsRound p (change b.far)) here (keeps b.far same (subst (λ p. IsRound p b.far) (sym here) is.far))))
    (λ not_far. is))

pub with_spec-is : (b : Board) (vote : Signed Spec) → IsBoard b → has_signer vote.by (specs_at b vote.stmt.place.0) ≡ false → IsBoard (with_spec b vote)
unfolding with_spec
with_spec-is b vote is new =
    with_round-is b vote.stmt.place.0 (put_spec vote) is (λ r same here. put_spec-is vote.stmt.place.0 vote r here refl (subst (λ (q : Round). has_signer vote.by q.specs ≡ false) (sym same) new))

pub with_check-is : (b : Board) (vote : Signed Check) → IsBoard b → has_signer vote.by (checks_at b vote.stmt.place.0) ≡ false → IsBoard (with_check b vote)
unfolding with_check
with_check-is b vote is new =
    with_round-is b vote.stmt.place.0 (put_check vote) is (λ r same here. put_check-is vote.stmt.place.0 vote r here refl (subst (λ (q : Round). has_signer vote.by q.checks ≡ false) (sym same) new))

pub without_other_specs-is : (b : Board) (spec : Spec) → IsBoard b → IsBoard (without_other_specs b spec)
unfolding without_other_specs
without_other_specs-is b spec is = with_round-is b spec.place.0 (only_spec spec) is (λ r same here. only_spec-is spec.place.0 spec r here)

pub without_other_checks-is : (b : Board) (check : Check) → IsBoard b → IsBoard (without_other_checks b check)
unfolding without_other_checks
without_other_checks-is b check is = with_round-is b check.place.0 (only_check check) is (λ r same here. only_check-is check.place.0 check r here)

pub cleared-is : (b : Board) → IsBoard b → IsBoard (cleared b)
cleared-is b is =
    record {
      at_least = is.at_least;
      at_most = is.at_most;
      multiple = is.multiple;
      proven = is.proven;
      near = no_round-is (b.stable.place.0 + b.interval);
      far = no_round-is (b.stable.place.0 + 2 * b.interval);
    }

-- ---- a new stable checkpoint

pub stated-first : (other : Check) (proof : List (Signed Check)) (d : Signed Check) → 0 < length proof → (get_or proof 0 d).stmt ≡ stated other proof
stated-first other [] d some = absurd (omega arith)
stated-first other (first ∷ others) d some = refl

stated-located : (other : Check) (place : ℕ) (proof : List (Signed Check)) → IsProof place proof → (stated other proof).place.0 ≡ place
stated-located other place [] is = let some = is.some in absurd (omega arith)
stated-located other place (first ∷ others) is = ap (λ (s : Check). s.place.0) (is.equal 0 first (omega arith)) ∙ is.located

stated-equal : (other : Check) (place : ℕ) (proof : List (Signed Check)) → IsProof place proof → All (λ s. s.stmt ≡ stated other proof) proof
stated-equal other place [] is k d small = absurd (omega arith)
stated-equal other place (first ∷ others) is k d small = is.equal k d small ∙ sym (is.equal 0 first (omega arith))

pub with_stable-is : (b : Board) (place : ℕ) (proof : List (Signed Check)) → IsBoard b → place % b.interval ≡ 0 → IsProof place proof → IsBoard (with_stable b proof)
unfolding with_stable
with_stable-is b place proof is multiple proves =
    let stable = stated b.stable proof in
    record {
      at_least = is.at_least;
      at_most = is.at_most;
      multiple = ap (λ p. p % b.interval) (stated-located b.stable place proof proves) ∙ multiple;
      proven = stated-equal b.stable place proof proves;
      near = round_at-is b (stable.place.0 + b.interval) is;
      far = round_at-is b (stable.place.0 + 2 * b.interval) is;
    }

-- what two rounds are after the stable place rose
moved-near : {A : Type 0} (s k p above : ℕ) (x y z : A) → 4 ≤ k → s ≤ p → above ≡ p - s → cond (nat_eq above 0) x (cond (nat_eq above k) y z) ≡ cond (nat_eq (p + k - s) k) x (cond (nat_eq (p + k - s) (2 * k)) y z)
moved-near s k p above x y z least not_below e = grind (arith, nat_tests)

moved-far : {A : Type 0} (s k p above : ℕ) (x y z : A) → 4 ≤ k → s ≤ p → above ≡ p - s → cond (nat_eq above 0) y z ≡ cond (nat_eq (p + 2 * k - s) k) x (cond (nat_eq (p + 2 * k - s) (2 * k)) y z)
moved-far s k p above x y z least not_below e = grind (arith, nat_tests)

moved : (b : Board) (place above : ℕ) (proof : List (Signed Check)) (first : Check) (near far : Round) → IsBoard b → IsProof place proof → first ≡ stated b.stable proof
    → near ≡ cond (nat_eq above 0) b.near (cond (nat_eq above b.interval) b.far no_round)
    → far ≡ cond (nat_eq above 0) b.far no_round
    → above ≡ height b place → b.stable.place.0 ≤ place
    → ◌≡◌ {A = Board} (record { interval = b.interval; stable = first; proof = proof; near = near; far = far }) (with_stable b proof)
unfolding with_stable
moved b place above proof first near far is proves first-is near-is far-is above-is not_below =
    let located = stated-located b.stable place proof proves in
    let near-here : near ≡ round_at b (place + b.interval) = near-is ∙ moved-near b.stable.place.0 b.interval place above b.near b.far no_round is.at_least not_below above-is in
    let far-here : far ≡ round_at b (place + 2 * b.interval) = far-is ∙ moved-far b.stable.place.0 b.interval place above b.near b.far no_round is.at_least not_below above-is in
    let near-there = subst (λ p. near ≡ round_at b (p + b.interval)) (sym located) near-here in
    let far-there = subst (λ p. far ≡ round_at b (p + 2 * b.interval)) (sym located) far-here in
    rw (first-is, near-there, far-there) refl

pub with_stable-moved : (b' b : Board) (same : b' ≡ b) (place above : ℕ) → above ≡ height b place → b.stable.place.0 ≤ place → (proof : List (Signed Check)) (first : Check) (near far : Round) → IsBoard b' → IsProof place proof
    → first ≡ stated b'.stable proof
    → near ≡ cond (nat_eq above 0) b'.near (cond (nat_eq above b'.interval) b'.far no_round)
    → far ≡ cond (nat_eq above 0) b'.far no_round
    → ◌≡◌ {A = Board} (record { interval = b'.interval; stable = first; proof = proof; near = near; far = far }) (with_stable b proof)
with_stable-moved b' b same place above above-is not_below proof first near far is proves first-is near-is far-is =
    subst
    (λ (x : Board). above ≡ height x place → x.stable.place.0 ≤ place → ◌≡◌ {A = Board} (record { interval = b'.interval; stable = first; proof = proof; near = near; far = far }) (with_stable x proof))
    same (moved b' place above proof first near far is proves first-is near-is far-is) above-is not_below
