-- What is kept of responses and checkpoints, with one more and with fewer.
use Rattle.std.proofs.Common.{◌≡◌, ◌≢◌, ℕ, ◌+◌, ◌*◌, Bool, true, false, cond, nat_eq, nat_le, List, length, take, get_or, All, Option, Some, None, refl, sym, ◌∙◌, subst, arith}
use Rattle.std.specs.Prelude.{AllPairs}
use Rattle.std.specs.Bool.{Decides}
use Rattle.std.proofs.lemmas.Bool.{cond-true, cond-false, cond_both, leb-true}
use Rattle.std.proofs.Math.Seq.{get_or-take}
use Rattle.std.proofs.lemmas.List.{length-take, length-take-le}
use Rattle.std.proofs.lemmas.List.Elements.{All-nil, All-take, All-weaker, filter_passes}
use Rattle.std.proofs.lemmas.Option.{same_Some}
use Rattle.zy_cert.specs.Equal.{same_spec, same_check}
use Rattle.zy_cert.specs.Signers.{AreDifferent, has_signer}
use Rattle.zy_check.proofs.JudgingLemmas.{spec-new, check-new}
use Rattle.zy_check.proofs.VoteLemmas.{All-put, All-only, put-rising, only-rising, rising-different}
use Rattle.zy_check.specs.Board.{Board, Round, no_round, height, round_at, specs_at, checks_at, with_round, put_spec, put_check, only_spec, only_check, with_spec, with_check, without_other_specs, without_other_checks, without_others, stated, with_stable}
use Rattle.zy_check.specs.Judging.{judge_spec, judge_check, is_refused, after_spec, after_check}
use Rattle.zy_check.specs.Votes.{only, IsRising}
use Rattle.zy_law_normal.specs.Tied.{IsRoundOf}
use Rattle.zy_parts.specs.declared.signed.Signed.{Signed}
use Rattle.zy_parts.specs.declared.statements.Check.{Check}
use Rattle.zy_parts.specs.declared.statements.Spec.{Spec}
use Rattle.zy_table.specs.Gathering.{first_of}

-- ---- rounds of which something holds

module _ (V : Signed Spec → Type 0) (C : Signed Check → Type 0) where
  abbrev Holds : Round → Type 0
  Holds r = IsRoundOf V C r

  pub none_kept : Holds no_round
  none_kept =
      record {
        specs = All-nil V;
        specs_rise = λ i j d before within. absurd (omega arith);
        checks = All-nil C;
        checks_rise = λ i j d before within. absurd (omega arith);
      }

  spec_put : (vote : Signed Spec) (r : Round) → Holds r → V vote → has_signer vote.by r.specs ≡ false → Holds (put_spec vote r)
  spec_put vote r is one new =
      record {
        specs = All-put V vote r.specs is.specs one;
        specs_rise = put-rising vote r.specs is.specs_rise new;
        checks = is.checks;
        checks_rise = is.checks_rise;
      }

  check_put : (vote : Signed Check) (r : Round) → Holds r → C vote → has_signer vote.by r.checks ≡ false → Holds (put_check vote r)
  check_put vote r is one new =
      record {
        specs = is.specs;
        specs_rise = is.specs_rise;
        checks = All-put C vote r.checks is.checks one;
        checks_rise = put-rising vote r.checks is.checks_rise new;
      }

  specs_only : (spec : Spec) (r : Round) → Holds r → Holds (only_spec spec r)
  specs_only spec r is =
      record {
        specs = All-only same_spec V spec r.specs is.specs;
        specs_rise = only-rising same_spec spec r.specs is.specs_rise;
        checks = is.checks;
        checks_rise = is.checks_rise;
      }

  checks_only : (check : Check) (r : Round) → Holds r → Holds (only_check check r)
  checks_only check r is =
      record {
        specs = is.specs;
        specs_rise = is.specs_rise;
        checks = All-only same_check C check r.checks is.checks;
        checks_rise = only-rising same_check check r.checks is.checks_rise;
      }

  -- ---- boards

  pub record AreKeptOf (b : Board) : Type 0 where
    pub near : Holds b.near
    pub far : Holds b.far

  pub at_place : (b : Board) (place : ℕ) → AreKeptOf b → Holds (round_at b place)
  at_place b place is =
      cond_both (nat_eq (height b place) b.interval) b.near (cond (nat_eq (height b place) (2 * b.interval)) b.far no_round) Holds
      (λ near. is.near)
      (λ not_near. cond_both (nat_eq (height b place) (2 * b.interval)) b.far no_round Holds (λ far. is.far) (λ not_far. none_kept))

  with_round_kept : (b : Board) (place : ℕ) (change : Round → Round) → AreKeptOf b → ((r : Round) → r ≡ round_at b place → Holds r → Holds (change r)) → AreKeptOf (with_round b place change)
  with_round_kept b place change is keeps =
      cond_both (nat_eq (height b place) b.interval) (record b { near = change b.near }) (cond (nat_eq (height b place) (2 * b.interval)) (record b { far = change b.far }) b) AreKeptOf
      (λ near. record { near = keeps b.near (sym (cond-true _ _ _ near)) is.near; far = is.far })
      (λ not_near. cond_both (nat_eq (height b place) (2 * b.interval)) (record b { far = change b.far }) b AreKeptOf
      (λ far. record { near = is.near; far = keeps b.far (sym (cond-false _ _ _ not_near ∙ cond-true _ _ _ far)) is.far })
      (λ not_far. is))

  pub with_spec_kept : (b : Board) (vote : Signed Spec) → AreKeptOf b → V vote → has_signer vote.by (specs_at b vote.stmt.place.0) ≡ false → AreKeptOf (with_spec b vote)
  unfolding with_spec
  with_spec_kept b vote is one new =
      with_round_kept b vote.stmt.place.0 (put_spec vote) is (λ r same here. spec_put vote r here one (subst (λ (q : Round). has_signer vote.by q.specs ≡ false) (sym same) new))

  pub with_check_kept : (b : Board) (vote : Signed Check) → AreKeptOf b → C vote → has_signer vote.by (checks_at b vote.stmt.place.0) ≡ false → AreKeptOf (with_check b vote)
  unfolding with_check
  with_check_kept b vote is one new =
      with_round_kept b vote.stmt.place.0 (put_check vote) is (λ r same here. check_put vote r here one (subst (λ (q : Round). has_signer vote.by q.checks ≡ false) (sym same) new))

  pub after_spec_kept : (b : Board) (vote : Signed Spec) (own : Option Spec) → AreKeptOf b → V vote → AreKeptOf (after_spec b vote own)
  after_spec_kept b vote own is one =
      cond_both (is_refused (judge_spec b vote own)) b (with_spec b vote) AreKeptOf (λ refused. is) (λ kept. with_spec_kept b vote is one (spec-new b vote own kept))

  pub after_check_kept : (b : Board) (vote : Signed Check) (own : Option Check) → AreKeptOf b → C vote → AreKeptOf (after_check b vote own)
  after_check_kept b vote own is one =
      cond_both (is_refused (judge_check b vote own)) b (with_check b vote) AreKeptOf (λ refused. is) (λ kept. with_check_kept b vote is one (check-new b vote own kept))

  specs_dropped : (b : Board) (spec : Spec) → AreKeptOf b → AreKeptOf (without_other_specs b spec)
  unfolding without_other_specs
  specs_dropped b spec is = with_round_kept b spec.place.0 (only_spec spec) is (λ r same here. specs_only spec r here)

  checks_dropped : (b : Board) (check : Check) → AreKeptOf b → AreKeptOf (without_other_checks b check)
  unfolding without_other_checks
  checks_dropped b check is = with_round_kept b check.place.0 (only_check check) is (λ r same here. checks_only check r here)

  pub without_others_kept : (b : Board) (spec : Spec) (check : Check) → AreKeptOf b → AreKeptOf (without_others b spec check)
  without_others_kept b spec check is = checks_dropped (without_other_specs b spec) check (specs_dropped b spec is)

  pub with_stable_kept : (b : Board) (proof : List (Signed Check)) → AreKeptOf b → AreKeptOf (with_stable b proof)
  unfolding with_stable
  with_stable_kept b proof is =
      let stable : Check = stated b.stable proof in
      record { near = at_place b (stable.place.0 + b.interval) is; far = at_place b (stable.place.0 + 2 * b.interval) is }

-- ---- what a replica itself said

-- ---- so many of the first that are equal to the own one

module _ {A : Type 0} (same : A → A → Bool) (equal : (x y : A) → Decides (same x y) (x ≡ y)) (V : Signed A → Type 0) where
  pub record AreFirst (count : ℕ) (own : A) (list : List (Signed A)) : Type 0 where
    pub many : length list ≡ count
    pub all_equal : All (λ vote. vote.stmt ≡ own) list
    pub different : AreDifferent list
    pub vouched : All V list

  AllPairs-take : {X : Type 0} (Q : X → X → Type 0) (n : ℕ) (xs : List X) → AllPairs Q xs → AllPairs Q (take n xs)
  AllPairs-take {X} Q n xs all i j d before within =
      let cut = length-take n xs in
      subst (λ (x : X). Q x (get_or (take n xs) j d)) (sym (get_or-take n xs i d (omega arith)))
      (subst (λ (y : X). Q (get_or xs i d) y) (sym (get_or-take n xs j d (omega arith))) (all i j d before (omega arith)))

  first_by : (enough : Bool) (count : ℕ) (own : A) (list : List (Signed A)) (got : List (Signed A)) → nat_le count (length (only same own list)) ≡ enough → IsRising list → All V list
      → cond enough (Some (take count (only same own list))) None ≡ Some got → AreFirst count own got
  first_by false count own list got is rising all some = absurd cc
  first_by true count own list got is rising all some =
      let firsts : List (Signed A) = only same own list in
      let each : All (λ vote. same vote.stmt own ≡ true) firsts = filter_passes (λ vote. same vote.stmt own) list in
      let alike : All (λ vote. vote.stmt ≡ own) firsts = All-weaker (λ vote. same vote.stmt own ≡ true) (λ vote. vote.stmt ≡ own) (λ vote e. (equal vote.stmt own).0 e) firsts each in
      subst (AreFirst count own) (same_Some (take count firsts) got some)
      (record {
        many = length-take-le count firsts (leb-true count (length firsts) is);
        all_equal = All-take (λ vote. vote.stmt ≡ own) count firsts alike;
        different = AllPairs-take (λ a b. a.by ≢ b.by) count firsts (rising-different firsts (only-rising same own list rising));
        vouched = All-take V count firsts (All-only same V own list all);
      })

  pub are_first : (count : ℕ) (own : A) (list : List (Signed A)) (got : List (Signed A)) → IsRising list → All V list → first_of count (only same own list) ≡ Some got → AreFirst count own got
  are_first count own list got rising all some = first_by (nat_le count (length (only same own list))) count own list got refl rising all some

-- ---- a stable checkpoint is backed
