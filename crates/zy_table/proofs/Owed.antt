-- The checkpoint that an executed entry makes due was counted before: a signature is left for it.
use Rattle.std.proofs.Common.{◌≡◌, ℕ, suc, ◌+◌, ◌*◌, ◌≤◌, Bool, true, false, not, cond, ◌&&◌, ◌||◌, nat_eq, nat_le, List, [], ◌∷◌, length, take, Some, None, refl, sym, ap, ◌∙◌, subst, arith}
use Rattle.std.specs.Prelude.{filter, is_some}
use Rattle.std.specs.List.{list_any}
use Rattle.std.proofs.lemmas.Bool.{and_parts, cond-true, cond-false, cond_both, le-leb, leb-true, or_parts}
use Rattle.std.proofs.lemmas.List.Sums.{length-filter, sum_by-cons}
use Rattle.std.proofs.lemmas.Map.Views.{any-filter_same}
use Rattle.zy_base.specs.declared.ids.Digest.{Digest}
use Rattle.zy_base.specs.declared.ids.Party.{Party}
use Rattle.zy_base.specs.declared.ids.Party.TheVariants.{Replica}
use Rattle.zy_cert.proofs.SignerLemmas.{different-told, party-equal}
use Rattle.zy_cert.specs.Equal.{same_spec, same_check}
use Rattle.zy_cert.specs.Signers.{AreDifferent, has_repeat, has_signer, same_party}
use Rattle.zy_check.proofs.JudgingLemmas.{spec-new}
use Rattle.zy_check.proofs.VoteLemmas.{equal_to-put, only-rising, rising-different}
use Rattle.zy_check.specs.Board.{Board, Round, height, only_check, only_spec, put_spec, round_at, specs_at, with_round, with_spec, without_other_checks, without_other_specs, without_others}
use Rattle.zy_check.specs.Judging.{is_refused, judge_spec}
use Rattle.zy_check.specs.Votes.{IsRising, equal_to, only}
use Rattle.zy_parts.specs.declared.signed.Signed.{Signed}
use Rattle.zy_parts.specs.declared.statements.Check.{Check}
use Rattle.zy_parts.specs.declared.statements.Spec.{Spec}
use Rattle.zy_table.specs.Gathering.{certificate_at, check_with, equal_others, is_said, own_with, owes_check, signs_with, with_own_spec}
use Rattle.zy_table.specs.State.{State}

-- ---- equal responses, and those of others among them

module _ (me : Party) (spec : Spec) where
  abbrev is_other : Signed Spec → Bool
  is_other vote = not (same_party vote.by me)

  abbrev alike : List (Signed Spec) → ℕ
  alike list = equal_to same_spec spec list

  abbrev others : List (Signed Spec) → ℕ
  others list = equal_to same_spec spec (filter is_other list)

  alike_first : (vote : Signed Spec) (list : List (Signed Spec)) → alike (vote ∷ list) ≡ cond (same_spec vote.stmt spec) 1 0 + alike list
  alike_first vote list = sum_by-cons (λ (vote : Signed Spec). cond (same_spec vote.stmt spec) 1 0) vote list

  one_most : (b : Bool) → cond b 1 0 ≤ 1
  one_most true = omega arith
  one_most false = omega arith

  others_first : (own : Bool) (vote : Signed Spec) (list : List (Signed Spec)) → same_party vote.by me ≡ own → others (vote ∷ list) ≡ cond own (others list) (cond (same_spec vote.stmt spec) 1 0 + others list)
  others_first true vote list is = rw is refl
  others_first false vote list is = rw is (alike_first vote (filter is_other list))

  none_own_by : (own : Bool) (vote : Signed Spec) (list : List (Signed Spec)) → same_party vote.by me ≡ own → own || has_signer me list ≡ false → (has_signer me list ≡ false → alike list ≡ others list)
      → alike (vote ∷ list) ≡ others (vote ∷ list)
  none_own_by true vote list is none rest = absurd cc
  none_own_by false vote list is none rest = omega (arith, alike_first vote list, others_first false vote list is, rest none)

  -- where none is the own, all are others'
  none_own : (list : List (Signed Spec)) → has_signer me list ≡ false → alike list ≡ others list
  none_own [] none = refl
  none_own (vote ∷ list) none = none_own_by (same_party vote.by me) vote list refl none (none_own list)

  one_own_by : (own : Bool) (vote : Signed Spec) (list : List (Signed Spec)) → same_party vote.by me ≡ own → (own ≡ true → has_signer me list ≡ false) → alike list ≤ others list + 1 → alike (vote ∷ list) ≤ others (vote ∷ list) + 1
  one_own_by true vote list is differ rest = omega (arith, alike_first vote list, others_first true vote list is, none_own list (differ refl), one_most (same_spec vote.stmt spec))
  one_own_by false vote list is differ rest = omega (arith, alike_first vote list, others_first false vote list is, rest)

  -- at most one is the own
  one_own : (list : List (Signed Spec)) → AreDifferent list → alike list ≤ others list + 1
  one_own [] different = omega arith
  one_own (vote ∷ list) different =
      let unlike : has_signer vote.by list ≡ false = (or_parts (has_signer vote.by list) (has_repeat list) (different-told (vote ∷ list) different)).0 in
      one_own_by (same_party vote.by me) vote list refl
      (λ own. subst (λ (by : Party). has_signer by list ≡ false) ((party-equal vote.by me).0 own) unlike)
      (one_own list (λ i j d before within. different (suc i) (suc j) d (omega arith) (omega arith)))

  fewer_by : (same own : Bool) (vote : Signed Spec) (list : List (Signed Spec)) → same_spec vote.stmt spec ≡ same → same_party vote.by me ≡ own → others (only same_spec spec list) ≤ others list
      → others (only same_spec spec (vote ∷ list)) ≤ others (vote ∷ list)
  fewer_by true own vote list is mine rest =
      let kept : only same_spec spec (vote ∷ list) ≡ vote ∷ only same_spec spec list = rw is refl in
      subst (λ (l : List (Signed Spec)). others l ≤ others (vote ∷ list)) (sym kept) (both own mine)
    where
      both : (own : Bool) → same_party vote.by me ≡ own → others (vote ∷ only same_spec spec list) ≤ others (vote ∷ list)
      both true mine = omega (arith, rest, others_first true vote list mine, others_first true vote (only same_spec spec list) mine)
      both false mine = omega (arith, rest, others_first false vote list mine, others_first false vote (only same_spec spec list) mine)
  fewer_by false own vote list is mine rest =
      let gone : only same_spec spec (vote ∷ list) ≡ only same_spec spec list = rw is refl in
      subst (λ (l : List (Signed Spec)). others l ≤ others (vote ∷ list)) (sym gone) (both own mine)
    where
      both : (own : Bool) → same_party vote.by me ≡ own → others (only same_spec spec list) ≤ others (vote ∷ list)
      both true mine = omega (arith, rest, others_first true vote list mine)
      both false mine = omega (arith, rest, others_first false vote list mine)

  -- of equal ones alone no more are others'
  fewer : (list : List (Signed Spec)) → others (only same_spec spec list) ≤ others list
  fewer [] = omega arith
  fewer (vote ∷ list) = fewer_by (same_spec vote.stmt spec) (same_party vote.by me) vote list refl refl (fewer list)

-- ---- what is kept at a place, with another thing there

at_changed : (Q : Round → Type 0) (b : Board) (place : ℕ) (change : Round → Round) → Q (round_at b place) → Q (change (round_at b place)) → Q (round_at (with_round b place change) place)
at_changed Q b place change before after =
    cond_both (nat_eq (height b place) b.interval) (record b { near = change b.near }) (cond (nat_eq (height b place) (2 * b.interval)) (record b { far = change b.far }) b) (λ (c : Board). Q (round_at c place))
    (λ near. subst Q (ap change (cond-true _ _ _ near) ∙ sym (cond-true _ _ _ near)) after)
    (λ not_near. cond_both (nat_eq (height b place) (2 * b.interval)) (record b { far = change b.far }) b (λ (c : Board). Q (round_at c place))
    (λ far. subst Q (ap change (cond-false _ _ _ not_near ∙ cond-true _ _ _ far) ∙ sym (cond-false _ _ _ not_near ∙ cond-true _ _ _ far)) after)
    (λ not_far. before))

module _ {S : Type 0} (s : State S) (signed : Signed Spec) (state : Digest) (rising : IsRising (specs_at s.board signed.stmt.place.0)) (own : signed.by ≡ Replica s.me) where
  abbrev spec : Spec
  spec = signed.stmt

  abbrev check : Check
  check = check_with spec state

  abbrev place : ℕ
  place = spec.place.0

  abbrev me : Party
  me = Replica s.me

  -- with the own response
  abbrev s' : State S
  s' = with_own_spec s (own_with spec state) signed

  abbrev dropped : Board
  dropped = without_others s.board spec check

  -- what holds of what is kept there then
  at_own : (Q : Round → Type 0) → Q (round_at s.board place) → ((r : Round) → Q r → Q (only_spec spec r)) → ((r : Round) → Q r → Q (only_check check r)) → Q (round_at dropped place)
  unfolding without_other_specs without_other_checks
  at_own Q start specs checks =
      let b : Board = without_other_specs s.board spec in
      let first : Q (round_at b place) = at_changed Q s.board place (only_spec spec) start (specs (round_at s.board place) start) in
      at_changed Q b place (only_check check) first (checks (round_at b place) first)

  -- ---- the certificate

  abbrev most : ℕ
  most = equal_others s spec

  record IsFew (r : Round) : Type 0 where
    all : alike me spec r.specs ≤ most + 1
    fresh : has_signer me r.specs ≡ false → alike me spec r.specs ≤ most

  few_by : (r : Round) → IsRising r.specs → others me spec r.specs ≤ most → IsFew r
  few_by r rise few =
      record {
        all = omega (arith, one_own me spec r.specs (rising-different r.specs rise));
        fresh = λ none. omega (arith, none_own me spec r.specs none);
      }

  record IsRisingFew (r : Round) : Type 0 where
    rise : IsRising r.specs
    few : others me spec r.specs ≤ most

  few_dropped : IsRisingFew (round_at dropped place)
  few_dropped =
      at_own IsRisingFew (record { rise = rising; few = omega arith })
      (λ r is. record { rise = only-rising same_spec spec r.specs is.rise; few = omega (arith, fewer me spec r.specs, is.few) })
      (λ r is. record { rise = is.rise; few = is.few })

  few_after : alike me spec (specs_at s'.board place) ≤ most + 1
  unfolding with_spec
  few_after =
      let is : IsFew (round_at dropped place) = few_by (round_at dropped place) few_dropped.rise few_dropped.few in
      cond_both (is_refused (judge_spec dropped signed (Some spec))) dropped (with_spec dropped signed) (λ (b : Board). alike me spec (specs_at b place) ≤ most + 1)
      (λ refused. is.all)
      (λ kept.
      let new : has_signer me (specs_at dropped place) ≡ false = subst (λ (by : Party). has_signer by (specs_at dropped place) ≡ false) own (spec-new dropped signed (Some spec) kept) in
      at_changed (λ (r : Round). alike me spec r.specs ≤ most + 1) dropped place (put_spec signed) is.all
      (let fresh = is.fresh new in omega (arith, equal_to-put same_spec spec signed (specs_at dropped place), one_most me spec (same_spec signed.stmt spec))))

  -- ---- the own checkpoint

  abbrev is_own : Signed Check → Bool
  is_own vote = same_party vote.by me && same_check vote.stmt check

  abbrev HasOwn : Round → Type 0
  HasOwn r = list_any is_own r.checks ≡ true

  -- where it was said, it is still kept
  said_stays : HasOwn (round_at s.board place) → HasOwn (round_at s'.board place)
  unfolding with_spec
  said_stays said =
      let is : HasOwn (round_at dropped place) =
      at_own HasOwn said (λ r has. has)
      (λ r has. any-filter_same is_own (λ (vote : Signed Check). same_check vote.stmt check) true (λ vote own. (and_parts (same_party vote.by me) (same_check vote.stmt check) own).1) r.checks ∙ has) in
      cond_both (is_refused (judge_spec dropped signed (Some spec))) dropped (with_spec dropped signed) (λ (b : Board). HasOwn (round_at b place))
      (λ refused. is)
      (λ kept. at_changed HasOwn dropped place (put_spec signed) is is)

  not_said : (before after : Bool) → (before ≡ true → after ≡ true) → not after ≡ true → not before ≡ true
  not_said true after stays none = let said : after ≡ true = stays refl in absurd cc
  not_said false after stays none = refl

  -- ---- what is owed

  enough_by : (enough : Bool) (count : ℕ) (list : List (Signed Spec)) → is_some (cond enough (Some (take count list)) None) ≡ true → enough ≡ true
  enough_by true count list some = refl
  enough_by false count list some = absurd cc

  pub owed_counted : owes_check s' (own_with spec state) false ≡ true → signs_with s spec (Some state) ≡ 2
  owed_counted owes =
      let both = and_parts (is_some (certificate_at s' spec)) (not (is_said s' check)) owes in
      let list : List (Signed Spec) = only same_spec spec (specs_at s'.board place) in
      let many : nat_le s.counts.cert (length list) ≡ true = enough_by (nat_le s.counts.cert (length list)) s.counts.cert list both.0 in
      let enough : nat_le s.counts.cert (most + 1) ≡ true =
      le-leb s.counts.cert (most + 1) (omega (arith, leb-true s.counts.cert (length list) many, length-filter (λ (vote : Signed Spec). same_spec vote.stmt spec) (specs_at s'.board place), few_after)) in
      let unsaid : not (is_said s check) ≡ true = not_said (is_said s check) (is_said s' check) said_stays both.1 in
      rw (enough, unsaid) refl
