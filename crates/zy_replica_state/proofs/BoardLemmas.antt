-- What is kept of responses and checkpoints, after a change of it.
use Rattle.std.proofs.Common.{◌≡◌, ◌+◌, ◌-◌, ◌*◌, ◌%◌, ◌≤◌, ◌<◌, ◌∷◌, ℕ, Bool, true, false, not, cond, List, take, drop, length, Option, Some, None, refl, ap, ◌∙◌, sym, subst, arith}
use Rattle.std.specs.Prelude.{Result, Ok, Err, IfOk, if◌then◌else◌, nat_eq, nat_lt, nat_le, ◌||◌, ◌&&◌, is_some}
use Rattle.std.specs.List.{list_any}
use Rattle.std.specs.Option.{ForSome}
use Rattle.std.proofs.Math.Nat.{mod-add-mod, add-mod_left, mod-eq_of_lt}
use Rattle.std.proofs.lemmas.Option.{cond_some}
use Rattle.std.proofs.lemmas.Bool.{eqb-true, leb-true, leb-false, ltb-true, ltb-false}
use Rattle.std.proofs.lemmas.Bool.Decides.{nat_tests}
use Rattle.std.proofs.lemmas.List.{length-take-le, take-append-drop}
use Rattle.std.proofs.lemmas.List.Elements.{All-take, All-weaker, filter_passes}
use Rattle.std.proofs.lemmas.List.Folds.{list_any-append}
use Rattle.std.proofs.lemmas.List.Sums.{length-filter}
use Rattle.zy_base.specs.declared.cause.Cause.{Cause}
use Rattle.zy_base.specs.declared.cause.Cause.TheVariants as causes
use Rattle.zy_base.specs.declared.ids.Party.{Party}
use Rattle.zy_base.specs.declared.ids.Place.{Place}
use Rattle.zy_base.specs.declared.ids.Party.TheVariants.{Replica}
use Rattle.zy_base.specs.declared.want.Want.{Want}
use Rattle.zy_parts.specs.declared.signed.Signed.{Signed}
use Rattle.zy_parts.specs.declared.statements.Spec.{Spec}
use Rattle.zy_parts.specs.declared.statements.Check.{Check}
use Rattle.zy_cert.specs.Equal.{same_spec, same_check, spec-equal, check-equal}
use Rattle.zy_cert.specs.Signers.{same_party, has_signer}
use Rattle.zy_check.specs.declared.kept.Kept.{Kept}
use Rattle.zy_check.specs.declared.kept.Kept.TheVariants as answers
use Rattle.zy_check.specs.Votes.{put_vote, place_for, only, equal_to}
use Rattle.zy_check.specs.Board.{Board, Round, IsBoard, IsProof, no_round, height, window_of, round_at, with_round, specs_at, checks_at, put_spec, put_check, with_spec, with_check}
use Rattle.zy_check.specs.Judging.{place_cause, first_cause, answered, beside_spec, beside_check, judge_spec, judge_check, is_refused}
use Rattle.zy_check.proofs.VoteLemmas.{equal_to-put}
use Rattle.zy_table.specs.declared.kept.OwnCheckpoint.{OwnCheckpoint}
use Rattle.zy_change.specs.Views.{Views, is_further}
use Rattle.zy_table.specs.State.{State}
use Rattle.zy_table.specs.Checkpoints.{with_board}
use Rattle.zy_table.specs.Gathering.{first_of, keep_certificate, is_said, owes_check, checks_owed}

-- ---- so many of a list

pub some_if : {A : Type 0} (b : Bool) (x : A) → b ≡ is_some (if b then Some x else None)
some_if true x = refl
some_if false x = refl

-- so many equal checkpoints prove their place
pub proof_is : (own : Check) (list : List (Signed Check)) (count : ℕ) → 0 < count → count ≤ length (only same_check own list) → IsProof own.place.0 (take count (only same_check own list))
proof_is own list count some enough =
    record {
      stmt = own;
      located = refl;
      some = omega (arith, length-take-le count (only same_check own list) enough);
      equal = All-take (λ s. s.stmt ≡ own) count (only same_check own list)
          (All-weaker (λ s. same_check s.stmt own ≡ true) (λ s. s.stmt ≡ own) (λ s same. (check-equal s.stmt own).0 same) (only same_check own list) (filter_passes (λ s. same_check s.stmt own) list));
    }

pub proof_there : (own : Check) (list : List (Signed Check)) (count : ℕ) (proof : List (Signed Check)) → 0 < count → first_of count (only same_check own list) ≡ Some proof → IsProof own.place.0 proof
proof_there own list count proof some there =
    let parts = cond_some (nat_le count (length (only same_check own list))) (take count (only same_check own list)) proof there in
    subst (IsProof own.place.0) parts.1 (proof_is own list count some (leb-true count (length (only same_check own list)) parts.0))

pub all_prove : (own : Check) (list : List (Signed Check)) (count : ℕ) (result : Result (Option (List (Signed Check))) Want) → 0 < count → IfOk result (λ found. found ≡ first_of count (only same_check own list))
    → IfOk result (λ found. ForSome found (IsProof own.place.0))
all_prove own list count (Ok found) some is = λ proof there. proof_there own list count proof some (sym is ∙ there)
all_prove own list count (Err want) some is = is

pub not_further : {S : Type 0} (s : State S) (place : Place) (found : Option (List (Signed Spec))) → is_further place s.views.specs ≡ false → s ≡ keep_certificate place found s
not_further s place None is_not = refl
not_further {S} s place (Some specs) is_not = ap (λ (b : Bool). if b then record s { views = record s.views { specs = Some (record { place = place; specs = specs }) } } else s) (sym is_not)

-- ---- tests one after another

pub and_then : (a b both : Bool) → a ≡ true → (a && b) ≡ both → b ≡ both
and_then true b both is joined = joined
and_then false b both is joined = cc

pub and_else : (a b both : Bool) → a ≡ false → (a && b) ≡ both → a ≡ both
and_else true b both is joined = cc
and_else false b both is joined = joined

-- ---- the round of a place

-- a multiple of the interval that lies in the window is one of the two next
past_one : (k j : ℕ) → 0 < j → j < k → (k + j) % k ≡ 0 → ⊥
past_one k j some less is = let same : j % k ≡ j = mod-eq_of_lt less in omega (arith, add-mod_left k j)

one_of_two : (k h : ℕ) (less : Bool) → nat_lt h k ≡ less → h % k ≡ 0 → 0 < h → h ≤ 2 * k → nat_eq h k ≡ false → nat_eq h (2 * k) ≡ false → ⊥
one_of_two k h true less is some within not_one not_two =
    let small : h < k = ltb-true h k less in
    let same : h % k ≡ h = mod-eq_of_lt small in
    omega arith
one_of_two k h false less is some within not_one not_two =
    let large : k ≤ h = ltb-false h k less in
    let one : (h ≡ k) → ⊥ = grind (arith, nat_tests) in
    let two : (h ≡ 2 * k) → ⊥ = grind (arith, nat_tests) in
    let whole : k + (h - k) ≡ h = omega arith in
    past_one k (h - k) (omega arith) (omega arith) (ap (λ (n : ℕ). n % k) whole ∙ is)

cause_parts : (multiple old : Bool) (full : Option Cause) → (if multiple then (if old then Some causes.OldPlace else full) else Some causes.Unmatched) ≡ None → (multiple ≡ true) × (old ≡ false) × (full ≡ None)
cause_parts false old full none = cc
cause_parts true true full none = cc
cause_parts true false full none = (refl, refl, none)

not_full : (full : Bool) (cause : Cause) → (if full then Some cause else None) ≡ None → full ≡ false
not_full true cause none = cc
not_full false cause none = refl

both_false : (one two : Bool) → (one ≡ false → two ≡ false → ⊥) → (one || two) ≡ true
both_false true two never = refl
both_false false true never = refl
both_false false false never = absurd (never refl refl)

pub on_round : (b : Board) (place : ℕ) → IsBoard b → place_cause b place ≡ None → (nat_eq (height b place) b.interval || nat_eq (height b place) (2 * b.interval)) ≡ true
on_round b place is none =
    let parts = cause_parts _ _ _ none in
    let k : ℕ = b.interval in
    let stable : ℕ = b.stable.place.0 in
    let above : stable < place = leb-false place stable parts.1 in
    let below : place ≤ window_of b = ltb-false (window_of b) place (not_full _ _ parts.2) in
    let whole : stable + height b place ≡ place = omega arith in
    let none_first : height b place ≡ 0 + height b place = omega arith in
    let rests : height b place % k ≡ 0 =
    ap (λ (n : ℕ). n % k) none_first ∙ ap (λ (n : ℕ). (n + height b place) % k) (sym is.multiple) ∙ mod-add-mod stable k (height b place) ∙ ap (λ (n : ℕ). n % k) whole ∙ eqb-true (place % k) 0 parts.0 in
    both_false _ _
    (λ not_one not_two. one_of_two k (height b place) (nat_lt (height b place) k) refl rests (omega arith) (omega arith) not_one not_two)

changed_by : (one two : Bool) (b : Board) (place : ℕ) (change : Round → Round) → nat_eq (height b place) b.interval ≡ one → nat_eq (height b place) (2 * b.interval) ≡ two → ((one || two) ≡ false → no_round ≡ change no_round)
    → round_at (cond one (record b { near = change b.near }) (cond two (record b { far = change b.far }) b)) place ≡ change (cond one b.near (cond two b.far no_round))
changed_by true two b place change near far none = rw near refl
changed_by false true b place change near far none = rw (near, far) refl
changed_by false false b place change near far none = rw (near, far) (none refl)

-- what is kept of a place, after a change there
pub round_changed : (b : Board) (place : ℕ) (change : Round → Round) → ((nat_eq (height b place) b.interval || nat_eq (height b place) (2 * b.interval)) ≡ false → no_round ≡ change no_round)
    → round_at (with_round b place change) place ≡ change (round_at b place)
round_changed b place change none = changed_by (nat_eq (height b place) b.interval) (nat_eq (height b place) (2 * b.interval)) b place change refl refl none

never : {A : Type 0} (b : Bool) → b ≡ true → b ≡ false → A
never b is is_not = let same : true ≡ false = sym is ∙ is_not in cc

module _ (b : Board) (is : IsBoard b) where
  pub spec_kept : (vote : Signed Spec) → place_cause b vote.stmt.place.0 ≡ None → round_at (with_spec b vote) vote.stmt.place.0 ≡ put_spec vote (round_at b vote.stmt.place.0)
  unfolding with_spec
  spec_kept vote none = round_changed b vote.stmt.place.0 (put_spec vote) (λ off. never _ (on_round b vote.stmt.place.0 is none) off)

  pub check_kept : (vote : Signed Check) → place_cause b vote.stmt.place.0 ≡ None → round_at (with_check b vote) vote.stmt.place.0 ≡ put_check vote (round_at b vote.stmt.place.0)
  unfolding with_check
  check_kept vote none = round_changed b vote.stmt.place.0 (put_check vote) (λ off. never _ (on_round b vote.stmt.place.0 is none) off)

-- ---- what is judged

kept_parts : {S : Type 0} (cause : Option Cause) (by : Party) (list : List (Signed S)) (other : Kept) → is_refused (answered (first_cause cause by list) other) ≡ false → (cause ≡ None) × (is_refused other ≡ false)
kept_parts (Some cause) by list other kept = cc
kept_parts None by list other kept = (refl, kept_by (has_signer by list) other kept)
  where
    kept_by : (found : Bool) (other : Kept) → is_refused (answered (if found then Some causes.Repeat else None) other) ≡ false → is_refused other ≡ false
    kept_by true other kept = cc
    kept_by false other kept = kept

same_by : (head same : Bool) (number : ℕ) (cause other : Cause) → is_refused (if head then (if same then answers.Kept number else answers.Refused cause) else answers.Refused other) ≡ false → same ≡ true
same_by true true number cause other kept = refl
same_by true false number cause other kept = cc
same_by false same number cause other kept = cc

module _ (b : Board) (vote : Signed Spec) (own : Spec) (kept : is_refused (judge_spec b vote (Some own)) ≡ false) where
  pub spec_placed : place_cause b vote.stmt.place.0 ≡ None
  unfolding judge_spec
  spec_placed = (kept_parts (place_cause b vote.stmt.place.0) vote.by (specs_at b vote.stmt.place.0) (beside_spec (specs_at b vote.stmt.place.0) vote (Some own)) kept).0

  pub spec_same : same_spec vote.stmt own ≡ true
  unfolding judge_spec
  spec_same = same_by _ _ _ _ _ (kept_parts (place_cause b vote.stmt.place.0) vote.by (specs_at b vote.stmt.place.0) (beside_spec (specs_at b vote.stmt.place.0) vote (Some own)) kept).1

  pub spec_is : vote.stmt ≡ own
  spec_is = (spec-equal vote.stmt own).0 spec_same

pub check_placed : (b : Board) (vote : Signed Check) (own : Check) → is_refused (judge_check b vote (Some own)) ≡ false → place_cause b vote.stmt.place.0 ≡ None
unfolding judge_check
check_placed b vote own kept = (kept_parts (place_cause b vote.stmt.place.0) vote.by (checks_at b vote.stmt.place.0) (beside_check (checks_at b vote.stmt.place.0) vote (Some own)) kept).0

-- ---- what is owed with one more

first_there : {A : Type 0} (count : ℕ) (list : List A) → is_some (first_of count list) ≡ nat_le count (length list)
first_there count list = sym (some_if (nat_le count (length list)) (take count list))

one_more : (vote : Signed Spec) (own : Spec) (list : List (Signed Spec)) → same_spec vote.stmt own ≡ true → length (only same_spec own (put_vote vote list)) ≡ length (only same_spec own list) + 1
one_more vote own list same =
    length-filter (λ s. same_spec s.stmt own) (put_vote vote list)
    ∙ equal_to-put same_spec own vote list
    ∙ ap (λ (b : Bool). equal_to same_spec own list + cond b 1 0) same
    ∙ ap (λ (n : ℕ). n + 1) (sym (length-filter (λ s. same_spec s.stmt own) list))

put_any : {S : Type 0} (p : Signed S → Bool) (vote : Signed S) (list : List (Signed S)) → list_any p (put_vote vote list) ≡ (p vote || list_any p list)
put_any p vote list =
    let at : ℕ = place_for vote.by list in
    list_any-append p (take at list) (vote ∷ drop at list)
    ∙ or_moved (list_any p (take at list)) (p vote) (list_any p (drop at list))
    ∙ ap (λ (b : Bool). p vote || b) (sym (list_any-append p (take at list) (drop at list)) ∙ ap (list_any p) (take-append-drop at list))
  where
    or_moved : (a x b : Bool) → (a || (x || b)) ≡ (x || (a || b))
    or_moved true true b = refl
    or_moved true false b = refl
    or_moved false x b = refl

module _ {S : Type 0} (s : State S) (own : OwnCheckpoint) (is : IsBoard s.board) (same_place : own.spec.place ≡ own.check.place) where
  abbrev says : Signed Check → Bool
  says = λ vote. same_party vote.by (Replica s.me) && same_check vote.stmt own.check

  owes_with_spec_is : (vote : Signed Spec) → is_refused (judge_spec s.board vote (Some own.spec)) ≡ false
      → (nat_le s.counts.cert (length (only same_spec own.spec (specs_at s.board own.spec.place.0)) + 1) && not (is_said s own.check)) ≡ owes_check (with_board s (with_spec s.board vote)) own false
  owes_with_spec_is vote kept =
      let at : vote.stmt.place.0 ≡ own.spec.place.0 = ap (λ (x : Spec). x.place.0) (spec_is s.board vote own.spec kept) in
      let there : own.spec.place.0 ≡ own.check.place.0 = ap (λ p. p.0) same_place in
      let round : round_at (with_spec s.board vote) own.spec.place.0 ≡ put_spec vote (round_at s.board own.spec.place.0) =
      subst (λ (p : ℕ). round_at (with_spec s.board vote) p ≡ put_spec vote (round_at s.board p)) at (spec_kept s.board is vote (spec_placed s.board vote own.spec kept)) in
      let checks : checks_at (with_spec s.board vote) own.check.place.0 ≡ checks_at s.board own.check.place.0 =
      subst (λ (p : ℕ). checks_at (with_spec s.board vote) p ≡ checks_at s.board p) there (ap (λ (x : Round). x.checks) round) in
      let specs : only same_spec own.spec (specs_at (with_spec s.board vote) own.spec.place.0) ≡ only same_spec own.spec (put_vote vote (specs_at s.board own.spec.place.0)) =
      ap (λ (x : Round). only same_spec own.spec x.specs) round in
      let many = ap length specs ∙ one_more vote own.spec (specs_at s.board own.spec.place.0) (spec_same s.board vote own.spec kept) in
      sym
      (ap (λ (b : Bool). b && not (list_any says (checks_at (with_spec s.board vote) own.check.place.0)))
      (first_there s.counts.cert (only same_spec own.spec (specs_at (with_spec s.board vote) own.spec.place.0)) ∙ ap (nat_le s.counts.cert) many)
      ∙ ap (λ (list : List (Signed Check)). nat_le s.counts.cert (length (only same_spec own.spec (specs_at s.board own.spec.place.0)) + 1) && not (list_any says list)) checks)

  pub owes_with_spec : (vote : Signed Spec) → is_refused (judge_spec s.board vote (Some own.spec)) ≡ false → (count : ℕ) (enough said : Bool) → count ≡ length (only same_spec own.spec (specs_at s.board own.spec.place.0))
      → enough ≡ nat_le s.counts.cert (count + 1) → said ≡ is_said s own.check → (enough && not said) ≡ owes_check (with_board s (with_spec s.board vote)) own false
  owes_with_spec vote kept count enough said count_is enough_is said_is = rw (enough_is, said_is, count_is) (owes_with_spec_is vote kept)

  not_both : (certain mine said : Bool) → ((certain && not said) && not mine) ≡ (certain && not (mine || said))
  not_both true true true = refl
  not_both true true false = refl
  not_both true false said = search_true (not said)
    where
      search_true : (b : Bool) → (b && true) ≡ b
      search_true true = refl
      search_true false = refl
  not_both false mine said = refl

  owes_with_check_is : (vote : Signed Check) → is_refused (judge_check s.board vote (Some own.check)) ≡ false → own.check.place ≡ vote.stmt.place
      → (owes_check s own false && not (says vote)) ≡ owes_check (with_board s (with_check s.board vote)) own false
  owes_with_check_is vote kept here =
      let at : vote.stmt.place.0 ≡ own.check.place.0 = sym (ap (λ p. p.0) here) in
      let there : own.check.place.0 ≡ own.spec.place.0 = sym (ap (λ p. p.0) same_place) in
      let round : round_at (with_check s.board vote) own.check.place.0 ≡ put_check vote (round_at s.board own.check.place.0) =
      subst (λ (p : ℕ). round_at (with_check s.board vote) p ≡ put_check vote (round_at s.board p)) at (check_kept s.board is vote (check_placed s.board vote own.check kept)) in
      let specs : specs_at (with_check s.board vote) own.spec.place.0 ≡ specs_at s.board own.spec.place.0 =
      subst (λ (p : ℕ). specs_at (with_check s.board vote) p ≡ specs_at s.board p) there (ap (λ (x : Round). x.specs) round) in
      let said : list_any says (checks_at (with_check s.board vote) own.check.place.0) ≡ (says vote || list_any says (checks_at s.board own.check.place.0)) =
      ap (λ (x : Round). list_any says x.checks) round ∙ put_any says vote (checks_at s.board own.check.place.0) in
      not_both (is_some (first_of s.counts.cert (only same_spec own.spec (specs_at s.board own.spec.place.0)))) (says vote) (is_said s own.check)
      ∙ sym
      (ap (λ (list : List (Signed Spec)). is_some (first_of s.counts.cert (only same_spec own.spec list)) && not (list_any says (checks_at (with_check s.board vote) own.check.place.0))) specs
      ∙ ap (λ (b : Bool). is_some (first_of s.counts.cert (only same_spec own.spec (specs_at s.board own.spec.place.0))) && not b) said)

  pub owes_with_check : (vote : Signed Check) → is_refused (judge_check s.board vote (Some own.check)) ≡ false → own.check.place ≡ vote.stmt.place → (owes mine : Bool) → owes ≡ owes_check s own false
      → mine ≡ (same_party vote.by (Replica s.me) && same_check vote.stmt own.check) → (owes && not mine) ≡ owes_check (with_board s (with_check s.board vote)) own false
  owes_with_check vote kept here owes mine owes_is mine_is = rw (owes_is, mine_is) (owes_with_check_is vote kept here)

-- a certificate changes nothing of what is owed
pub owed_certain : {S : Type 0} (s before : State S) (v : Views) → s ≡ before → (own : Option OwnCheckpoint) (brought : Bool) → checks_owed (record s { views = v }) own brought ≡ checks_owed before own brought
owed_certain s before v same None brought = refl
owed_certain {S} s before v same (Some own) brought = ap (λ (t : State S). checks_owed t (Some own) brought) same
