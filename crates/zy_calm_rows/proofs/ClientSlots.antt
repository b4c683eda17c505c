-- The responses that a waiting client keeps in a calm run.
use Rattle.std.proofs.Common.{◌≡◌, ℕ, zero, suc, ◌+◌, ◌<◌, ◌≤◌, Bool, true, false, List, [], ◌∷◌, length, get_or, set, take, cond, Option, Some, None, Ok, refl, sym, ap, ◌∙◌, subst, arith}
use Rattle.std.proofs.lemmas.Bool.{le-ltb, ne_eqb, or_from}
use Rattle.std.proofs.lemmas.List.Sums.{sum_by-cons, sum_by-set}
use Rattle.std.specs.List.{cons_option, filter_map, find, sum_by}
use Rattle.std.specs.Prelude.{is_some, count_by, nat_eq, nat_lt, not, ◌&&◌, Result, Err, if◌then◌else◌}
use Rattle.zy_base.specs.declared.cause.Cause.{Cause}
use Rattle.zy_base.specs.declared.cause.Cause.TheVariants as causes
use Rattle.zy_base.specs.declared.ids.Digest.{Digest}
use Rattle.zy_base.specs.declared.ids.Party.{Party}
use Rattle.zy_base.specs.declared.ids.Party.TheVariants.{Replica}
use Rattle.zy_base.specs.declared.ids.Place.{Place}
use Rattle.zy_base.specs.declared.ids.View.{View}
use Rattle.zy_cert.specs.Certificates.{point_of_equal}
use Rattle.zy_cert.specs.Equal.{order-equal, same_spec, spec-equal}
use Rattle.zy_cert.specs.Misbehaviour.{conflict}
use Rattle.zy_cert.specs.Points.{point_of_spec}
use Rattle.zy_cert.specs.Signers.{has_other, has_repeat, has_signer, same_party}
use Rattle.zy_parts.specs.declared.signed.Signed.{Signed}
use Rattle.zy_parts.specs.declared.statements.Order.{Order}
use Rattle.zy_parts.specs.declared.statements.Spec.{Spec}
use Rattle.zy_table.specs.ClientRows.{agrees, equal_in, order_in}
use Rattle.zy_table.specs.declared.client.Response.{Response}
use Rattle.zy_calm_rows.specs.Waiting.{Answered, AreOf, IsOf, IsCertificateOf}

pub same_answer : (x : Spec) → same_spec x x ≡ true
same_answer x = (spec-equal x x).1 refl

-- ---- one response more

pub kept_more : (a : Answered) (id i : ℕ) (slots : List (Option Response)) (r : Response) → AreOf a id slots → IsOf a (id + i) r → AreOf a id (set slots i (Some r))
kept_more a id i [] r kept of = tt
kept_more a id zero (None ∷ slots) r kept of = (subst (λ (n : ℕ). IsOf a n r) (let e : id + 0 ≡ id = omega arith in e) of, kept)
kept_more a id zero (Some x ∷ slots) r kept of = (subst (λ (n : ℕ). IsOf a n r) (let e : id + 0 ≡ id = omega arith in e) of, kept.1)
kept_more a id (suc i) (None ∷ slots) r kept of = kept_more a (suc id) i slots r kept (subst (λ (n : ℕ). IsOf a n r) (let e : id + suc i ≡ suc id + i = omega arith in e) of)
kept_more a id (suc i) (Some x ∷ slots) r kept of = (kept.0, kept_more a (suc id) i slots r kept.1 (subst (λ (n : ℕ). IsOf a n r) (let e : id + suc i ≡ suc id + i = omega arith in e) of))

pub counts : {A : Type 0} (p : A → Bool) (x : A) (xs : List A) → count_by p (x ∷ xs) ≡ cond (p x) 1 0 + count_by p xs
counts p x xs = sum_by-cons (λ y. cond (p y) 1 0) x xs

pub count_more : {A : Type 0} (slots : List (Option A)) (i : ℕ) (x : A) → i < length slots → get_or slots i None ≡ None → count_by is_some (set slots i (Some x)) ≡ count_by is_some slots + 1
count_more {A} slots i x inside free =
    let f : Option A → ℕ = λ o. cond (is_some o) 1 0 in
    let set_is : sum_by f (set slots i (Some x)) + f (get_or slots i None) ≡ sum_by f slots + 1 = sum_by-set f slots i (Some x) None inside in
    let was : f (get_or slots i None) ≡ f None = ap f free in
    omega (arith, set_is, was)

-- ---- all agree

module _ (a : Answered) where
  agrees_one : (id : ℕ) (r : Response) → IsOf a id r → agrees a.spec (Some r) ≡ true
  agrees_one id r of = ap (λ (x : Spec). same_spec x a.spec) of.stmt ∙ same_answer a.spec

  pub all_agree : (id : ℕ) (slots : List (Option Response)) → AreOf a id slots → count_by (agrees a.spec) slots ≡ count_by is_some slots
  all_agree id [] kept = refl
  all_agree id (None ∷ slots) kept = all_agree (suc id) slots kept
  all_agree id (Some r ∷ slots) kept =
      counts (agrees a.spec) (Some r) slots
      ∙ ap (λ (b : Bool). cond b 1 0 + count_by (agrees a.spec) slots) (agrees_one id r kept.0)
      ∙ ap (λ (n : ℕ). 1 + n) (all_agree (suc id) slots kept.1)
      ∙ sym (counts is_some (Some r) slots)

  -- ---- no kept order contradicts the one order

  no_conflict : conflict a.order a.order ≡ false
  no_conflict =
      let same = (order-equal a.order.stmt a.order.stmt).1 refl in
      ends (nat_eq a.order.stmt.view.0 a.order.stmt.view.0) (nat_eq a.order.stmt.place.0 a.order.stmt.place.0) (same_party a.order.by a.order.by) _ (ap not same)
    where
      ends : (x y z w : Bool) → w ≡ false → (x && (y && (z && w))) ≡ false
      ends true true true w is = is
      ends true true false w is = refl
      ends true false z w is = refl
      ends false y z w is = refl

  pub none_contradicts : (id : ℕ) (slots : List (Option Response)) → AreOf a id slots → find (λ kept. conflict kept a.order) (filter_map order_in slots) ≡ None
  none_contradicts id [] kept = refl
  none_contradicts id (None ∷ slots) kept = none_contradicts (suc id) slots kept
  none_contradicts id (Some r ∷ slots) kept =
      ap (λ (o : Option (Signed Order)). find (λ k. conflict k a.order) (cons_option o (filter_map order_in slots))) kept.0.order
      ∙ ap (λ (b : Bool). cond b (Some a.order) (find (λ k. conflict k a.order) (filter_map order_in slots))) no_conflict
      ∙ none_contradicts (suc id) slots kept.1

  -- ---- a certificate of them

  -- the signers' numbers rise from this one on, and all say the answer
  abbrev pub Rise : ℕ → List (Signed Spec) → Type 0
  Rise id [] = Unit {0}
  Rise id (s ∷ more) = (n : ℕ) × (id ≤ n) × (s.by ≡ Replica (record { 0 = n })) × (s.stmt ≡ a.spec) × Rise (suc n) more

  lower : (id from : ℕ) (list : List (Signed Spec)) → from ≤ id → Rise id list → Rise from list
  lower id from [] below rise = tt
  lower id from (s ∷ more) below rise = (rise.0, (let e : from ≤ rise.0 = omega (arith, rise.1) in e), rise.2, rise.3, rise.4)

  equal_one : (id : ℕ) (r : Response) → IsOf a id r → equal_in a.spec (Some r) ≡ Some r.spec
  equal_one id r of = ap (λ (b : Bool). if b then Some r.spec else None) (ap (λ (x : Spec). same_spec x a.spec) of.stmt ∙ same_answer a.spec)

  pub rising : (id : ℕ) (slots : List (Option Response)) → AreOf a id slots → Rise id (filter_map (equal_in a.spec) slots)
  rising id [] kept = tt
  rising id (None ∷ slots) kept = lower (suc id) id (filter_map (equal_in a.spec) slots) (omega arith) (rising (suc id) slots kept)
  rising id (Some r ∷ slots) kept =
      subst (λ (o : Option (Signed Spec)). Rise id (cons_option o (filter_map (equal_in a.spec) slots))) (sym (equal_one id r kept.0))
      (id, (let e : id ≤ id = omega arith in e), kept.0.by, kept.0.stmt, rising (suc id) slots kept.1)

  pub as_many : (id : ℕ) (slots : List (Option Response)) → AreOf a id slots → length (filter_map (equal_in a.spec) slots) ≡ count_by is_some slots
  as_many id [] kept = refl
  as_many id (None ∷ slots) kept = as_many (suc id) slots kept
  as_many id (Some r ∷ slots) kept =
      let rest = as_many (suc id) slots kept.1 in
      ap (λ (o : Option (Signed Spec)). length (cons_option o (filter_map (equal_in a.spec) slots))) (equal_one id r kept.0)
      ∙ (let e : suc (length (filter_map (equal_in a.spec) slots)) ≡ 1 + count_by is_some slots = omega (arith, rest) in e)
      ∙ sym (counts is_some (Some r) slots)

  pub rise_taken : (n id : ℕ) (list : List (Signed Spec)) → Rise id list → Rise id (take n list)
  rise_taken zero id list rise = tt
  rise_taken (suc n) id [] rise = tt
  rise_taken (suc n) id (s ∷ more) rise = (rise.0, rise.1, rise.2, rise.3, rise_taken n (suc rise.0) more rise.4)

  not_above : (n id : ℕ) (list : List (Signed Spec)) → n < id → Rise id list → has_signer (Replica (record { 0 = n })) list ≡ false
  not_above n id [] below rise = refl
  not_above n id (s ∷ more) below rise =
      or_from (same_party s.by (Replica (record { 0 = n }))) (has_signer (Replica (record { 0 = n })) more)
      (ap (λ (p : Party). same_party p (Replica (record { 0 = n }))) rise.2 ∙ ne_eqb rise.0 n (λ same. omega (arith, rise.1)))
      (not_above n (suc rise.0) more (omega (arith, rise.1)) rise.4)

  no_repeat : (id : ℕ) (list : List (Signed Spec)) → Rise id list → has_repeat list ≡ false
  no_repeat id [] rise = refl
  no_repeat id (s ∷ more) rise =
      or_from (has_signer s.by more) (has_repeat more)
      (ap (λ (p : Party). has_signer p more) rise.2 ∙ not_above rise.0 (suc rise.0) more (omega arith) rise.4)
      (no_repeat (suc rise.0) more rise.4)

  no_other : (id : ℕ) (list : List (Signed Spec)) → Rise id list → has_other same_spec a.spec list ≡ false
  no_other id [] rise = refl
  no_other id (s ∷ more) rise =
      or_from (not (same_spec s.stmt a.spec)) (has_other same_spec a.spec more)
      (ap not (ap (λ (x : Spec). same_spec x a.spec) rise.3 ∙ same_answer a.spec))
      (no_other (suc rise.0) more rise.4)

  pub certifies : (id count : ℕ) (list : List (Signed Spec)) → Rise id list → length list ≡ count → 1 ≤ count → IsCertificateOf a count list
  certifies id count [] rise long some = absurd (omega arith)
  certifies id count (s ∷ more) rise long some =
      let list = s ∷ more in
      let few : nat_lt (length list) count ≡ false = le-ltb (length list) count (omega arith) in
      let many : nat_lt count (length list) ≡ false = le-ltb count (length list) (omega arith) in
      let fault : Cause → Result (View × Place × Digest) Cause = λ x. Err x in
      record {
        first = s;
        others = more;
        parts = refl;
        stmt = rise.3;
        certified =
            ap (λ (b : Bool). if b then fault (causes.TooFew (length list)) else (if nat_lt count (length list) then fault causes.Mixed else (if has_repeat list then fault causes.Repeat else point_of_equal same_spec point_of_spec list))) few
            ∙ ap (λ (b : Bool). if b then fault causes.Mixed else (if has_repeat list then fault causes.Repeat else point_of_equal same_spec point_of_spec list)) many
            ∙ ap (λ (b : Bool). if b then fault causes.Repeat else point_of_equal same_spec point_of_spec list) (no_repeat id list rise)
            ∙ ap (λ (x : Spec). if has_other same_spec x more then fault causes.Mixed else Ok (point_of_spec x)) rise.3
            ∙ ap (λ (b : Bool). if b then fault causes.Mixed else Ok (point_of_spec a.spec)) (no_other (suc rise.0) more rise.4);
      }

  -- ---- the first that has enough equals

  -- a kept response, where there is one
  pub record IsFound (o : Option (Option Response)) : Type 0 where
    pub response : Response
    pub is : o ≡ Some (Some response)
    pub stmt : response.spec.stmt ≡ a.spec
    pub reply : response.reply ≡ a.reply

  pub first_found : (test : Option Response → Bool) (id : ℕ) (slots : List (Option Response)) → AreOf a id slots → test None ≡ false
      → ((n : ℕ) (r : Response) → IsOf a n r → test (Some r) ≡ true) → 1 ≤ count_by is_some slots → IsFound (find test slots)
  first_found test id [] kept none some enough = let e : 1 ≤ 0 = enough in absurd (omega arith)
  first_found test id (None ∷ slots) kept none some enough =
      let rest = first_found test (suc id) slots kept none some enough in
      record { response = rest.response; is = ap (λ (b : Bool). cond b (Some None) (find test slots)) none ∙ rest.is; stmt = rest.stmt; reply = rest.reply }
  first_found test id (Some r ∷ slots) kept none some enough =
      record { response = r; is = ap (λ (b : Bool). cond b (Some (Some r)) (find test slots)) (some id r kept.0); stmt = kept.0.stmt; reply = kept.0.reply }
