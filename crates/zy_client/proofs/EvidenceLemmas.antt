-- Which kept order contradicts another one, and that both can be sent.
use Rattle.std.proofs.Common.{◌≡◌, ℕ, zero, suc, ◌+◌, ◌<◌, Bool, true, false, if◌then◌else◌, List, [], ◌∷◌, length, drop, get_or, option_to_list, Option, Some, None, refl, sym, ap, ◌∙◌, subst}
use Rattle.std.specs.Prelude.{slice_set}
use Rattle.std.specs.List.{AllByRecursion, filter_map, cons_option, find}
use Rattle.std.specs.Option.{ForSome, option_or}
use Rattle.std.proofs.lemmas.List.{at_drop_more}
use Rattle.std.proofs.lemmas.Option.{same_Some}
use Rattle.zy_wire.specs.Fields.{FitsOptional}
use Rattle.zy_parts.specs.Signing.{IsSignedInRange}
use Rattle.zy_parts.specs.Statements.{IsOrderInRange}
use Rattle.zy_parts.specs.declared.signed.Signed.{Signed}
use Rattle.zy_parts.specs.declared.statements.Order.{Order}
use Rattle.zy_cert.specs.Misbehaviour.{conflict}
use Rattle.zy_cert.proofs.ConflictLemmas.{conflict-told}
use Rattle.zy_table.specs.declared.client.Response.{Response}
use Rattle.zy_table.specs.ClientState.{ClientState}
use Rattle.zy_table.specs.ClientRows.{order_in, contradicted, is_blamed, evidence_with, evidence_by, completed_if, keep, keep_unless, told}
use Rattle.zy_client.specs.Ready.{IsReady, IsKeepable, IsEvidence}

abbrev pub against : Signed Order → List (Signed Order) → Option (Signed Order)
against order orders = find (λ kept. conflict kept order) orders

abbrev pub against_in : Signed Order → List (Option Response) → Option (Signed Order)
against_in order slots = against order (filter_map order_in slots)

-- ---- one slot after another

one_or_rest : {A : Type 0} (b : Bool) (one : A) (rest : Option A) → (if b then Some one else rest) ≡ option_or (if b then Some one else None) rest
one_or_rest true one rest = refl
one_or_rest false one rest = refl

of_first : (order : Signed Order) (o : Option (Signed Order)) (rest : List (Signed Order)) → against order (cons_option o rest) ≡ option_or (against order (option_to_list o)) (against order rest)
of_first order None rest = refl
of_first order (Some kept) rest = one_or_rest (conflict kept order) kept (against order rest)

pub of_next : (order : Signed Order) (slots : List (Option Response)) (i : ℕ) (slot : Option Response) → i < length slots → slot ≡ get_or slots i slot
    → against_in order (drop i slots) ≡ option_or (against order (option_to_list (order_in slot))) (against_in order (drop (i + 1) slots))
of_next order slots i slot small is =
    at_drop_more (against_in order) slots i slot small
    ∙ ap (λ s. against_in order (s ∷ drop (i + 1) slots)) (sym is)
    ∙ of_first order (order_in slot) (filter_map order_in (drop (i + 1) slots))

-- ---- a response doesn't contradict itself

same_rest : (order : Signed Order) (o : Option (Signed Order)) (rest others : List (Signed Order)) → against order rest ≡ against order others
    → against order (cons_option o rest) ≡ against order (cons_option o others)
same_rest order o rest others is = of_first order o rest ∙ ap (option_or (against order (option_to_list o))) is ∙ sym (of_first order o others)

no_self : (order : Signed Order) → conflict order order ≡ false
no_self order = by (conflict order order) refl
  where
    by : (b : Bool) → conflict order order ≡ b → b ≡ false
    by true is = absurd (((conflict-told order order).0 is).orders refl)
    by false is = refl

-- so its slot may as well be empty
pub beside : (order : Signed Order) (r : Response) → r.order ≡ Some order → (slots : List (Option Response)) (id : ℕ)
    → against_in order (slice_set slots id None) ≡ against_in order (slice_set slots id (Some r))
beside order r has [] id = refl
beside order r has (slot ∷ slots) zero =
    ap (λ b. if b then Some order else against_in order slots) (sym (no_self order)) ∙ ap (λ o. against order (cons_option o (filter_map order_in slots))) (sym has)
beside order r has (slot ∷ slots) (suc id) = same_rest order (order_in slot) _ _ (beside order r has slots id)

-- the evidence that a response brings is what it brings where the replica's earlier one is dropped
pub evidence_beside : (s : ClientState) (id : ℕ) (r : Response) → evidence_by (record s { responses = slice_set s.responses id None }) r.order ≡ evidence_by (keep s id r) r.order
evidence_beside s id r = by r.order refl
  where
    by : (o : Option (Signed Order)) → r.order ≡ o → evidence_by (record s { responses = slice_set s.responses id None }) o ≡ evidence_by (keep s id r) o
    by None has = refl
    by (Some order) has = ap (evidence_with s order) (beside order r has s.responses id)

set_again : {A : Type 0} (xs : List A) (id : ℕ) (x y : A) → slice_set (slice_set xs id x) id y ≡ slice_set xs id y
set_again [] id x y = refl
set_again (z ∷ xs) zero x y = refl
set_again (z ∷ xs) (suc id) x y = ap (λ l. z ∷ l) (set_again xs id x y)

pub kept_in_place : (s : ClientState) (id : ℕ) (r : Response) → keep (record s { responses = slice_set s.responses id None }) id r ≡ keep s id r
kept_in_place s id r = ap (λ slots. record s { responses = slots }) (set_again s.responses id None (Some r))

-- so a response is kept, told of and counted by way of a slot that is empty
pub kept_by_way : (s vacated after : ClientState) (id : ℕ) (r : Response) (evidence : Option (Signed Order × Signed Order)) → vacated ≡ record s { responses = slice_set s.responses id None }
    → evidence ≡ evidence_by vacated r.order → after ≡ completed_if (keep vacated id r) r → told evidence after ≡ keep_unless None s id r
kept_by_way s vacated after id r evidence is found filled =
    ap (λ (e : Option (Signed Order × Signed Order)). told e after) (found ∙ ap (λ (x : ClientState). evidence_by x r.order) is ∙ evidence_beside s id r)
    ∙ ap (told (evidence_by (keep s id r) r.order)) (filled ∙ ap (λ (x : ClientState). completed_if (keep x id r) r) is ∙ ap (λ (x : ClientState). completed_if x r) (kept_in_place s id r))

-- ---- what is found can be sent

abbrev IsFit : Signed Order → Type 0
IsFit order = IsSignedInRange IsOrderInRange order

found_fits : (order : Signed Order) (orders : List (Signed Order)) → AllByRecursion IsFit orders → ForSome (against order orders) IsFit
found_fits order [] all = λ kept is. absurd cc
found_fits order (one ∷ orders) all = by (conflict one order) (found_fits order orders all.1)
  where
    by : (b : Bool) → ForSome (against order orders) IsFit → ForSome (if b then Some one else against order orders) IsFit
    by true rest = λ kept is. subst IsFit (same_Some one kept is) all.0
    by false rest = rest

one_more : (o : Option (Signed Order)) (orders : List (Signed Order)) → FitsOptional IsFit o → AllByRecursion IsFit orders → AllByRecursion IsFit (cons_option o orders)
one_more None orders fit all = all
one_more (Some order) orders fit all = (fit, all)

orders_fit : (slots : List (Option Response)) → AllByRecursion (λ slot. ForSome slot IsKeepable) slots → AllByRecursion IsFit (filter_map order_in slots)
orders_fit [] all = tt
orders_fit (None ∷ slots) all = orders_fit slots all.1
orders_fit (Some r ∷ slots) all = one_more r.order (filter_map order_in slots) (all.0 r refl).order (orders_fit slots all.1)

pub evidence_fits : (s : ClientState) (o : Option (Signed Order)) → IsReady s → FitsOptional IsFit o → ForSome (evidence_by s o) IsEvidence
evidence_fits s None ready fits = λ orders is. absurd cc
evidence_fits s (Some order) ready fits = by (contradicted s order) (found_fits order _ (orders_fit s.responses ready.kept))
  where
    if_blamed : (kept : Signed Order) → IsFit kept → (b : Bool) → ForSome (if b then None else Some (kept, order)) IsEvidence
    if_blamed kept fit true = λ orders is. absurd cc
    if_blamed kept fit false = λ orders is. subst IsEvidence (same_Some (kept, order) orders is) (fit, fits)

    by : (found : Option (Signed Order)) → ForSome found IsFit → ForSome (evidence_with s order found) IsEvidence
    by None fit = λ orders is. absurd cc
    by (Some kept) fit = if_blamed kept (fit kept refl) (is_blamed s order.stmt.view)
