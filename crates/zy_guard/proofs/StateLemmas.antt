-- The bytes of the live tuples.
use Rattle.std.proofs.Common.{◌≡◌, ℕ, zero, suc, ◌+◌, ◌<◌, ◌≤◌, Bool, true, false, leb, ltb, ◌&&◌, List, [], ◌∷◌, ◌++◌, length, Option, Some, None, Ok, refl, sym, ap, ◌∙◌, subst, append_assoc, inl, inr, arith}
use Rattle.std.specs.Option.{option_map}
use Rattle.std.specs.List.{AllByRecursion, flat_map}
use Rattle.std.specs.Int.{w16}
use Rattle.std.proofs.lemmas.Bool.{and_from, and_parts, le-leb, lt-leb, ltb-true, ltb-false}
use Rattle.std.proofs.lemmas.Bool.Decides.{eqb_tells}
use Rattle.std.proofs.lemmas.Grind.{flat_map-append}
use Rattle.std.proofs.lemmas.List.{append-nil, length-append}
use Rattle.zy_slots.specs.declared.slots.SlotId.{SlotId}
use Rattle.zy_slots.specs.Rings.{first_of}
use Rattle.zy_slots.specs.Cells.{Cell, Cells, ids, Stands, IsLive}
use Rattle.zy_slots.proofs.ListLemmas.{all_join}
use Rattle.zy_tuple.specs.declared.values.Slot.{Slot}
use Rattle.zy_wire.specs.Spelling.{IsBytes, number}
use Rattle.zy_wire.proofs.Parts.{IsBytes-after, wide16, number-exact}
use Rattle.zy_guard.specs.declared.values.Owned.{Owned}
use Rattle.zy_guard.specs.GuardedSpace.{IsOwned, IsGuardState, owned_by}
use Rattle.zy_guard.specs.Bytes.{owned_spelling}
use Rattle.zy_guard.specs.Service.{is_few_below}
use Rattle.zy_guard.specs.Search.{IsOldestAt}
use Rattle.zy_guard.specs.Changes.{values_of, IsInChain, AllInChains, IsPutLast}
use Rattle.zy_guard.specs.BytesLaws.{owned-exact}
use Rattle.zy_guard.proofs.SearchLemmas.{IsNext, next_is, none_left, nil_left}
use Rattle.zy_guard.proofs.ChangeLemmas.{values-append, put_more}

abbrev Live : Type 0
Live = Cell Owned

abbrev pub spelled : List Live → List ℕ
spelled cells = flat_map owned_spelling.spell (values_of cells)

-- so many are written, and the next one is this
pub record IsWritten (before : List ℕ) (cells : List Live) (steps : ℕ) (at : Option SlotId) (out : List ℕ) : Type 0 where
  pub done : List Live
  pub left : List Live
  pub split : cells ≡ done ++ left
  pub many : length done ≡ steps
  pub next : option_map (λ (id : SlotId). id.0) at ≡ first_of (ids left)
  pub written : out ≡ before ++ spelled done

pub write_start : (out : List ℕ) (cells : List Live) (at : Option SlotId) → option_map (λ (id : SlotId). id.0) at ≡ first_of (ids cells) → IsWritten out cells 0 at out
write_start out cells at first = record { done = []; left = cells; split = refl; many = refl; next = first; written = sym (append-nil out) }

pub next_written : (before : List ℕ) (cells : List Live) (steps : ℕ) (id : SlotId) (out : List ℕ) (so_far : IsWritten before cells steps (Some id) out) → IsNext cells so_far.done so_far.left id
next_written before cells steps id out so_far = next_is cells so_far.done so_far.left id so_far.split so_far.next

pub written_is_live : (before : List ℕ) (cells : Cells Owned) (steps : ℕ) (id : SlotId) (out : List ℕ) → IsWritten before cells.live steps (Some id) out → IsLive cells id.0
written_is_live before cells steps id out so_far =
    let at = next_written before cells.live steps id out so_far in
    (so_far.done, at.cell, at.later, record { split = at.split; named = at.named })

values_split : (front : List Live) (cell : Live) (back : List Live) → AllByRecursion IsOwned (values_of (front ++ cell ∷ back)) → IsOwned cell.value
values_split [] cell back all = all.0
values_split (first ∷ front) cell back all = values_split front cell back all.1

pub written_is_owned : (before : List ℕ) (cells : Cells Owned) (steps : ℕ) (id : SlotId) (out : List ℕ) (owned : Owned) → IsWritten before cells.live steps (Some id) out → IsGuardState (values_of cells.live)
    → ((earlier : List Live) (cell : Live) (later : List Live) → Stands cells id.0 earlier cell later → owned ≡ cell.value) → IsOwned owned
written_is_owned before cells steps id out owned so_far state tells =
    let at = next_written before cells.live steps id out so_far in
    subst IsOwned (sym (tells so_far.done at.cell at.later (record { split = at.split; named = at.named })))
    (values_split so_far.done at.cell at.later (subst (λ (l : List Live). AllByRecursion IsOwned (values_of l)) at.split state.each))

-- a copy of the oldest match has an owner that may read it, and so on
pub seen_is_owned : (client : ℕ) (template : List Slot) (cells : Cells Owned) (id : ℕ) (owned : Owned) → IsGuardState (values_of cells.live) → IsOldestAt client template cells.live id
    → ((earlier : List Live) (cell : Live) (later : List Live) → Stands cells id earlier cell later → owned ≡ cell.value) → IsOwned owned
seen_is_owned client template cells id owned state at tells =
    subst IsOwned (sym (tells at.earlier at.cell at.later (record { split = at.split; named = at.named })))
    (values_split at.earlier at.cell at.later (subst (λ (l : List Live). AllByRecursion IsOwned (values_of l)) at.split state.each))

pub writes_on : (before : List ℕ) (cells : Cells Owned) (steps : ℕ) (id : SlotId) (at' : Option SlotId) (out out' : List ℕ) (owned : Owned) → IsWritten before cells.live steps (Some id) out
    → ((earlier : List Live) (cell : Live) (later : List Live) → Stands cells id.0 earlier cell later → owned ≡ cell.value)
    → ((earlier : List Live) (cell : Live) (later : List Live) → Stands cells id.0 earlier cell later → option_map (λ (id : SlotId). id.0) at' ≡ first_of (ids later))
    → out' ≡ out ++ owned_spelling.spell owned → IsWritten before cells.live (steps + 1) at' out'
writes_on before cells steps id at' out out' owned so_far tells follows put =
    let at = next_written before cells.live steps id out so_far in
    let stands : Stands cells id.0 so_far.done at.cell at.later = record { split = at.split; named = at.named } in
    let more : spelled (so_far.done ++ at.cell ∷ []) ≡ spelled so_far.done ++ owned_spelling.spell at.cell.value =
    ap (flat_map owned_spelling.spell) (values-append so_far.done (at.cell ∷ [])) ∙ flat_map-append owned_spelling.spell (values_of so_far.done) (at.cell.value ∷ [])
    ∙ ap (λ (b : List ℕ). spelled so_far.done ++ b) (append-nil (owned_spelling.spell at.cell.value)) in
    record {
      done = so_far.done ++ at.cell ∷ [];
      left = at.later;
      split = at.split ∙ sym (append_assoc so_far.done (at.cell ∷ []) at.later);
      many = length-append so_far.done (at.cell ∷ []) ∙ ap (λ (n : ℕ). n + 1) so_far.many;
      next = follows so_far.done at.cell at.later stands;
      written = put ∙ ap (λ (b : List ℕ). b ++ owned_spelling.spell owned) so_far.written ∙ ap (λ (t : Owned). (before ++ spelled so_far.done) ++ owned_spelling.spell t) (tells so_far.done at.cell at.later stands)
          ∙ append_assoc before (spelled so_far.done) (owned_spelling.spell at.cell.value) ∙ ap (λ (b : List ℕ). before ++ b) (sym more);
    }

pub write_ends : (before : List ℕ) (cells : List Live) (steps : ℕ) (out : List ℕ) → IsWritten before cells steps None out → out ≡ before ++ spelled cells
write_ends before cells steps out so_far =
    so_far.written ∙ ap (λ (l : List Live). before ++ spelled l) (sym (so_far.split ∙ ap (λ (l : List Live). so_far.done ++ l) (none_left so_far.left so_far.next) ∙ append-nil so_far.done))

pub write_is_full : (before : List ℕ) (cells : List Live) (steps : ℕ) (at : Option SlotId) (out : List ℕ) → IsWritten before cells steps at out → length cells ≤ steps → out ≡ before ++ spelled cells
write_is_full before cells steps at out so_far few =
    let none = nil_left so_far.done so_far.left (omega (arith, few, so_far.many, ap length so_far.split)) in
    so_far.written ∙ ap (λ (l : List Live). before ++ spelled l) (sym (so_far.split ∙ ap (λ (l : List Live). so_far.done ++ l) none ∙ append-nil so_far.done))

-- ---- reading

pub put_values : (cells cells' : Cells Owned) (owned : Owned) → IsPutLast cells cells' owned → values_of cells'.live ≡ values_of cells.live ++ owned ∷ []
put_values cells cells' owned put = ap (λ (c : Cells Owned). values_of c.live) put.now ∙ values-append cells.live _

pub put_in_chain : (cells cells' : Cells Owned) (owned : Owned) → IsPutLast cells cells' owned → AllInChains cells.live → AllInChains cells'.live
put_in_chain cells cells' owned put all =
    let cell : Live = record { id = put.id; bucket = owned.owner.0; value = owned } in
    subst (λ (c : Cells Owned). AllInChains c.live) (sym put.now) (all_join IsInChain cells.live (cell ∷ []) all (refl, tt))

pub put_stack : (cells cells' : Cells Owned) (owned : Owned) → IsPutLast cells cells' owned → cells.stack ≡ [] → cells'.stack ≡ []
put_stack cells cells' owned put none = ap (λ (c : Cells Owned). c.stack) put.now ∙ none

pub put_many : (cells cells' : Cells Owned) (owned : Owned) (count : ℕ) → IsPutLast cells cells' owned → length cells.live ≡ count → length cells'.live ≡ count + 1
put_many cells cells' owned count put many = put_more cells cells' owned put ∙ ap (λ (n : ℕ). n + 1) many

-- what is read is a tuple with its owner, with bytes behind it
pub owned_read : (bytes : List ℕ) (owned : Owned) (rest : List ℕ) → IsBytes bytes → owned_spelling.at bytes ≡ Ok (owned, rest) → IsOwned owned × IsBytes rest
owned_read bytes owned rest fits read =
    let front = owned-exact.takes bytes owned rest fits read in
    (front.1, IsBytes-after bytes (owned_spelling.spell owned) rest fits front.0)

pub count_read : (bytes : List ℕ) (count : ℕ) (rest : List ℕ) → IsBytes bytes → (number w16 0 4097).at bytes ≡ Ok (count, rest) → IsBytes rest
count_read bytes count rest fits read =
    let front = (number-exact w16 0 4097 wide16 (omega arith)).takes bytes count rest fits read in
    IsBytes-after bytes ((number w16 0 4097).spell count) rest fits front.0

-- ---- how many of each client

-- so many clients have few, and what is told of the next one
pub few_more : (clients : ℕ) (state : List Owned) (fewer : Bool) → is_few_below clients state ≡ true → fewer ≡ ltb (owned_by clients state) 65 → fewer ≡ true → is_few_below (clients + 1) state ≡ true
few_more clients state fewer so_far tells few =
    let small = ltb-true (owned_by clients state) 65 (sym tells ∙ few) in
    let more : suc clients ≡ clients + 1 = omega arith in
    subst (λ (n : ℕ). is_few_below n state ≡ true) more
    (and_from (leb (owned_by clients state) 64) (is_few_below clients state) (le-leb (owned_by clients state) 64 (omega (arith, small))) so_far)

and_false : (b other : Bool) → other ≡ false → (b && other) ≡ false
and_false true other is = is
and_false false other is = refl

-- one that has more makes the whole test fail
pub many_fails : (clients client : ℕ) (state : List Owned) → client < clients → 64 < owned_by client state → is_few_below clients state ≡ false
many_fails zero client state below many = absurd (omega (arith, below))
many_fails (suc clients) client state below many =
    elim (eqb_tells client clients) [
      | inl same ↦
          let no : leb (owned_by clients state) 64 ≡ false = lt-leb (owned_by clients state) 64 (subst (λ (c : ℕ). 64 < owned_by c state) same.1 many) in
          rw no refl
      | inr other ↦ and_false (leb (owned_by clients state) 64) (is_few_below clients state) (many_fails clients client state (omega (arith, below, other.1)) many)
    ]

-- where so many clients have few, fewer have
few_of_more : (clients limit : ℕ) (state : List Owned) → limit ≤ clients → is_few_below clients state ≡ true → is_few_below limit state ≡ true
few_of_more zero limit state fewer few = let none : zero ≡ limit = omega (arith, fewer) in subst (λ (n : ℕ). is_few_below n state ≡ true) none few
few_of_more (suc clients) limit state fewer few =
    elim (eqb_tells limit (suc clients)) [
      | inl same ↦ subst (λ (n : ℕ). is_few_below n state ≡ true) (sym same.1) few
      | inr other ↦ few_of_more clients limit state (omega (arith, fewer, other.1)) (and_parts (leb (owned_by clients state) 64) (is_few_below clients state) few).1
    ]

pub few_in_all : (clients : ℕ) (state : List Owned) → 64 ≤ clients → is_few_below clients state ≡ true → true ≡ is_few_below 64 state
few_in_all clients state all few = sym (few_of_more clients 64 state all few)

pub few_not : (client : ℕ) (state : List Owned) (fewer : Bool) → client < 64 → fewer ≡ ltb (owned_by client state) 65 → fewer ≡ false → false ≡ is_few_below 64 state
few_not client state fewer below tells many = sym (many_fails 64 client state below (ltb-false (owned_by client state) 65 (sym tells ∙ many)))
