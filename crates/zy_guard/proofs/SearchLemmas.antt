-- A walk over the live tuples finds the oldest match that a client sees, and one over an owner's chain counts.
use Rattle.std.proofs.Common.{◌≡◌, ℕ, ◌+◌, ◌<◌, ◌≤◌, Bool, true, false, eqb, ltb, cond, List, [], ◌∷◌, ◌++◌, length, Option, Some, None, refl, sym, ap, ◌∙◌, subst, inl, inr, append_assoc, arith}
use Rattle.std.specs.Option.{IfNone, option_map}
use Rattle.std.proofs.lemmas.Bool.{and_parts, lt-ltb, le-ltb}
use Rattle.std.proofs.lemmas.Bool.Decides.{eqb_tells}
use Rattle.std.proofs.lemmas.List.{length-append, append-nil}
use Rattle.zy_slots.specs.declared.slots.SlotId.{SlotId}
use Rattle.zy_slots.specs.Rings.{first_of}
use Rattle.zy_slots.specs.Cells.{Cell, Cells, ids, chain_of, Stands, IsLive}
use Rattle.zy_tuple.specs.declared.values.Slot.{Slot}
use Rattle.zy_tuple.specs.Values.{matches}
use Rattle.zy_guard.specs.declared.values.Owned.{Owned}
use Rattle.zy_guard.specs.GuardedSpace.{sees, visible, oldest, without_oldest, owned_by}
use Rattle.zy_guard.specs.Search.{is_seen, NoneSeen, IsOldestAt}
use Rattle.zy_guard.specs.Changes.{values_of, AllInChains}
use Rattle.zy_guard.specs.SpaceLaws.{oldest_skips}

abbrev Live : Type 0
Live = Cell Owned

-- ---- a chain within all cells

-- a chain's cells stand so in the list
pub record IsInList (bucket : ℕ) (cells done : List Live) (cell : Live) (left : List Live) : Type 0 where
  pub earlier : List Live
  pub later : List Live
  pub split : cells ≡ earlier ++ cell ∷ later
  pub before : chain_of bucket earlier ≡ done
  pub behind : chain_of bucket later ≡ left
  pub in_bucket : cell.bucket ≡ bucket

same_head : {A : Type 0} (x y : A) (xs ys : List A) → x ∷ xs ≡ y ∷ ys → (x ≡ y) × (xs ≡ ys)
same_head x y xs ys is = (cc, cc)

pub chain_in_list : (bucket : ℕ) (cells done : List Live) (cell : Live) (left : List Live)
    → chain_of bucket cells ≡ done ++ cell ∷ left → IsInList bucket cells done cell left
chain_in_list bucket [] [] cell left is = absurd (cc)
chain_in_list bucket [] (x ∷ done) cell left is = absurd (cc)
chain_in_list bucket (first ∷ cells) done cell left is =
    elim (eqb_tells first.bucket bucket) [
      | inl same ↦
          let here : first ∷ chain_of bucket cells ≡ done ++ cell ∷ left = rw same.0 at is in
          elim done as (λ d. first ∷ chain_of bucket cells ≡ d ++ cell ∷ left → IsInList bucket (first ∷ cells) d cell left) [
            | [] ↦ λ now.
                let parts = same_head first cell (chain_of bucket cells) left now in
                record { earlier = []; later = cells; split = ap (λ (c : Live). c ∷ cells) parts.0; before = refl; behind = parts.1; in_bucket = subst (λ (c : Live). c.bucket ≡ bucket) parts.0 same.1 }
            | x ∷ rest ↦ λ now.
                let parts = same_head first x (chain_of bucket cells) (rest ++ cell ∷ left) now in
                let found = chain_in_list bucket cells rest cell left parts.1 in
                let head : chain_of bucket (first ∷ found.earlier) ≡ first ∷ chain_of bucket found.earlier = rw same.0 refl in
                record {
                  earlier = first ∷ found.earlier;
                  later = found.later;
                  split = ap (λ (l : List Live). first ∷ l) found.split;
                  before = head ∙ ap (λ (l : List Live). first ∷ l) found.before ∙ ap (λ (c : Live). c ∷ rest) parts.0;
                  behind = found.behind;
                  in_bucket = found.in_bucket;
                }
          ] here
      | inr other ↦
          let found = chain_in_list bucket cells done cell left (rw other.0 at is) in
          let head : chain_of bucket (first ∷ found.earlier) ≡ chain_of bucket found.earlier = rw other.0 refl in
          record {
            earlier = first ∷ found.earlier;
            later = found.later;
            split = ap (λ (l : List Live). first ∷ l) found.split;
            before = head ∙ found.before;
            behind = found.behind;
            in_bucket = found.in_bucket;
          }
    ]

-- the next one in the chain is the next one in the list's chain
pub next_in_chain : (bucket : ℕ) (cells : Cells Owned) (id : ℕ) (next : Option ℕ)
    → ((earlier : List Live) (cell : Live) (later : List Live) → Stands cells id earlier cell later → next ≡ first_of (ids (chain_of cell.bucket later)))
    → (earlier : List Live) (cell : Live) (later : List Live) → chain_of bucket cells.live ≡ earlier ++ cell ∷ later → cell.id ≡ id → next ≡ first_of (ids later)
next_in_chain bucket cells id next tells earlier cell later is named =
    let found = chain_in_list bucket cells.live earlier cell later is in
    tells found.earlier cell found.later (record { split = found.split; named = named })
    ∙ ap (λ (b : ℕ). first_of (ids (chain_of b found.later))) found.in_bucket
    ∙ ap (λ (l : List Live). first_of (ids l)) found.behind

-- ---- walks

-- the one that is next
pub record IsNext (cells done left : List Live) (id : SlotId) : Type 0 where
  pub cell : Live
  pub later : List Live
  pub is : left ≡ cell ∷ later
  pub split : cells ≡ done ++ cell ∷ later
  pub named : cell.id ≡ id.0

pub next_is : (cells done left : List Live) (id : SlotId) → cells ≡ done ++ left → option_map (λ (id : SlotId). id.0) (Some id) ≡ first_of (ids left) → IsNext cells done left id
next_is cells done [] id split next = absurd (cc)
next_is cells done (cell ∷ later) id split next = record { cell = cell; later = later; is = refl; split = split; named = cc }

pub none_left : (left : List Live) → option_map (λ (id : SlotId). id.0) None ≡ first_of (ids left) → left ≡ []
none_left [] next = refl
none_left (cell ∷ later) next = absurd (cc)

pub nil_left : (done left : List Live) → length (done ++ left) ≤ length done → left ≡ []
nil_left done [] few = refl
nil_left done (cell ∷ later) few = absurd (omega (arith, few, length-append done (cell ∷ later)))

-- so many are behind, of which the client sees no match, and the next one is this
pub record IsWalked (client : ℕ) (template : List Slot) (cells : List Live) (steps : ℕ) (at : Option SlotId) : Type 0 where
  pub done : List Live
  pub left : List Live
  pub split : cells ≡ done ++ left
  pub many : length done ≡ steps
  pub next : option_map (λ (id : SlotId). id.0) at ≡ first_of (ids left)
  pub none : NoneSeen client template done

none_push : (client : ℕ) (template : List Slot) (done : List Live) (cell : Live) → NoneSeen client template done → is_seen client template cell.value ≡ false → NoneSeen client template (done ++ cell ∷ [])
none_push client template [] cell none miss = (miss, tt)
none_push client template (first ∷ done) cell none miss = (none.0, none_push client template done cell none.1 miss)

pub walk_start : (client : ℕ) (template : List Slot) (cells : List Live) (at : Option SlotId) → option_map (λ (id : SlotId). id.0) at ≡ first_of (ids cells) → IsWalked client template cells 0 at
walk_start client template cells at first = record { done = []; left = cells; split = refl; many = refl; next = first; none = tt }

pub walk_is_live : (client : ℕ) (template : List Slot) (cells : Cells Owned) (steps : ℕ) (id : SlotId) → IsWalked client template cells.live steps (Some id) → IsLive cells id.0
walk_is_live client template cells steps id walked =
    let at = next_is cells.live walked.done walked.left id walked.split walked.next in
    (walked.done, at.cell, at.later, record { split = at.split; named = at.named })

pub walk_goes_on : (client : ℕ) (template : List Slot) (cells : Cells Owned) (steps : ℕ) (id : SlotId) (at' : Option SlotId) (fits : Bool) → IsWalked client template cells.live steps (Some id)
    → ((earlier : List Live) (cell : Live) (later : List Live) → Stands cells id.0 earlier cell later → fits ≡ is_seen client template cell.value) → fits ≡ false
    → ((earlier : List Live) (cell : Live) (later : List Live) → Stands cells id.0 earlier cell later → option_map (λ (id : SlotId). id.0) at' ≡ first_of (ids later))
    → IsWalked client template cells.live (steps + 1) at'
walk_goes_on client template cells steps id at' fits walked tells missed follows =
    let at = next_is cells.live walked.done walked.left id walked.split walked.next in
    let stands : Stands cells id.0 walked.done at.cell at.later = record { split = at.split; named = at.named } in
    record {
      done = walked.done ++ at.cell ∷ [];
      left = at.later;
      split = at.split ∙ sym (append_assoc walked.done (at.cell ∷ []) at.later);
      many = length-append walked.done (at.cell ∷ []) ∙ ap (λ (n : ℕ). n + 1) walked.many;
      next = follows walked.done at.cell at.later stands;
      none = none_push client template walked.done at.cell walked.none (sym (tells walked.done at.cell at.later stands) ∙ missed);
    }

walk_ends : (client : ℕ) (template : List Slot) (cells : List Live) (steps : ℕ) → IsWalked client template cells steps None → NoneSeen client template cells
walk_ends client template cells steps walked =
    subst (NoneSeen client template) (sym (walked.split ∙ ap (λ (l : List Live). walked.done ++ l) (none_left walked.left walked.next) ∙ append-nil walked.done)) walked.none

walk_is_full : (client : ℕ) (template : List Slot) (cells : List Live) (steps : ℕ) (at : Option SlotId) → IsWalked client template cells steps at → length cells ≤ steps → NoneSeen client template cells
walk_is_full client template cells steps at walked few =
    let none = nil_left walked.done walked.left (omega (arith, few, walked.many, ap length walked.split)) in
    subst (NoneSeen client template) (sym (walked.split ∙ ap (λ (l : List Live). walked.done ++ l) none ∙ append-nil walked.done)) walked.none

-- ---- the oldest match

oldest_is : (client : ℕ) (template : List Slot) (earlier : List Live) (cell : Live) (later : List Live) → NoneSeen client template earlier → is_seen client template cell.value ≡ true
    → (oldest template (visible client (values_of (earlier ++ cell ∷ later))) ≡ Some cell.value) × (without_oldest client template (values_of (earlier ++ cell ∷ later)) ≡ values_of (earlier ++ later))
oldest_is client template [] cell later none fits =
    let parts = and_parts (sees client cell.value) (matches template cell.value.tuple) fits in
    rw (parts.0, parts.1) (refl, refl)
oldest_is client template (first ∷ earlier) cell later none fits =
    let rest = oldest_is client template earlier cell later none.1 fits in
    (oldest_skips client template first.value (values_of (earlier ++ cell ∷ later)) none.0 ∙ rest.0, rw none.0 (ap (λ (state : List Owned). first.value ∷ state) rest.1))

oldest_none : (client : ℕ) (template : List Slot) (cells : List Live) → NoneSeen client template cells → oldest template (visible client (values_of cells)) ≡ None
oldest_none client template [] none = refl
oldest_none client template (cell ∷ cells) none = oldest_skips client template cell.value (values_of cells) none.0 ∙ oldest_none client template cells none.1

pub walk_finds : (client : ℕ) (template : List Slot) (cells : Cells Owned) (steps : ℕ) (id : SlotId) (fits : Bool) → IsWalked client template cells.live steps (Some id)
    → ((earlier : List Live) (cell : Live) (later : List Live) → Stands cells id.0 earlier cell later → fits ≡ is_seen client template cell.value) → fits ≡ true → IsOldestAt client template cells.live id.0
walk_finds client template cells steps id fits walked tells found =
    let at = next_is cells.live walked.done walked.left id walked.split walked.next in
    let parts = oldest_is client template walked.done at.cell at.later walked.none (sym (tells walked.done at.cell at.later (record { split = at.split; named = at.named })) ∙ found) in
    record {
      earlier = walked.done;
      cell = at.cell;
      later = at.later;
      split = at.split;
      named = at.named;
      here = ap (λ (l : List Live). oldest template (visible client (values_of l))) at.split ∙ parts.0;
      others = ap (λ (l : List Live). without_oldest client template (values_of l)) at.split ∙ parts.1;
    }

pub walk_misses : (client : ℕ) (template : List Slot) (cells : List Live) (steps : ℕ) → IsWalked client template cells steps None → oldest template (visible client (values_of cells)) ≡ None
walk_misses client template cells steps walked = oldest_none client template cells (walk_ends client template cells steps walked)

pub walk_misses_all : (client : ℕ) (template : List Slot) (cells : List Live) (steps : ℕ) (at : Option SlotId) → IsWalked client template cells steps at → length cells ≤ steps
    → oldest template (visible client (values_of cells)) ≡ None
walk_misses_all client template cells steps at walked few = oldest_none client template cells (walk_is_full client template cells steps at walked few)

pub none_given : {A : Type 0} {P : Type 0} (found : Option A) → P → IfNone found P
none_given None holds = holds
none_given (Some x) holds = tt

-- ---- counting

-- so many of an owner's chain are behind, and the next one is this
pub record IsCounted (owner : ℕ) (cells : List Live) (steps : ℕ) (at : Option SlotId) : Type 0 where
  pub done : List Live
  pub left : List Live
  pub split : chain_of owner cells ≡ done ++ left
  pub many : length done ≡ steps
  pub next : option_map (λ (id : SlotId). id.0) at ≡ first_of (ids left)

pub count_start : (owner : ℕ) (cells : List Live) (at : Option SlotId) → option_map (λ (id : SlotId). id.0) at ≡ first_of (ids (chain_of owner cells)) → IsCounted owner cells 0 at
count_start owner cells at first = record { done = []; left = chain_of owner cells; split = refl; many = refl; next = first }

pub count_goes_on : (owner : ℕ) (cells : Cells Owned) (steps : ℕ) (id : SlotId) (at' : Option SlotId) → IsCounted owner cells.live steps (Some id)
    → ((earlier : List Live) (cell : Live) (later : List Live) → Stands cells id.0 earlier cell later → option_map (λ (id : SlotId). id.0) at' ≡ first_of (ids (chain_of cell.bucket later)))
    → IsCounted owner cells.live (steps + 1) at'
count_goes_on owner cells steps id at' counted follows =
    let at = next_is (chain_of owner cells.live) counted.done counted.left id counted.split counted.next in
    record {
      done = counted.done ++ at.cell ∷ [];
      left = at.later;
      split = at.split ∙ sym (append_assoc counted.done (at.cell ∷ []) at.later);
      many = length-append counted.done (at.cell ∷ []) ∙ ap (λ (n : ℕ). n + 1) counted.many;
      next = next_in_chain owner cells id.0 (option_map (λ (id : SlotId). id.0) at') follows counted.done at.cell at.later at.split at.named;
    }

chain_owned : (owner : ℕ) (cells : List Live) → AllInChains cells → length (chain_of owner cells) ≡ owned_by owner (values_of cells)
chain_owned owner [] all = refl
chain_owned owner (cell ∷ cells) all =
    let rest = chain_owned owner cells all.1 in
    let same : eqb cell.bucket owner ≡ eqb cell.value.owner.0 owner = ap (λ (b : ℕ). eqb b owner) all.0 in
    rw same (elim (eqb cell.value.owner.0 owner) as (λ here. length (cond here (cell ∷ chain_of owner cells) (chain_of owner cells)) ≡ cond here 1 0 + owned_by owner (values_of cells)) [ true ↦ omega (arith, rest) | false ↦ omega (arith, rest) ])

-- the chain ends before the limit
pub count_ends : (owner : ℕ) (cells : List Live) (steps limit : ℕ) → AllInChains cells → IsCounted owner cells steps None → steps < limit → true ≡ ltb (owned_by owner (values_of cells)) limit
count_ends owner cells steps limit all counted small =
    let whole : chain_of owner cells ≡ counted.done = counted.split ∙ ap (λ (l : List Live). counted.done ++ l) (none_left counted.left counted.next) ∙ append-nil counted.done in
    sym (lt-ltb (owned_by owner (values_of cells)) limit (omega (arith, small, counted.many, ap length whole, chain_owned owner cells all)))

-- or is as long
pub count_is_full : (owner : ℕ) (cells : List Live) (steps limit : ℕ) (at : Option SlotId) → AllInChains cells → IsCounted owner cells steps at → limit ≤ steps → false ≡ ltb (owned_by owner (values_of cells)) limit
count_is_full owner cells steps limit at all counted many =
    sym (le-ltb (owned_by owner (values_of cells)) limit (omega (arith, many, counted.many, ap length counted.split, length-append counted.done counted.left, chain_owned owner cells all)))
