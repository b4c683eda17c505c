-- The first match of its bucket is the oldest match of all.
use Rattle.std.proofs.Common.{◌≡◌, ◌≢◌, ℕ, ◌+◌, ◌<◌, ◌≤◌, Bool, true, false, eqb, cond, List, [], ◌∷◌, ◌++◌, length, Option, Some, None, refl, sym, ap, ◌∙◌, subst, inl, inr, append_assoc, arith}
use Rattle.std.specs.Option.{IfNone, option_map}
use Rattle.std.proofs.lemmas.Bool.{cases_Bool}
use Rattle.std.proofs.lemmas.Bool.Decides.{eqb_tells}
use Rattle.std.proofs.lemmas.List.{length-append, append-nil, map-append}
use Rattle.zy_slots.specs.declared.slots.SlotId.{SlotId}
use Rattle.zy_slots.specs.Rings.{first_of}
use Rattle.zy_slots.specs.Cells.{Cell, Cells, ids, chain_of, Stands, IsLive}
use Rattle.zy_slots.proofs.ListLemmas.{all_split}
use Rattle.zy_tuple.specs.declared.values.Field.{Field}
use Rattle.zy_tuple.specs.declared.values.Slot.{Slot}
use Rattle.zy_tuple.specs.declared.values.Reply.TheVariants.{Got}
use Rattle.zy_tuple.specs.Values.{IsTuple, matches}
use Rattle.zy_space.specs.TupleSpace.{oldest, without_oldest, found}
use Rattle.zy_space.specs.Bucket.{wanted_bucket}
use Rattle.zy_space.specs.Search.{searched, NoneMatch, IsFirstMatch, IsOldestAt, IsAbsent}
use Rattle.zy_space.specs.Changes.{tuples_of, HoldsTuple, AllTuples}
use Rattle.zy_space.proofs.BucketLemmas.{match_in_bucket}

abbrev Tuples : Type 0
Tuples = Cell (List Field)

-- ---- a chain within all cells

-- a chain's cells stand so in the list
pub record IsInList (bucket : ℕ) (cells done : List Tuples) (cell : Tuples) (left : List Tuples) : Type 0 where
  pub earlier : List Tuples
  pub later : List Tuples
  pub split : cells ≡ earlier ++ cell ∷ later
  pub before : chain_of bucket earlier ≡ done
  pub behind : chain_of bucket later ≡ left
  pub in_bucket : cell.bucket ≡ bucket

same_head : {A : Type 0} (x y : A) (xs ys : List A) → x ∷ xs ≡ y ∷ ys → (x ≡ y) × (xs ≡ ys)
same_head x y xs ys is = (cc, cc)

pub chain_in_list : (bucket : ℕ) (cells done : List Tuples) (cell : Tuples) (left : List Tuples)
    → chain_of bucket cells ≡ done ++ cell ∷ left → IsInList bucket cells done cell left
chain_in_list bucket [] [] cell left is = absurd (cc)
chain_in_list bucket [] (x ∷ done) cell left is = absurd (cc)
chain_in_list bucket (first ∷ cells) done cell left is =
    elim (eqb_tells first.bucket bucket) [
      | inl same ↦
          let here : first ∷ chain_of bucket cells ≡ done ++ cell ∷ left = rw same.0 at is in
          elim done as (λ d. first ∷ chain_of bucket cells ≡ d ++ cell ∷ left → IsInList bucket (first ∷ cells) d cell left) [
            | [] ↦ λ now.
                let parts = same_head first cell (chain_of bucket cells) left now in
                record { earlier = []; later = cells; split = ap (λ (c : Tuples). c ∷ cells) parts.0; before = refl; behind = parts.1; in_bucket = subst (λ (c : Tuples). c.bucket ≡ bucket) parts.0 same.1 }
            | x ∷ rest ↦ λ now.
                let parts = same_head first x (chain_of bucket cells) (rest ++ cell ∷ left) now in
                let found = chain_in_list bucket cells rest cell left parts.1 in
                let head : chain_of bucket (first ∷ found.earlier) ≡ first ∷ chain_of bucket found.earlier = rw same.0 refl in
                record {
                  earlier = first ∷ found.earlier;
                  later = found.later;
                  split = ap (λ (l : List Tuples). first ∷ l) found.split;
                  before = head ∙ ap (λ (l : List Tuples). first ∷ l) found.before ∙ ap (λ (c : Tuples). c ∷ rest) parts.0;
                  behind = found.behind;
                  in_bucket = found.in_bucket;
                }
          ] here
      | inr other ↦
          let found = chain_in_list bucket cells done cell left (rw other.0 at is) in
          let head : chain_of bucket (first ∷ found.earlier) ≡ chain_of bucket found.earlier = rw other.0 refl in
          record {
            earlier = first ∷ found.earlier;
            later = found.later;
            split = ap (λ (l : List Tuples). first ∷ l) found.split;
            before = head ∙ found.before;
            behind = found.behind;
            in_bucket = found.in_bucket;
          }
    ]

pub chain_few : (bucket : Option ℕ) (cells : List Tuples) → length (searched bucket cells) ≤ length cells
chain_few None cells = omega arith
chain_few (Some bucket) [] = omega arith
chain_few (Some bucket) (cell ∷ cells) =
    let rest = chain_few (Some bucket) cells in
    elim (eqb cell.bucket bucket) as (λ passes. length (cond passes (cell ∷ chain_of bucket cells) (chain_of bucket cells)) ≤ length (cell ∷ cells)) [ true ↦ omega arith | false ↦ omega arith ]

-- what stands among those that are searched stands in the list
pub stands_searched : (bucket : Option ℕ) (cells : Cells (List Field)) (id : ℕ) (earlier : List Tuples) (cell : Tuples) (later : List Tuples)
    → searched bucket cells.live ≡ earlier ++ cell ∷ later → cell.id ≡ id → IsLive cells id
stands_searched None cells id earlier cell later is named = (earlier, cell, later, record { split = is; named = named })
stands_searched (Some bucket) cells id earlier cell later is named =
    let found = chain_in_list bucket cells.live earlier cell later is in
    (found.earlier, cell, found.later, record { split = found.split; named = named })

-- none in the chain, and no match outside it: none at all
none_in_list : (template : List Slot) (bucket : ℕ) (cells : List Tuples) → wanted_bucket template ≡ Some bucket → AllTuples cells
    → NoneMatch template (chain_of bucket cells) → NoneMatch template cells
none_in_list template bucket [] is all none = tt
none_in_list template bucket (cell ∷ cells) is all none =
    elim (eqb_tells cell.bucket bucket) [
      | inl same ↦
          let here : NoneMatch template (cell ∷ chain_of bucket cells) = rw same.0 at none in
          (here.0, none_in_list template bucket cells is all.1 here.1)
      | inr other ↦ (
        elim (cases_Bool (matches template cell.value)) [
          | inl match ↦ absurd (other.1 (all.0.1 ∙ match_in_bucket template cell.value bucket is match))
          | inr miss ↦ miss
        ],
        none_in_list template bucket cells is all.1 (rw other.0 at none),
      )
    ]

all_before : (cells earlier : List Tuples) (cell : Tuples) (later : List Tuples) → cells ≡ earlier ++ cell ∷ later → AllTuples cells → AllTuples earlier
all_before cells [] cell later is all = tt
all_before [] (x ∷ earlier) cell later is all = absurd (cc)
all_before (first ∷ cells) (x ∷ earlier) cell later is all =
    let parts = same_head first x cells (earlier ++ cell ∷ later) is in
    (subst HoldsTuple parts.0 all.0, all_before cells earlier cell later parts.1 all.1)

first_in_list : (template : List Slot) (wanted : Option ℕ) (cells : List Tuples) (id : ℕ) → wanted ≡ wanted_bucket template → AllTuples cells
    → IsFirstMatch template (searched wanted cells) id → IsFirstMatch template cells id
first_in_list template None cells id is all first = first
first_in_list template (Some bucket) cells id is all first =
    let found = chain_in_list bucket cells first.earlier first.cell first.later first.split in
    record {
      earlier = found.earlier;
      cell = first.cell;
      later = found.later;
      split = found.split;
      named = first.named;
      fits = first.fits;
      none_before = none_in_list template bucket found.earlier (sym is) (all_before cells found.earlier first.cell found.later found.split all) (subst (NoneMatch template) (sym found.before) first.none_before);
    }

none_in_all : (template : List Slot) (wanted : Option ℕ) (cells : List Tuples) → wanted ≡ wanted_bucket template → AllTuples cells
    → NoneMatch template (searched wanted cells) → NoneMatch template cells
none_in_all template None cells is all none = none
none_in_all template (Some bucket) cells is all none = none_in_list template bucket cells (sym is) all none

-- ---- walks

-- so many are behind, none of which matches, and the next one is this
pub record IsWalked (template : List Slot) (cells : List Tuples) (steps : ℕ) (at : Option SlotId) : Type 0 where
  pub done : List Tuples
  pub left : List Tuples
  pub split : cells ≡ done ++ left
  pub many : length done ≡ steps
  pub next : option_map (λ (id : SlotId). id.0) at ≡ first_of (ids left)
  pub none : NoneMatch template done

none_push : (template : List Slot) (done : List Tuples) (cell : Tuples) → NoneMatch template done → matches template cell.value ≡ false → NoneMatch template (done ++ cell ∷ [])
none_push template [] cell none miss = (miss, tt)
none_push template (first ∷ done) cell none miss = (none.0, none_push template done cell none.1 miss)

-- the one that is next
pub record IsNext (cells done left : List Tuples) (id : SlotId) : Type 0 where
  pub cell : Tuples
  pub later : List Tuples
  pub is : left ≡ cell ∷ later
  pub split : cells ≡ done ++ cell ∷ later
  pub named : cell.id ≡ id.0

pub next_is : (cells done left : List Tuples) (id : SlotId) → cells ≡ done ++ left → option_map (λ (id : SlotId). id.0) (Some id) ≡ first_of (ids left) → IsNext cells done left id
next_is cells done [] id split next = absurd (cc)
next_is cells done (cell ∷ later) id split next = record { cell = cell; later = later; is = refl; split = split; named = cc }

pub none_left : (left : List Tuples) → option_map (λ (id : SlotId). id.0) None ≡ first_of (ids left) → left ≡ []
none_left [] next = refl
none_left (cell ∷ later) next = absurd (cc)

pub walk_start : (template : List Slot) (cells : List Tuples) (at : Option SlotId) → option_map (λ (id : SlotId). id.0) at ≡ first_of (ids cells) → IsWalked template cells 0 at
walk_start template cells at first = record { done = []; left = cells; split = refl; many = refl; next = first; none = tt }

pub walk_finds : (template : List Slot) (cells : List Tuples) (steps : ℕ) (id : SlotId) (fits : Bool) → IsWalked template cells steps (Some id)
    → ((earlier : List Tuples) (cell : Tuples) (later : List Tuples) → cells ≡ earlier ++ cell ∷ later → cell.id ≡ id.0 → fits ≡ matches template cell.value) → fits ≡ true → IsFirstMatch template cells id.0
walk_finds template cells steps id fits walked tells found =
    let at = next_is cells walked.done walked.left id walked.split walked.next in
    record {
      earlier = walked.done;
      cell = at.cell;
      later = at.later;
      split = at.split;
      named = at.named;
      fits = sym (tells walked.done at.cell at.later at.split at.named) ∙ found;
      none_before = walked.none;
    }

pub walk_goes_on : (template : List Slot) (cells : List Tuples) (steps : ℕ) (id : SlotId) (at' : Option SlotId) (fits : Bool) → IsWalked template cells steps (Some id)
    → ((earlier : List Tuples) (cell : Tuples) (later : List Tuples) → cells ≡ earlier ++ cell ∷ later → cell.id ≡ id.0 → fits ≡ matches template cell.value) → fits ≡ false
    → ((earlier : List Tuples) (cell : Tuples) (later : List Tuples) → cells ≡ earlier ++ cell ∷ later → cell.id ≡ id.0 → option_map (λ (id : SlotId). id.0) at' ≡ first_of (ids later))
    → IsWalked template cells (steps + 1) at'
walk_goes_on template cells steps id at' fits walked tells missed follows =
    let at = next_is cells walked.done walked.left id walked.split walked.next in
    record {
      done = walked.done ++ at.cell ∷ [];
      left = at.later;
      split = at.split ∙ sym (append_assoc walked.done (at.cell ∷ []) at.later);
      many = length-append walked.done (at.cell ∷ []) ∙ ap (λ (n : ℕ). n + 1) walked.many;
      next = follows walked.done at.cell at.later at.split at.named;
      none = none_push template walked.done at.cell walked.none (sym (tells walked.done at.cell at.later at.split at.named) ∙ missed);
    }

pub walk_ends : (template : List Slot) (cells : List Tuples) (steps : ℕ) → IsWalked template cells steps None → NoneMatch template cells
walk_ends template cells steps walked =
    subst (NoneMatch template) (sym (walked.split ∙ ap (λ (l : List Tuples). walked.done ++ l) (none_left walked.left walked.next) ∙ append-nil walked.done)) walked.none

pub nil_left : (done left : List Tuples) → length (done ++ left) ≤ length done → left ≡ []
nil_left done [] few = refl
nil_left done (cell ∷ later) few = absurd (omega (arith, few, length-append done (cell ∷ later)))

pub walk_is_full : (template : List Slot) (cells : List Tuples) (steps : ℕ) (at : Option SlotId) → IsWalked template cells steps at → length cells ≤ steps → NoneMatch template cells
walk_is_full template cells steps at walked few =
    let none = nil_left walked.done walked.left (omega (arith, few, walked.many, ap length walked.split)) in
    subst (NoneMatch template) (sym (walked.split ∙ ap (λ (l : List Tuples). walked.done ++ l) none ∙ append-nil walked.done)) walked.none

-- the next one in the chain is the next one in the list's chain
pub next_in_chain : (bucket : ℕ) (cells : Cells (List Field)) (id : ℕ) (next : Option ℕ)
    → ((earlier : List Tuples) (cell : Tuples) (later : List Tuples) → Stands cells id earlier cell later → next ≡ first_of (ids (chain_of cell.bucket later)))
    → (earlier : List Tuples) (cell : Tuples) (later : List Tuples) → chain_of bucket cells.live ≡ earlier ++ cell ∷ later → cell.id ≡ id → next ≡ first_of (ids later)
next_in_chain bucket cells id next tells earlier cell later is named =
    let found = chain_in_list bucket cells.live earlier cell later is in
    tells found.earlier cell found.later (record { split = found.split; named = named })
    ∙ ap (λ (b : ℕ). first_of (ids (chain_of b found.later))) found.in_bucket
    ∙ ap (λ (l : List Tuples). first_of (ids l)) found.behind

-- what is told of a live cell is told of one that is searched
pub told_in_searched : (bucket : Option ℕ) (cells : Cells (List Field)) (id : ℕ) (fits : Bool) (template : List Slot)
    → ((earlier : List Tuples) (cell : Tuples) (later : List Tuples) → Stands cells id earlier cell later → fits ≡ matches template cell.value)
    → (earlier : List Tuples) (cell : Tuples) (later : List Tuples) → searched bucket cells.live ≡ earlier ++ cell ∷ later → cell.id ≡ id → fits ≡ matches template cell.value
told_in_searched None cells id fits template tells earlier cell later is named = tells earlier cell later (record { split = is; named = named })
told_in_searched (Some bucket) cells id fits template tells earlier cell later is named =
    let found = chain_in_list bucket cells.live earlier cell later is in
    tells found.earlier cell found.later (record { split = found.split; named = named })

pub walk_is_live : (template : List Slot) (bucket : Option ℕ) (cells : Cells (List Field)) (steps : ℕ) (id : SlotId)
    → IsWalked template (searched bucket cells.live) steps (Some id) → IsLive cells id.0
walk_is_live template bucket cells steps id walked =
    let at = next_is (searched bucket cells.live) walked.done walked.left id walked.split walked.next in
    stands_searched bucket cells id.0 walked.done at.cell at.later at.split at.named

-- ---- the oldest match

oldest_is : (template : List Slot) (earlier : List Tuples) (cell : Tuples) (later : List Tuples) → NoneMatch template earlier → matches template cell.value ≡ true
    → (oldest template (tuples_of (earlier ++ cell ∷ later)) ≡ Some cell.value) × (without_oldest template (tuples_of (earlier ++ cell ∷ later)) ≡ tuples_of (earlier ++ later))
oldest_is template [] cell later none fits = rw fits (refl, refl)
oldest_is template (first ∷ earlier) cell later none fits =
    let rest = oldest_is template earlier cell later none.1 fits in
    rw none.0 (rest.0, ap (λ (tuples : List (List Field)). first.value ∷ tuples) rest.1)

oldest_none : (template : List Slot) (cells : List Tuples) → NoneMatch template cells → (oldest template (tuples_of cells) ≡ None) × (without_oldest template (tuples_of cells) ≡ tuples_of cells)
oldest_none template [] none = (refl, refl)
oldest_none template (cell ∷ cells) none =
    let rest = oldest_none template cells none.1 in
    rw none.0 (rest.0, ap (λ (tuples : List (List Field)). cell.value ∷ tuples) rest.1)

pub first_is_oldest : (template : List Slot) (wanted : Option ℕ) (cells : List Tuples) (id : ℕ) → wanted ≡ wanted_bucket template → AllTuples cells
    → IsFirstMatch template (searched wanted cells) id → IsOldestAt template cells id
first_is_oldest template wanted cells id is all found =
    let first = first_in_list template wanted cells id is all found in
    let parts = oldest_is template first.earlier first.cell first.later first.none_before first.fits in
    record {
      earlier = first.earlier;
      cell = first.cell;
      later = first.later;
      split = first.split;
      named = first.named;
      here = ap (λ (l : List Tuples). oldest template (tuples_of l)) first.split ∙ parts.0;
      others = ap (λ (l : List Tuples). without_oldest template (tuples_of l)) first.split ∙ parts.1;
    }

pub none_is_absent : (template : List Slot) (wanted : Option ℕ) (cells : List Tuples) → wanted ≡ wanted_bucket template → AllTuples cells
    → NoneMatch template (searched wanted cells) → IsAbsent template (tuples_of cells)
none_is_absent template wanted cells is all none =
    let parts = oldest_none template cells (none_in_all template wanted cells is all none) in
    record { none = parts.0; all = parts.1 }

-- a copy of the tuple there is what is found
pub oldest_given : (template : List Slot) (cells : Cells (List Field)) (id : ℕ) (tuple : List Field) → IsOldestAt template cells.live id
    → ((earlier : List Tuples) (cell : Tuples) (later : List Tuples) → Stands cells id earlier cell later → tuple ≡ cell.value) → Got tuple ≡ found (oldest template (tuples_of cells.live))
oldest_given template cells id tuple at tells =
    ap Got (tells at.earlier at.cell at.later (record { split = at.split; named = at.named })) ∙ sym (ap found at.here)

pub given_is_tuple : (template : List Slot) (cells : Cells (List Field)) (id : ℕ) (tuple : List Field) → AllTuples cells.live → IsOldestAt template cells.live id
    → ((earlier : List Tuples) (cell : Tuples) (later : List Tuples) → Stands cells id earlier cell later → tuple ≡ cell.value) → IsTuple tuple
given_is_tuple template cells id tuple all at tells =
    let parts = all_split HoldsTuple at.earlier at.cell at.later (subst AllTuples at.split all) in
    subst IsTuple (sym (tells at.earlier at.cell at.later (record { split = at.split; named = at.named }))) parts.1.0

pub none_then : {A : Type 0} {P Q : Type 0} (found : Option A) → IfNone found P → (P → Q) → IfNone found Q
none_then None none then = then none
none_then (Some x) none then = tt

pub none_given : {A : Type 0} {P : Type 0} (found : Option A) → P → IfNone found P
none_given None holds = holds
none_given (Some x) holds = tt
