-- The bytes of the live tuples.
use Rattle.std.proofs.Common.{◌≡◌, ℕ, ◌+◌, ◌<◌, ◌≤◌, List, [], ◌∷◌, ◌++◌, length, Option, Some, None, Ok, refl, sym, ap, ◌∙◌, subst, append_assoc, arith}
use Rattle.std.specs.Option.{option_map}
use Rattle.std.specs.List.{flat_map}
use Rattle.std.specs.Int.{w16}
use Rattle.std.proofs.lemmas.Grind.{flat_map-append}
use Rattle.std.proofs.lemmas.List.{append-nil, length-append}
use Rattle.zy_slots.specs.declared.slots.SlotId.{SlotId}
use Rattle.zy_slots.specs.Rings.{first_of}
use Rattle.zy_slots.specs.Cells.{Cell, Cells, ids, Stands, IsLive}
use Rattle.zy_slots.proofs.ListLemmas.{all_split, all_join}
use Rattle.zy_tuple.specs.declared.values.Field.{Field}
use Rattle.zy_tuple.specs.Values.{IsTuple}
use Rattle.zy_wire.specs.Spelling.{IsBytes, number}
use Rattle.zy_wire.proofs.Parts.{IsBytes-after, wide16, number-exact}
use Rattle.zy_tuple.specs.Bytes.{tuple_bytes, tuple_spelling}
use Rattle.zy_tuple.proofs.BytesLaws.{tuple-exact}
use Rattle.zy_space.specs.Bucket.{bucket_of}
use Rattle.zy_space.specs.Changes.{tuples_of, HoldsTuple, AllTuples, IsPutLast}
use Rattle.zy_space.proofs.SearchLemmas.{IsNext, next_is, none_left, nil_left}
use Rattle.zy_space.proofs.ChangeLemmas.{tuples-append, put_more}

abbrev Tuples : Type 0
Tuples = Cell (List Field)

abbrev pub spelled : List Tuples → List ℕ
spelled cells = flat_map tuple_bytes (tuples_of cells)

-- so many are written, and the next one is this
pub record IsWritten (before : List ℕ) (cells : List Tuples) (steps : ℕ) (at : Option SlotId) (out : List ℕ) : Type 0 where
  pub done : List Tuples
  pub left : List Tuples
  pub split : cells ≡ done ++ left
  pub many : length done ≡ steps
  pub next : option_map (λ (id : SlotId). id.0) at ≡ first_of (ids left)
  pub written : out ≡ before ++ spelled done

pub write_start : (out : List ℕ) (cells : List Tuples) (at : Option SlotId) → option_map (λ (id : SlotId). id.0) at ≡ first_of (ids cells) → IsWritten out cells 0 at out
write_start out cells at first = record { done = []; left = cells; split = refl; many = refl; next = first; written = sym (append-nil out) }

pub next_written : (before : List ℕ) (cells : List Tuples) (steps : ℕ) (id : SlotId) (out : List ℕ) (so_far : IsWritten before cells steps (Some id) out) → IsNext cells so_far.done so_far.left id
next_written before cells steps id out so_far = next_is cells so_far.done so_far.left id so_far.split so_far.next

pub written_is_live : (before : List ℕ) (cells : Cells (List Field)) (steps : ℕ) (id : SlotId) (out : List ℕ) → IsWritten before cells.live steps (Some id) out → IsLive cells id.0
written_is_live before cells steps id out so_far =
    let at = next_written before cells.live steps id out so_far in
    (so_far.done, at.cell, at.later, record { split = at.split; named = at.named })

pub written_is_tuple : (before : List ℕ) (cells : Cells (List Field)) (steps : ℕ) (id : SlotId) (out : List ℕ) (tuple : List Field) → IsWritten before cells.live steps (Some id) out → AllTuples cells.live
    → ((earlier : List Tuples) (cell : Tuples) (later : List Tuples) → Stands cells id.0 earlier cell later → tuple ≡ cell.value) → IsTuple tuple
written_is_tuple before cells steps id out tuple so_far all tells =
    let at = next_written before cells.live steps id out so_far in
    let holds = all_split HoldsTuple so_far.done at.cell at.later (subst AllTuples at.split all) in
    subst IsTuple (sym (tells so_far.done at.cell at.later (record { split = at.split; named = at.named }))) holds.1.0

pub writes_on : (before : List ℕ) (cells : Cells (List Field)) (steps : ℕ) (id : SlotId) (at' : Option SlotId) (out out' : List ℕ) (tuple : List Field) → IsWritten before cells.live steps (Some id) out
    → ((earlier : List Tuples) (cell : Tuples) (later : List Tuples) → Stands cells id.0 earlier cell later → tuple ≡ cell.value)
    → ((earlier : List Tuples) (cell : Tuples) (later : List Tuples) → Stands cells id.0 earlier cell later → option_map (λ (id : SlotId). id.0) at' ≡ first_of (ids later))
    → out' ≡ out ++ tuple_bytes tuple → IsWritten before cells.live (steps + 1) at' out'
writes_on before cells steps id at' out out' tuple so_far tells follows put =
    let at = next_written before cells.live steps id out so_far in
    let stands : Stands cells id.0 so_far.done at.cell at.later = record { split = at.split; named = at.named } in
    let more : spelled (so_far.done ++ at.cell ∷ []) ≡ spelled so_far.done ++ tuple_bytes at.cell.value =
    ap (flat_map tuple_bytes) (tuples-append so_far.done (at.cell ∷ [])) ∙ flat_map-append tuple_bytes (tuples_of so_far.done) (at.cell.value ∷ [])
    ∙ ap (λ (b : List ℕ). spelled so_far.done ++ b) (append-nil (tuple_bytes at.cell.value)) in
    record {
      done = so_far.done ++ at.cell ∷ [];
      left = at.later;
      split = at.split ∙ sym (append_assoc so_far.done (at.cell ∷ []) at.later);
      many = length-append so_far.done (at.cell ∷ []) ∙ ap (λ (n : ℕ). n + 1) so_far.many;
      next = follows so_far.done at.cell at.later stands;
      written = put ∙ ap (λ (b : List ℕ). b ++ tuple_bytes tuple) so_far.written ∙ ap (λ (t : List Field). (before ++ spelled so_far.done) ++ tuple_bytes t) (tells so_far.done at.cell at.later stands)
          ∙ append_assoc before (spelled so_far.done) (tuple_bytes at.cell.value) ∙ ap (λ (b : List ℕ). before ++ b) (sym more);
    }

pub write_ends : (before : List ℕ) (cells : List Tuples) (steps : ℕ) (out : List ℕ) → IsWritten before cells steps None out → out ≡ before ++ spelled cells
write_ends before cells steps out so_far =
    so_far.written ∙ ap (λ (l : List Tuples). before ++ spelled l) (sym (so_far.split ∙ ap (λ (l : List Tuples). so_far.done ++ l) (none_left so_far.left so_far.next) ∙ append-nil so_far.done))

pub write_is_full : (before : List ℕ) (cells : List Tuples) (steps : ℕ) (at : Option SlotId) (out : List ℕ) → IsWritten before cells steps at out → length cells ≤ steps → out ≡ before ++ spelled cells
write_is_full before cells steps at out so_far few =
    let none = nil_left so_far.done so_far.left (omega (arith, few, so_far.many, ap length so_far.split)) in
    so_far.written ∙ ap (λ (l : List Tuples). before ++ spelled l) (sym (so_far.split ∙ ap (λ (l : List Tuples). so_far.done ++ l) none ∙ append-nil so_far.done))

-- ---- reading

pub put_tuples : (cells cells' : Cells (List Field)) (tuple : List Field) → IsPutLast cells cells' tuple → tuples_of cells'.live ≡ tuples_of cells.live ++ tuple ∷ []
put_tuples cells cells' tuple put = ap (λ (c : Cells (List Field)). tuples_of c.live) put.now ∙ tuples-append cells.live _

pub put_holds : (cells cells' : Cells (List Field)) (tuple : List Field) → IsPutLast cells cells' tuple → IsTuple tuple → AllTuples cells.live → AllTuples cells'.live
put_holds cells cells' tuple put is all =
    let cell : Tuples = record { id = put.id; bucket = bucket_of tuple; value = tuple } in
    subst (λ (c : Cells (List Field)). AllTuples c.live) (sym put.now) (all_join HoldsTuple cells.live (cell ∷ []) all ((is, refl), tt))

pub put_stack : (cells cells' : Cells (List Field)) (tuple : List Field) → IsPutLast cells cells' tuple → cells.stack ≡ [] → cells'.stack ≡ []
put_stack cells cells' tuple put none = ap (λ (c : Cells (List Field)). c.stack) put.now ∙ none

pub put_many : (cells cells' : Cells (List Field)) (tuple : List Field) (count : ℕ) → IsPutLast cells cells' tuple → length cells.live ≡ count → length cells'.live ≡ count + 1
put_many cells cells' tuple count put many = put_more cells cells' tuple put ∙ ap (λ (n : ℕ). n + 1) many

-- what is read is a tuple, with bytes behind it
pub tuple_read : (bytes : List ℕ) (tuple : List Field) (rest : List ℕ) → IsBytes bytes → tuple_spelling.at bytes ≡ Ok (tuple, rest) → IsTuple tuple × IsBytes rest
tuple_read bytes tuple rest fits read =
    let front = tuple-exact.takes bytes tuple rest fits read in
    (front.1, IsBytes-after bytes (tuple_spelling.spell tuple) rest fits front.0)

pub count_read : (bytes : List ℕ) (count : ℕ) (rest : List ℕ) → IsBytes bytes → (number w16 0 4097).at bytes ≡ Ok (count, rest) → IsBytes rest
count_read bytes count rest fits read =
    let front = (number-exact w16 0 4097 wide16 (omega arith)).takes bytes count rest fits read in
    IsBytes-after bytes ((number w16 0 4097).spell count) rest fits front.0
