-- The cells that the links lead through are those of the rings.
use Rattle.std.proofs.Common.{◌≡◌, ◌≢◌, ◌⊎◌, ℕ, zero, suc, ◌+◌, ◌<◌, ◌≤◌, eqb, List, [], ◌∷◌, ◌++◌, length, Option, Some, refl, sym, ap, ◌∙◌, subst, inl, inr, arith, append_assoc}
use Rattle.std.specs.List.{AllByRecursion}
use Rattle.std.proofs.lemmas.Bool.{eq-eqb}
use Rattle.std.proofs.lemmas.Bool.Decides.{eqb_tells}
use Rattle.std.proofs.lemmas.List.{length-map}
use Rattle.zy_slots.specs.declared.link.Link.{Link}
use Rattle.zy_slots.specs.declared.slot.Kind.TheVariants.{Order, Pile}
use Rattle.zy_slots.specs.declared.slot.Held.{Held}
use Rattle.zy_slots.specs.declared.slot.Slot.{Slot}
use Rattle.zy_slots.specs.Rings.{first_of, last_from, last_of, IsRing}
use Rattle.zy_slots.specs.Columns.{slot_at, linked}
use Rattle.zy_slots.specs.Cells.{Cell, Kept, Cells, ids, put_behind}
use Rattle.zy_slots.specs.Shape.{times, walk, kept_ids, with_cell, cells_at, with_kept, stack_at, cells_of, Layout, IsShape, IsLinked, HoldsLive, HoldsKept}
use Rattle.zy_slots.proofs.PutLemmas.{next_of}
use Rattle.zy_slots.proofs.TimesLemmas.{times-append, times_self}
use Rattle.zy_slots.proofs.ListLemmas.{ids-append}
use Rattle.zy_slots.proofs.StepLemmas.{laid}

walked : (at : Option ℕ → Link) (places front back : List ℕ) (more : ℕ) → IsRing at places → places ≡ front ++ back → length back ≤ more
    → walk at more (first_of back) ≡ back
walked at places front [] zero ring split few = refl
walked at places front [] (suc more) ring split few = refl
walked at places front (place ∷ back) zero ring split few = absurd (omega arith)
walked at places front (place ∷ back) (suc more) ring split few =
    ap (λ (o : Option ℕ). place ∷ walk at more o) (ap next_of (ring.links front place back split))
    ∙ ap (λ (list : List ℕ). place ∷ list) (walked at places (front ++ place ∷ []) back more ring (split ∙ sym (append_assoc front (place ∷ []) back)) (omega arith))

last_some : (place : ℕ) (places : List ℕ) → (last : ℕ) × (last_from (Some place) places ≡ Some last) × (0 < times last (place ∷ places))
last_some place [] = (place, refl, omega (arith, times_self place []))
last_some place (other ∷ places) = let rest = last_some other places in (rest.0, rest.1, omega (arith, rest.2))

module _ {T : Type 0} where
  cells_held : (slots : List (Slot T)) (cells : List (Cell T)) → AllByRecursion (HoldsLive slots) cells → cells_at slots (ids cells) ≡ cells
  cells_held slots [] holds = refl
  cells_held slots (cell ∷ cells) holds =
      ap (λ (held : Held T). with_cell cell.id held.bucket held.value (cells_at slots (ids cells))) holds.0.held
      ∙ ap (λ (list : List (Cell T)). cell ∷ list) (cells_held slots cells holds.1)

  stack_held : (slots : List (Slot T)) (items : List (Kept T)) → AllByRecursion (HoldsKept slots) items → stack_at slots (kept_ids items) ≡ items
  stack_held slots [] holds = refl
  stack_held slots (item ∷ items) holds =
      ap (λ (held : Held T). with_kept item.cell.id held.bucket held.value (slot_at slots item.cell.id).order (slot_at slots item.cell.id).chain (stack_at slots (kept_ids items))) holds.0.held
      ∙ ap (λ (link : Link). with_kept item.cell.id item.cell.bucket (Some item.cell.value) link (slot_at slots item.cell.id).chain (stack_at slots (kept_ids items))) holds.0.order
      ∙ ap (λ (link : Link). with_kept item.cell.id item.cell.bucket (Some item.cell.value) item.order link (stack_at slots (kept_ids items))) holds.0.chain
      ∙ ap (λ (list : List (Kept T)). item ∷ list) (stack_held slots items holds.1)

  pub viewed : (slots : List (Slot T)) (order : Link) (chains : List Link) (stack free : Link) (layout : Layout T) → IsShape slots order chains stack free layout
      → cells_of slots order stack ≡ record { live = layout.live; stack = layout.stack }
  viewed slots order chains stack free layout shape = λ i. record { live = live i; stack = items i }
    where
      live : cells_at slots (walk (linked Order slots order) (length slots) order.next) ≡ layout.live
      live =
          ap (λ (o : Option ℕ). cells_at slots (walk (linked Order slots order) (length slots) o)) (ap next_of shape.order_ring.ends)
          ∙ ap (cells_at slots) (walked (linked Order slots order) (ids layout.live) [] (ids layout.live) (length slots) shape.order_ring refl
          (omega (arith, shape.sound.sized, length-map layout.live (λ (c : Cell T). c.id))))
          ∙ cells_held slots layout.live shape.holds_live

      items : stack_at slots (walk (linked Pile slots stack) (length slots) stack.next) ≡ layout.stack
      items =
          ap (λ (o : Option ℕ). stack_at slots (walk (linked Pile slots stack) (length slots) o)) (ap next_of shape.stack_ring.ends)
          ∙ ap (stack_at slots) (walked (linked Pile slots stack) (kept_ids layout.stack) [] (kept_ids layout.stack) (length slots) shape.stack_ring refl
          (omega (arith, shape.sound.sized, length-map layout.stack (λ (k : Kept T). k.cell.id))))
          ∙ stack_held slots layout.stack shape.holds_kept

  -- the shape over the cells that are seen
  pub settled : (slots : List (Slot T)) (order : Link) (chains : List Link) (stack free : Link) (is : IsLinked slots order chains stack free) (cells : Cells T)
      → cells_of slots order stack ≡ cells → IsShape slots order chains stack free (laid cells.live cells.stack is.layout.empty [] is.layout.age)
  settled slots order chains stack free is cells same =
      let seen : cells_of slots order stack ≡ record { live = is.layout.live; stack = is.layout.stack } = viewed slots order chains stack free is.layout is.shape in
      let whole : is.layout ≡ laid cells.live cells.stack is.layout.empty [] is.layout.age =
      ap (λ (loose : List ℕ). laid is.layout.live is.layout.stack is.layout.empty loose is.layout.age) is.tight
      ∙ ap (λ (c : Cells T). laid c.live c.stack is.layout.empty [] is.layout.age) (sym seen ∙ same) in
      subst (IsShape slots order chains stack free) whole is.shape

  pub linked_now : (slots : List (Slot T)) (order : Link) (chains : List Link) (stack free : Link) (live : List (Cell T)) (items : List (Kept T)) (empty : List ℕ) (age : ℕ → ℕ)
      → IsShape slots order chains stack free (laid live items empty [] age) → IsLinked slots order chains stack free
  linked_now slots order chains stack free live items empty age shape =
      record { layout = laid live items empty [] age; tight = refl; shape = shape }

  -- what is put back behind its earlier neighbour is in its old place
  pub put_back : (front : List (Cell T)) (cell : Cell T) (back : List (Cell T)) → ((place : ℕ) → times place (ids front) ≤ 1)
      → put_behind (last_of (ids front)) cell (front ++ back) ≡ front ++ cell ∷ back
  put_back [] cell back once = refl
  put_back (other ∷ []) cell back once = rw (eq-eqb other.id other.id refl) refl
  put_back (other ∷ next ∷ front) cell back once =
      let last = last_some next.id (ids front) in
      let rest : put_behind (last_of (ids (next ∷ front))) cell ((next ∷ front) ++ back) ≡ (next ∷ front) ++ cell ∷ back =
      put_back (next ∷ front) cell back (λ place. let few = once place in omega arith) in
      let rest' : put_behind (Some last.0) cell ((next ∷ front) ++ back) ≡ (next ∷ front) ++ cell ∷ back =
      subst (λ (o : Option ℕ). put_behind o cell ((next ∷ front) ++ back) ≡ (next ∷ front) ++ cell ∷ back) last.1 rest in
      subst (λ (o : Option ℕ). put_behind o cell ((other ∷ next ∷ front) ++ back) ≡ (other ∷ next ∷ front) ++ cell ∷ back) (sym last.1)
      (elim (eqb_tells other.id last.0) [
        | inl same ↦ absurd (
            let there : 0 < times other.id (next.id ∷ ids front) = subst (λ (p : ℕ). 0 < times p (next.id ∷ ids front)) (sym same.1) last.2 in
            let few = once other.id in
            let own = times_self other.id (next.id ∷ ids front) in
            omega arith)
        | inr not ↦ rw not.0 (ap (λ (list : List (Cell T)). other ∷ list) rest')
      ])

  -- a place that stands among the ids is a cell's
  pub found_live : (place : ℕ) (cells : List (Cell T)) → 0 < times place (ids cells)
      → (front : List (Cell T)) × (cell : Cell T) × (back : List (Cell T)) × (cells ≡ front ++ cell ∷ back) × (cell.id ≡ place)
  found_live place [] some = absurd (omega arith)
  found_live place (cell ∷ cells) some =
      elim (eqb_tells place cell.id) [
        | inl same ↦ ([], cell, cells, refl, sym same.1)
        | inr not ↦
            let rest = found_live place cells (omega (arith, rw not.0 at some)) in
            (cell ∷ rest.0, rest.1, rest.2, ap (λ (list : List (Cell T)). cell ∷ list) rest.3, rest.4)
      ]
