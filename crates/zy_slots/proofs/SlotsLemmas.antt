-- The calls over the slots as they are kept and the cells that are seen.
use Rattle.std.proofs.Common.{◌≡◌, ◌≢◌, ◌⊎◌, ℕ, zero, suc, ◌+◌, ◌<◌, ◌≤◌, true, false, List, [], ◌∷◌, ◌++◌, length, replicate, Option, Some, None, IfSome, IsSome, option_map, refl, sym, ap, ◌∙◌, subst, inl, inr, arith}
use Rattle.std.specs.List.{AllByRecursion}
use Rattle.std.proofs.lemmas.Bool.Decides.{eqb_tells}
use Rattle.zy_slots.specs.declared.link.Link.{Link}
use Rattle.zy_slots.specs.declared.slot.Kind.TheVariants.{Order, Chain, Pile}
use Rattle.zy_slots.specs.declared.slots.SlotId.{SlotId}
use Rattle.zy_slots.specs.declared.slot.Held.{Held}
use Rattle.zy_slots.specs.declared.slot.Slot.{Slot}
use Rattle.zy_slots.specs.Rings.{first_of, last_of, IsRing}
use Rattle.zy_slots.specs.Columns.{no_link, ends_at, slot_at, linked, link_of, AreWithin, IsTaken, StaysBeside, IsHeldNow}
use Rattle.zy_slots.specs.Cells.{Cell, Kept, Cells, KeptByNone, IsFresh, Stands, IsLive, CanRelink, CanTakeLast, ids, chain_of, kept, relinked, put_behind}
use Rattle.zy_slots.specs.Shape.{times, kept_ids, cells_of, IsShape, IsLinked, HoldsLive, HoldsKept}
use Rattle.zy_slots.proofs.PutLemmas.{next_of, prev_of}
use Rattle.zy_slots.proofs.TimesLemmas.{times-append, times_self, times_middle, last-append}
use Rattle.zy_slots.proofs.ColumnLemmas.{no_ends}
use Rattle.zy_slots.proofs.ListLemmas.{all_split, ids_middle, ids-append, kept_ids-append, chain-append, times_chain}
use Rattle.zy_slots.proofs.StepLemmas.{laid}
use Rattle.zy_slots.proofs.ViewLemmas.{viewed, settled, linked_now, put_back, found_live}
use Rattle.zy_slots.proofs.CallLemmas.{between_within, NeedsOut, needs_out, order_at, chain_at, Unlinks, unlinked_shape, Relinks, relinked_shape, Takes, taken_last_shape, Forgets, forgotten_shape, Inserts, found_shape, inserted_shape, inserted_fresh}

no_split : (earlier : List ℕ) (place : ℕ) (later : List ℕ) → [] ≡ earlier ++ place ∷ later → ⊥
no_split [] place later split = cc
no_split (other ∷ earlier) place later split = cc

empty_ring : (at : Option ℕ → Link) → at None ≡ no_link → IsRing at []
empty_ring at ends = record { ends = ends; links = λ earlier place later split. absurd (no_split earlier place later split) }

-- the ends and the links of a pile are within the slots
ring_within : (at : Option ℕ → Link) (limit : ℕ) (places : List ℕ) → IsRing at places → ((place : ℕ) → 0 < times place places → place < limit) → AreWithin limit (at None)
ring_within at limit places ring below = subst (AreWithin limit) (sym ring.ends) (between_within limit places places below below)

link_within : (at : Option ℕ → Link) (limit : ℕ) (front : List ℕ) (place : ℕ) (back : List ℕ) → IsRing at (front ++ place ∷ back)
    → ((other : ℕ) → 0 < times other (front ++ place ∷ back) → other < limit) → AreWithin limit (at (Some place))
link_within at limit front place back ring below =
    subst (AreWithin limit) (sym (ring.links front place back refl))
    (between_within limit front back (λ other some. below other (omega (arith, times_middle other front place back))) (λ other some. below other (omega (arith, times_middle other front place back))))

lt_or_ge : (m n : ℕ) → (m < n) ⊎ (n ≤ m)
lt_or_ge zero zero = inr (omega arith)
lt_or_ge zero (suc n) = inl (omega arith)
lt_or_ge (suc m) zero = inr (omega arith)
lt_or_ge (suc m) (suc n) =
    elim (lt_or_ge m n) [
      | inl below ↦ inl (omega arith)
      | inr past ↦ inr (omega arith)
    ]

module _ {T : Type 0} where
  pub empty_linked : (slots : List (Slot T)) (order : Link) (chains : List Link) (stack free : Link) → slots ≡ [] → order ≡ no_link → chains ≡ replicate 64 no_link → stack ≡ no_link → free ≡ no_link
      → IsLinked slots order chains stack free
  empty_linked slots order chains stack free none none' none'' none''' none'''' =
      record {
        layout = laid [] [] [] [] (λ place. 0);
        tight = refl;
        shape = record {
          sound = record {
            once = λ place. omega arith;
            within = λ place some. absurd (omega arith);
            sized = sym (ap length none);
            few = subst (λ (s : List (Slot T)). length s ≤ 4294967295) (sym none) (omega arith);
            named = tt;
            rises = tt;
            aged = tt;
          };
          order_ring = empty_ring _ none';
          chain_rings = λ bucket below. empty_ring _ (ap (λ (c : List Link). ends_at c bucket) none'' ∙ no_ends 64 bucket);
          stack_ring = empty_ring _ none''';
          free_ring = empty_ring _ none'''';
          holds_live = tt;
          holds_kept = tt;
          marks = λ place nowhere. subst (λ (s : List (Slot T)). (slot_at s place).held.live ≡ false) (sym none) refl;
        };
      }

  pub located : (slots : List (Slot T)) (order : Link) (chains : List Link) (stack free : Link) (is : IsLinked slots order chains stack free) (cells : Cells T)
      → cells_of slots order stack ≡ cells → (live : List (Cell T)) → cells.live ≡ live
      → IsShape slots order chains stack free (laid live cells.stack is.layout.empty [] is.layout.age)
  located slots order chains stack free is cells same live split =
      subst (λ (l : List (Cell T)). IsShape slots order chains stack free (laid l cells.stack is.layout.empty [] is.layout.age)) split (settled slots order chains stack free is cells same)

  pub needs_live : (slots : List (Slot T)) (order : Link) (chains : List Link) (stack free : Link) (is : IsLinked slots order chains stack free) (cells : Cells T)
      → cells_of slots order stack ≡ cells → (id : ℕ) → IsLive cells id → NeedsOut slots id
  needs_live slots order chains stack free is cells same id live =
      subst (NeedsOut slots) live.3.named
      (needs_out slots order chains stack free live.0 live.1 live.2 cells.stack is.layout.empty is.layout.age (located slots order chains stack free is cells same (live.0 ++ live.1 ∷ live.2) live.3.split))

  pub stack_within : (slots : List (Slot T)) (order : Link) (chains : List Link) (stack free : Link) → IsLinked slots order chains stack free → AreWithin (length slots) stack
  stack_within slots order chains stack free is =
      ring_within (linked Pile slots stack) (length slots) (kept_ids is.layout.stack) is.shape.stack_ring (λ place some. is.shape.sound.within place (omega arith))

  pub free_within : (slots : List (Slot T)) (order : Link) (chains : List Link) (stack free : Link) → IsLinked slots order chains stack free → AreWithin (length slots) free
  free_within slots order chains stack free is =
      ring_within (linked Pile slots free) (length slots) is.layout.empty is.shape.free_ring (λ place some. is.shape.sound.within place (omega arith))

  pub order_within : (slots : List (Slot T)) (order : Link) (chains : List Link) (stack free : Link) → IsLinked slots order chains stack free → AreWithin (length slots) order
  order_within slots order chains stack free is =
      ring_within (linked Order slots order) (length slots) (ids is.layout.live) is.shape.order_ring (λ place some. is.shape.sound.within place (omega arith))

  pub chain_within : (slots : List (Slot T)) (order : Link) (chains : List Link) (stack free : Link) → IsLinked slots order chains stack free → (bucket : ℕ) → bucket < 64
      → AreWithin (length slots) (ends_at chains bucket)
  chain_within slots order chains stack free is bucket below =
      ring_within (linked Chain slots (ends_at chains bucket)) (length slots) (ids (chain_of bucket is.layout.live)) (is.shape.chain_rings bucket below)
      (λ place some. is.shape.sound.within place (omega (arith, times_chain place bucket is.layout.live)))

  -- a slot of the stack
  pub record NeedsOff (slots : List (Slot T)) (place : ℕ) : Type 0 where
    pub within : place < length slots
    pub pile : AreWithin (length slots) (slot_at slots place).pile

  needs_off : (slots : List (Slot T)) (order : Link) (chains : List Link) (stack free : Link) (live : List (Cell T)) (front : List (Kept T)) (item : Kept T) (back : List (Kept T)) (empty : List ℕ) (age : ℕ → ℕ)
      → IsShape slots order chains stack free (laid live (front ++ item ∷ back) empty [] age) → NeedsOff slots item.cell.id
  needs_off slots order chains stack free live front item back empty age shape =
      let counts : (place : ℕ) → times place (kept_ids (front ++ item ∷ back)) ≡ times place (kept_ids front ++ item.cell.id ∷ kept_ids back) = λ place. ap (times place) (kept_ids-append front (item ∷ back)) in
      record {
        within = shape.sound.within item.cell.id (omega (arith, counts item.cell.id, times_middle item.cell.id (kept_ids front) item.cell.id (kept_ids back), times_self item.cell.id []));
        pile = link_within (linked Pile slots stack) (length slots) (kept_ids front) item.cell.id (kept_ids back)
            (subst (IsRing (linked Pile slots stack)) (kept_ids-append front (item ∷ back)) shape.stack_ring)
            (λ place some. shape.sound.within place (omega (arith, some, counts place)));
      }

  -- the first free slot
  pub needs_free : (slots : List (Slot T)) (order : Link) (chains : List Link) (stack free : Link) → IsLinked slots order chains stack free
      → IfSome free.next (λ place. AreWithin (length slots) (slot_at slots place).pile)
  needs_free slots order chains stack free is =
      subst (λ (o : Option ℕ). IfSome o (λ place. AreWithin (length slots) (slot_at slots place).pile)) (sym (ap next_of is.shape.free_ring.ends))
      (first is.layout.empty is.shape.free_ring (λ place some. is.shape.sound.within place (omega arith)))
    where
      first : (places : List ℕ) → IsRing (linked Pile slots free) places → ((place : ℕ) → 0 < times place places → place < length slots)
          → IfSome (first_of places) (λ place. AreWithin (length slots) (slot_at slots place).pile)
      first [] ring below = tt
      first (place ∷ places) ring below = link_within (linked Pile slots free) (length slots) [] place places ring below

  -- ---- unlink

  unlinked_at : (slots : List (Slot T)) (order : Link) (chains : List Link) (stack free : Link) (is : IsLinked slots order chains stack free) (cells : Cells T)
      → cells_of slots order stack ≡ cells → (slots' : List (Slot T)) (order' : Link) (chains' : List Link) (stack' : Link) (id : ℕ)
      → Unlinks slots order chains stack slots' order' chains' stack' id → (earlier : List (Cell T)) (cell : Cell T) (later : List (Cell T)) → Stands cells id earlier cell later
      → IsShape slots' order' chains' stack' free (laid (earlier ++ later) (kept earlier cell later ∷ cells.stack) is.layout.empty [] is.layout.age)
  unlinked_at slots order chains stack free is cells same slots' order' chains' stack' id steps earlier cell later stands =
      unlinked_shape slots order chains stack slots' order' chains' stack' free earlier cell later cells.stack is.layout.empty is.layout.age
      (located slots order chains stack free is cells same (earlier ++ cell ∷ later) stands.split)
      (subst (Unlinks slots order chains stack slots' order' chains' stack') (sym stands.named) steps)

  pub unlinked_linked : (slots : List (Slot T)) (order : Link) (chains : List Link) (stack free : Link) (is : IsLinked slots order chains stack free) (cells : Cells T)
      → cells_of slots order stack ≡ cells → (slots' : List (Slot T)) (order' : Link) (chains' : List Link) (stack' : Link) (id : ℕ)
      → Unlinks slots order chains stack slots' order' chains' stack' id → IsLive cells id → IsLinked slots' order' chains' stack' free
  unlinked_linked slots order chains stack free is cells same slots' order' chains' stack' id steps live =
      linked_now slots' order' chains' stack' free _ _ _ _ (unlinked_at slots order chains stack free is cells same slots' order' chains' stack' id steps live.0 live.1 live.2 live.3)

  pub unlinked_view : (slots : List (Slot T)) (order : Link) (chains : List Link) (stack free : Link) (is : IsLinked slots order chains stack free) (cells : Cells T)
      → cells_of slots order stack ≡ cells → (slots' : List (Slot T)) (order' : Link) (chains' : List Link) (stack' : Link) (id : ℕ)
      → Unlinks slots order chains stack slots' order' chains' stack' id → (earlier : List (Cell T)) (cell : Cell T) (later : List (Cell T)) → Stands cells id earlier cell later
      → cells_of slots' order' stack' ≡ record { live = earlier ++ later; stack = kept earlier cell later ∷ cells.stack }
  unlinked_view slots order chains stack free is cells same slots' order' chains' stack' id steps earlier cell later stands =
      viewed slots' order' chains' stack' free _ (unlinked_at slots order chains stack free is cells same slots' order' chains' stack' id steps earlier cell later stands)

  pub can_relink : (earlier : List (Cell T)) (cell : Cell T) (later : List (Cell T)) (items : List (Kept T)) → CanRelink (record { live = earlier ++ later; stack = kept earlier cell later ∷ items })
  can_relink earlier cell later items =
      record {
        top = kept earlier cell later;
        rest = items;
        on_top = refl;
        earlier = earlier;
        later = later;
        in_order = refl;
        order_kept = refl;
        chain_earlier = chain_of cell.bucket earlier;
        chain_later = chain_of cell.bucket later;
        in_chain = chain-append cell.bucket earlier later;
        chain_kept = refl;
      }

  pub unlinked_back : (slots : List (Slot T)) (order : Link) (chains : List Link) (stack free : Link) (is : IsLinked slots order chains stack free) (cells : Cells T)
      → cells_of slots order stack ≡ cells → (earlier : List (Cell T)) (cell : Cell T) (later : List (Cell T)) → cells.live ≡ earlier ++ cell ∷ later
      → relinked (record { live = earlier ++ later; stack = kept earlier cell later ∷ cells.stack }) ≡ cells
  unlinked_back slots order chains stack free is cells same earlier cell later split =
      let shape = located slots order chains stack free is cells same (earlier ++ cell ∷ later) split in
      let back : put_behind (last_of (ids earlier)) cell (earlier ++ later) ≡ cells.live =
      put_back earlier cell later (λ place. omega (arith, shape.sound.once place, ap (times place) (ids_middle earlier cell later), times_middle place (ids earlier) cell.id (ids later))) ∙ sym split in
      λ i. record { live = back i; stack = cells.stack }

  -- ---- relink

  top_at : (slots : List (Slot T)) (order : Link) (chains : List Link) (stack free : Link) (is : IsLinked slots order chains stack free) (cells : Cells T)
      → cells_of slots order stack ≡ cells → (can : CanRelink cells)
      → IsShape slots order chains stack free (laid (can.earlier ++ can.later) (can.top ∷ can.rest) is.layout.empty [] is.layout.age)
  top_at slots order chains stack free is cells same can =
      subst (λ (items : List (Kept T)). IsShape slots order chains stack free (laid (can.earlier ++ can.later) items is.layout.empty [] is.layout.age)) can.on_top
      (located slots order chains stack free is cells same (can.earlier ++ can.later) can.in_order)

  pub top_is : (slots : List (Slot T)) (order : Link) (chains : List Link) (stack free : Link) (is : IsLinked slots order chains stack free) (cells : Cells T)
      → cells_of slots order stack ≡ cells → (can : CanRelink cells) → stack.next ≡ Some can.top.cell.id
  top_is slots order chains stack free is cells same can = ap next_of (top_at slots order chains stack free is cells same can).stack_ring.ends

  -- the place on top
  pub top_place : (slots : List (Slot T)) (order : Link) (chains : List Link) (stack free : Link) (is : IsLinked slots order chains stack free) (cells : Cells T)
      → cells_of slots order stack ≡ cells → (can : CanRelink cells) (place : ℕ) → stack.next ≡ Some place → can.top.cell.id ≡ place
  top_place slots order chains stack free is cells same can place next =
      let top = top_is slots order chains stack free is cells same can in cc

  pub needs_top : (slots : List (Slot T)) (order : Link) (chains : List Link) (stack free : Link) (is : IsLinked slots order chains stack free) (cells : Cells T)
      → cells_of slots order stack ≡ cells → (can : CanRelink cells) (place : ℕ) → stack.next ≡ Some place → NeedsOut slots place × NeedsOff slots place
  needs_top slots order chains stack free is cells same can place next =
      let shape = top_at slots order chains stack free is cells same can in
      let parts : (other : ℕ) → times other (ids (can.earlier ++ can.later)) ≡ times other (ids can.earlier) + times other (ids can.later) =
      λ other. ap (times other) (ids-append can.earlier can.later) ∙ times-append other (ids can.earlier) (ids can.later) in
      let chain_parts : (other : ℕ) → times other (ids (chain_of can.top.cell.bucket (can.earlier ++ can.later))) ≡ times other (ids can.chain_earlier) + times other (ids can.chain_later) =
      λ other. ap (times other) (ap ids (ap (chain_of can.top.cell.bucket) (sym can.in_order) ∙ can.in_chain) ∙ ids-append can.chain_earlier can.chain_later) ∙ times-append other (ids can.chain_earlier) (ids can.chain_later) in
      let off : NeedsOff slots can.top.cell.id = needs_off slots order chains stack free (can.earlier ++ can.later) [] can.top can.rest is.layout.empty is.layout.age shape in
      let out : NeedsOut slots can.top.cell.id =
      record {
        within = off.within;
        fits = subst (λ (held : Held T). held.bucket < 64) (sym shape.holds_kept.0.held) shape.holds_kept.0.fits;
        order = subst (AreWithin (length slots)) (sym (shape.holds_kept.0.order ∙ can.order_kept))
            (between_within (length slots) (ids can.earlier) (ids can.later) (λ other some. shape.sound.within other (omega (arith, some, parts other))) (λ other some. shape.sound.within other (omega (arith, some, parts other))));
        chain = subst (AreWithin (length slots)) (sym (shape.holds_kept.0.chain ∙ can.chain_kept))
            (between_within (length slots) (ids can.chain_earlier) (ids can.chain_later)
            (λ other some. shape.sound.within other (omega (arith, some, chain_parts other, times_chain other can.top.cell.bucket (can.earlier ++ can.later))))
            (λ other some. shape.sound.within other (omega (arith, some, chain_parts other, times_chain other can.top.cell.bucket (can.earlier ++ can.later)))));
      } in
      let here = top_place slots order chains stack free is cells same can place next in
      (subst (NeedsOut slots) here out, subst (NeedsOff slots) here off)

  relinked_at : (slots : List (Slot T)) (order : Link) (chains : List Link) (stack free : Link) (is : IsLinked slots order chains stack free) (cells : Cells T)
      → cells_of slots order stack ≡ cells → (can : CanRelink cells) (slots' : List (Slot T)) (order' : Link) (chains' : List Link) (stack' : Link) (place : ℕ) → stack.next ≡ Some place
      → Relinks slots order chains stack slots' order' chains' stack' place
      → IsShape slots' order' chains' stack' free (laid (can.earlier ++ can.top.cell ∷ can.later) can.rest is.layout.empty [] is.layout.age)
  relinked_at slots order chains stack free is cells same can slots' order' chains' stack' place next steps =
      relinked_shape slots order chains stack slots' order' chains' stack' free can.earlier can.top can.later can.chain_earlier can.chain_later can.rest is.layout.empty is.layout.age
      (top_at slots order chains stack free is cells same can) can.order_kept (ap (chain_of can.top.cell.bucket) (sym can.in_order) ∙ can.in_chain) can.chain_kept
      (subst (Relinks slots order chains stack slots' order' chains' stack') (sym (top_place slots order chains stack free is cells same can place next)) steps)

  pub relinked_linked : (slots : List (Slot T)) (order : Link) (chains : List Link) (stack free : Link) (is : IsLinked slots order chains stack free) (cells : Cells T)
      → cells_of slots order stack ≡ cells → (can : CanRelink cells) (slots' : List (Slot T)) (order' : Link) (chains' : List Link) (stack' : Link) (place : ℕ) → stack.next ≡ Some place
      → Relinks slots order chains stack slots' order' chains' stack' place → IsLinked slots' order' chains' stack' free
  relinked_linked slots order chains stack free is cells same can slots' order' chains' stack' place next steps =
      linked_now slots' order' chains' stack' free _ _ _ _ (relinked_at slots order chains stack free is cells same can slots' order' chains' stack' place next steps)

  pub relinked_view : (slots : List (Slot T)) (order : Link) (chains : List Link) (stack free : Link) (is : IsLinked slots order chains stack free) (cells : Cells T)
      → cells_of slots order stack ≡ cells → (can : CanRelink cells) (slots' : List (Slot T)) (order' : Link) (chains' : List Link) (stack' : Link) (place : ℕ) → stack.next ≡ Some place
      → Relinks slots order chains stack slots' order' chains' stack' place → cells_of slots' order' stack' ≡ relinked cells
  relinked_view slots order chains stack free is cells same can slots' order' chains' stack' place next steps =
      let shape = relinked_at slots order chains stack free is cells same can slots' order' chains' stack' place next steps in
      let back : put_behind can.top.order.prev can.top.cell cells.live ≡ can.earlier ++ can.top.cell ∷ can.later =
      ap (λ (o : Option ℕ). put_behind o can.top.cell cells.live) (ap prev_of can.order_kept)
      ∙ ap (put_behind (last_of (ids can.earlier)) can.top.cell) can.in_order
      ∙ put_back can.earlier can.top.cell can.later
      (λ p. omega (arith, shape.sound.once p, ap (times p) (ids_middle can.earlier can.top.cell can.later), times_middle p (ids can.earlier) can.top.cell.id (ids can.later))) in
      let goal : relinked cells ≡ record { live = can.earlier ++ can.top.cell ∷ can.later; stack = can.rest } =
      ap (λ (items : List (Kept T)). relinked (record { live = cells.live; stack = items })) can.on_top
      ∙ ap (λ (live : List (Cell T)). let c : Cells T = record { live = live; stack = can.rest } in c) back in
      viewed slots' order' chains' stack' free _ shape ∙ sym goal

  -- ---- take_last

  pub last_is : (slots : List (Slot T)) (order : Link) (chains : List Link) (stack free : Link) (is : IsLinked slots order chains stack free) (cells : Cells T)
      → cells_of slots order stack ≡ cells → (front : List (Cell T)) (last : Cell T) → cells.live ≡ front ++ last ∷ [] → order.prev ≡ Some last.id
  last_is slots order chains stack free is cells same front last split =
      ap prev_of (located slots order chains stack free is cells same (front ++ last ∷ []) split).order_ring.ends
      ∙ ap last_of (ids_middle front last []) ∙ last-append None (ids front) last.id []

  pub last_place : (slots : List (Slot T)) (order : Link) (chains : List Link) (stack free : Link) (is : IsLinked slots order chains stack free) (cells : Cells T)
      → cells_of slots order stack ≡ cells → (front : List (Cell T)) (last : Cell T) → cells.live ≡ front ++ last ∷ [] → (place : ℕ) → order.prev ≡ Some place → last.id ≡ place
  last_place slots order chains stack free is cells same front last split place prev =
      let end = last_is slots order chains stack free is cells same front last split in cc

  taken_last_at : (slots : List (Slot T)) (order : Link) (chains : List Link) (stack free : Link) (is : IsLinked slots order chains stack free) (cells : Cells T)
      → cells_of slots order stack ≡ cells → (slots' : List (Slot T)) (order' : Link) (chains' : List Link) (free' : Link) (place : ℕ) → order.prev ≡ Some place
      → Takes slots order chains free slots' order' chains' free' place → CanTakeLast cells → (front : List (Cell T)) (last : Cell T) → cells.live ≡ front ++ last ∷ []
      → IsShape slots' order' chains' stack free' (laid front cells.stack (last.id ∷ is.layout.empty) [] is.layout.age)
  taken_last_at slots order chains stack free is cells same slots' order' chains' free' place prev steps can front last split =
      let here = last_place slots order chains stack free is cells same front last split place prev in
      let there = last_place slots order chains stack free is cells same can.front can.last can.split place prev in
      taken_last_shape slots order chains free slots' order' chains' free' stack front last cells.stack is.layout.empty is.layout.age
      (located slots order chains stack free is cells same (front ++ last ∷ []) split)
      (subst (KeptByNone cells.stack) (there ∙ sym here) can.kept_by_none)
      (subst (Takes slots order chains free slots' order' chains' free') (sym here) steps)

  pub taken_last_linked : (slots : List (Slot T)) (order : Link) (chains : List Link) (stack free : Link) (is : IsLinked slots order chains stack free) (cells : Cells T)
      → cells_of slots order stack ≡ cells → (slots' : List (Slot T)) (order' : Link) (chains' : List Link) (free' : Link) (place : ℕ) → order.prev ≡ Some place
      → Takes slots order chains free slots' order' chains' free' place → CanTakeLast cells → IsLinked slots' order' chains' stack free'
  taken_last_linked slots order chains stack free is cells same slots' order' chains' free' place prev steps can =
      linked_now slots' order' chains' stack free' _ _ _ _ (taken_last_at slots order chains stack free is cells same slots' order' chains' free' place prev steps can can.front can.last can.split)

  pub taken_last_view : (slots : List (Slot T)) (order : Link) (chains : List Link) (stack free : Link) (is : IsLinked slots order chains stack free) (cells : Cells T)
      → cells_of slots order stack ≡ cells → (slots' : List (Slot T)) (order' : Link) (chains' : List Link) (free' : Link) (place : ℕ) → order.prev ≡ Some place
      → Takes slots order chains free slots' order' chains' free' place → CanTakeLast cells → (front : List (Cell T)) (last : Cell T) → cells.live ≡ front ++ last ∷ []
      → cells_of slots' order' stack ≡ record { live = front; stack = cells.stack }
  taken_last_view slots order chains stack free is cells same slots' order' chains' free' place prev steps can front last split =
      viewed slots' order' chains' stack free' _ (taken_last_at slots order chains stack free is cells same slots' order' chains' free' place prev steps can front last split)

  -- what a live cell's slot holds
  pub value_at : (slots : List (Slot T)) (order : Link) (chains : List Link) (stack free : Link) (is : IsLinked slots order chains stack free) (cells : Cells T)
      → cells_of slots order stack ≡ cells → (front : List (Cell T)) (cell : Cell T) (back : List (Cell T)) → cells.live ≡ front ++ cell ∷ back
      → (slot_at slots cell.id).held ≡ record { value = Some cell.value; bucket = cell.bucket; live = true }
  value_at slots order chains stack free is cells same front cell back split =
      (all_split (HoldsLive slots) front cell back (located slots order chains stack free is cells same (front ++ cell ∷ back) split).holds_live).1.held

  -- ---- forget

  lowest_at : (slots : List (Slot T)) (order : Link) (chains : List Link) (stack free : Link) (is : IsLinked slots order chains stack free) (cells : Cells T)
      → cells_of slots order stack ≡ cells → (above : List (Kept T)) (lowest : Kept T) → cells.stack ≡ above ++ lowest ∷ []
      → IsShape slots order chains stack free (laid cells.live (above ++ lowest ∷ []) is.layout.empty [] is.layout.age)
  lowest_at slots order chains stack free is cells same above lowest split =
      subst (λ (items : List (Kept T)). IsShape slots order chains stack free (laid cells.live items is.layout.empty [] is.layout.age)) split (settled slots order chains stack free is cells same)

  pub lowest_is : (slots : List (Slot T)) (order : Link) (chains : List Link) (stack free : Link) (is : IsLinked slots order chains stack free) (cells : Cells T)
      → cells_of slots order stack ≡ cells → (above : List (Kept T)) (lowest : Kept T) → cells.stack ≡ above ++ lowest ∷ [] → stack.prev ≡ Some lowest.cell.id
  lowest_is slots order chains stack free is cells same above lowest split =
      ap prev_of (lowest_at slots order chains stack free is cells same above lowest split).stack_ring.ends
      ∙ ap last_of (kept_ids-append above (lowest ∷ [])) ∙ last-append None (kept_ids above) lowest.cell.id []

  pub lowest_place : (slots : List (Slot T)) (order : Link) (chains : List Link) (stack free : Link) (is : IsLinked slots order chains stack free) (cells : Cells T)
      → cells_of slots order stack ≡ cells → (above : List (Kept T)) (lowest : Kept T) → cells.stack ≡ above ++ lowest ∷ [] → (place : ℕ) → stack.prev ≡ Some place → lowest.cell.id ≡ place
  lowest_place slots order chains stack free is cells same above lowest split place prev =
      let end = lowest_is slots order chains stack free is cells same above lowest split in cc

  pub has_lowest : (items : List (Kept T)) → 0 < length items → (above : List (Kept T)) × (lowest : Kept T) × (items ≡ above ++ lowest ∷ [])
  has_lowest [] some = absurd (omega arith)
  has_lowest (item ∷ []) some = ([], item, refl)
  has_lowest (item ∷ next ∷ items) some =
      let rest = has_lowest (next ∷ items) (omega arith) in (item ∷ rest.0, rest.1, ap (λ (list : List (Kept T)). item ∷ list) rest.2)

  pub needs_lowest : (slots : List (Slot T)) (order : Link) (chains : List Link) (stack free : Link) (is : IsLinked slots order chains stack free) (cells : Cells T)
      → cells_of slots order stack ≡ cells → 0 < length cells.stack → (place : ℕ) → stack.prev ≡ Some place → NeedsOff slots place
  needs_lowest slots order chains stack free is cells same some place prev =
      let end = has_lowest cells.stack some in
      subst (NeedsOff slots) (lowest_place slots order chains stack free is cells same end.0 end.1 end.2 place prev)
      (needs_off slots order chains stack free cells.live end.0 end.1 [] is.layout.empty is.layout.age (lowest_at slots order chains stack free is cells same end.0 end.1 end.2))

  pub lowest_value : (slots : List (Slot T)) (order : Link) (chains : List Link) (stack free : Link) (is : IsLinked slots order chains stack free) (cells : Cells T)
      → cells_of slots order stack ≡ cells → (above : List (Kept T)) (lowest : Kept T) → cells.stack ≡ above ++ lowest ∷ [] → (place : ℕ) → stack.prev ≡ Some place
      → (slot_at slots place).held.value ≡ Some lowest.cell.value
  lowest_value slots order chains stack free is cells same above lowest split place prev =
      subst (λ (p : ℕ). (slot_at slots p).held.value ≡ Some lowest.cell.value) (lowest_place slots order chains stack free is cells same above lowest split place prev)
      (ap (λ (held : Held T). held.value) (all_split (HoldsKept slots) above lowest [] (lowest_at slots order chains stack free is cells same above lowest split).holds_kept).1.held)

  forgotten_at : (slots : List (Slot T)) (order : Link) (chains : List Link) (stack free : Link) (is : IsLinked slots order chains stack free) (cells : Cells T)
      → cells_of slots order stack ≡ cells → (slots' : List (Slot T)) (stack' free' : Link) (place : ℕ) → stack.prev ≡ Some place → Forgets slots stack free slots' stack' free' place
      → (above : List (Kept T)) (lowest : Kept T) → cells.stack ≡ above ++ lowest ∷ []
      → IsShape slots' order chains stack' free' (laid cells.live above (lowest.cell.id ∷ is.layout.empty) [] is.layout.age)
  forgotten_at slots order chains stack free is cells same slots' stack' free' place prev steps above lowest split =
      forgotten_shape slots stack free slots' stack' free' order chains cells.live above lowest is.layout.empty is.layout.age
      (lowest_at slots order chains stack free is cells same above lowest split)
      (subst (Forgets slots stack free slots' stack' free') (sym (lowest_place slots order chains stack free is cells same above lowest split place prev)) steps)

  pub forgotten_linked : (slots : List (Slot T)) (order : Link) (chains : List Link) (stack free : Link) (is : IsLinked slots order chains stack free) (cells : Cells T)
      → cells_of slots order stack ≡ cells → (slots' : List (Slot T)) (stack' free' : Link) (place : ℕ) → stack.prev ≡ Some place → Forgets slots stack free slots' stack' free' place
      → 0 < length cells.stack → IsLinked slots' order chains stack' free'
  forgotten_linked slots order chains stack free is cells same slots' stack' free' place prev steps some =
      let end = has_lowest cells.stack some in
      linked_now slots' order chains stack' free' _ _ _ _ (forgotten_at slots order chains stack free is cells same slots' stack' free' place prev steps end.0 end.1 end.2)

  pub forgotten_view : (slots : List (Slot T)) (order : Link) (chains : List Link) (stack free : Link) (is : IsLinked slots order chains stack free) (cells : Cells T)
      → cells_of slots order stack ≡ cells → (slots' : List (Slot T)) (stack' free' : Link) (place : ℕ) → stack.prev ≡ Some place → Forgets slots stack free slots' stack' free' place
      → (above : List (Kept T)) (lowest : Kept T) → cells.stack ≡ above ++ lowest ∷ [] → cells_of slots' order stack' ≡ record { live = cells.live; stack = above }
  forgotten_view slots order chains stack free is cells same slots' stack' free' place prev steps above lowest split =
      viewed slots' order chains stack' free' _ (forgotten_at slots order chains stack free is cells same slots' stack' free' place prev steps above lowest split)

  -- ---- insert

  pub inserted_linked : (slots : List (Slot T)) (order : Link) (chains : List Link) (stack free : Link) (is : IsLinked slots order chains stack free)
      → (slots' : List (Slot T)) (order' : Link) (chains' : List Link) (free' : Link) (cell : Cell T) → cell.bucket < 64 → Inserts slots order chains free slots' order' chains' free' cell
      → IsLinked slots' order' chains' stack free'
  inserted_linked slots order chains stack free is slots' order' chains' free' cell fits steps =
      let shape = settled slots order chains stack free is (cells_of slots order stack) refl in
      let made = inserted_shape slots order chains free slots' order' chains' free' stack cell _ _ is.layout.empty is.layout.age shape fits steps in
      linked_now slots' order' chains' stack free' _ _ _ _ made.1

  pub inserted_view : (slots : List (Slot T)) (order : Link) (chains : List Link) (stack free : Link) (is : IsLinked slots order chains stack free) (cells : Cells T)
      → cells_of slots order stack ≡ cells → (slots' : List (Slot T)) (order' : Link) (chains' : List Link) (free' : Link) (cell : Cell T) → cell.bucket < 64
      → Inserts slots order chains free slots' order' chains' free' cell → cells_of slots' order' stack ≡ record { live = cells.live ++ cell ∷ []; stack = cells.stack }
  inserted_view slots order chains stack free is cells same slots' order' chains' free' cell fits steps =
      let shape = settled slots order chains stack free is cells same in
      viewed slots' order' chains' stack free' _ (inserted_shape slots order chains free slots' order' chains' free' stack cell cells.live cells.stack is.layout.empty is.layout.age shape fits steps).1

  pub fresh_now : (slots : List (Slot T)) (order : Link) (chains : List Link) (stack free : Link) (is : IsLinked slots order chains stack free) (cells : Cells T)
      → cells_of slots order stack ≡ cells → (found : List (Slot T)) (free' : Link) (place : ℕ) → IsTaken slots found free free' place → IsFresh cells place
  fresh_now slots order chains stack free is cells same found free' place taken =
      inserted_fresh slots order chains stack free found free' place cells.live cells.stack is.layout.empty is.layout.age (settled slots order chains stack free is cells same) taken

  -- ---- the readers

  pub order_first : (slots : List (Slot T)) (order : Link) (chains : List Link) (stack free : Link) (is : IsLinked slots order chains stack free) (cells : Cells T)
      → cells_of slots order stack ≡ cells → order.next ≡ first_of (ids cells.live)
  order_first slots order chains stack free is cells same = ap next_of (settled slots order chains stack free is cells same).order_ring.ends

  pub chain_first : (slots : List (Slot T)) (order : Link) (chains : List Link) (stack free : Link) (is : IsLinked slots order chains stack free) (cells : Cells T)
      → cells_of slots order stack ≡ cells → (bucket : ℕ) → bucket < 64 → (ends_at chains bucket).next ≡ first_of (ids (chain_of bucket cells.live))
  chain_first slots order chains stack free is cells same bucket below = ap next_of ((settled slots order chains stack free is cells same).chain_rings bucket below).ends

  pub no_chain : (slots : List (Slot T)) (order : Link) (chains : List Link) (stack free : Link) (is : IsLinked slots order chains stack free) (cells : Cells T)
      → cells_of slots order stack ≡ cells → (bucket : ℕ) → 64 ≤ bucket → None ≡ first_of (ids (chain_of bucket cells.live))
  no_chain slots order chains stack free is cells same bucket past =
      ap (λ (list : List (Cell T)). first_of (ids list)) (sym (none cells.live (settled slots order chains stack free is cells same).holds_live))
    where
      none : (live : List (Cell T)) → AllByRecursion (HoldsLive slots) live → chain_of bucket live ≡ []
      none [] holds = refl
      none (cell ∷ live) holds =
          let fits : cell.bucket < 64 = holds.0.fits in
          elim (eqb_tells cell.bucket bucket) [
            | inl same ↦ absurd (omega (arith, same.1))
            | inr not ↦ rw not.0 (none live holds.1)
          ]

  pub order_next : (slots : List (Slot T)) (order : Link) (chains : List Link) (stack free : Link) (is : IsLinked slots order chains stack free) (cells : Cells T)
      → cells_of slots order stack ≡ cells → (id : ℕ) (earlier : List (Cell T)) (cell : Cell T) (later : List (Cell T)) → Stands cells id earlier cell later
      → (slot_at slots id).order.next ≡ first_of (ids later)
  order_next slots order chains stack free is cells same id earlier cell later stands =
      subst (λ (p : ℕ). (slot_at slots p).order.next ≡ first_of (ids later)) stands.named
      (ap next_of ((order_at slots order chains stack free earlier cell later cells.stack is.layout.empty is.layout.age
      (located slots order chains stack free is cells same (earlier ++ cell ∷ later) stands.split)).links (ids earlier) cell.id (ids later) refl))

  pub chain_next : (slots : List (Slot T)) (order : Link) (chains : List Link) (stack free : Link) (is : IsLinked slots order chains stack free) (cells : Cells T)
      → cells_of slots order stack ≡ cells → (id : ℕ) (earlier : List (Cell T)) (cell : Cell T) (later : List (Cell T)) → Stands cells id earlier cell later
      → (slot_at slots id).chain.next ≡ first_of (ids (chain_of cell.bucket later))
  chain_next slots order chains stack free is cells same id earlier cell later stands =
      subst (λ (p : ℕ). (slot_at slots p).chain.next ≡ first_of (ids (chain_of cell.bucket later))) stands.named
      (ap next_of ((chain_at slots order chains stack free earlier cell later cells.stack is.layout.empty is.layout.age
      (located slots order chains stack free is cells same (earlier ++ cell ∷ later) stands.split)).links (ids (chain_of cell.bucket earlier)) cell.id (ids (chain_of cell.bucket later)) refl))

  pub held_at : (slots : List (Slot T)) (order : Link) (chains : List Link) (stack free : Link) (is : IsLinked slots order chains stack free) (cells : Cells T)
      → cells_of slots order stack ≡ cells → (id : ℕ) (earlier : List (Cell T)) (cell : Cell T) (later : List (Cell T)) → Stands cells id earlier cell later
      → (slot_at slots id).held ≡ record { value = Some cell.value; bucket = cell.bucket; live = true }
  held_at slots order chains stack free is cells same id earlier cell later stands =
      subst (λ (p : ℕ). (slot_at slots p).held ≡ record { value = Some cell.value; bucket = cell.bucket; live = true }) stands.named
      (value_at slots order chains stack free is cells same earlier cell later stands.split)

  -- a slot that is marked as live holds a live cell
  pub marked_live : (slots : List (Slot T)) (order : Link) (chains : List Link) (stack free : Link) (is : IsLinked slots order chains stack free) (cells : Cells T)
      → cells_of slots order stack ≡ cells → (id : ℕ) → (slot_at slots id).held.live ≡ true → IsLive cells id
  marked_live slots order chains stack free is cells same id marked =
      let shape = settled slots order chains stack free is cells same in
      some (times id (ids cells.live)) refl shape.marks
    where
      some : (n : ℕ) → times id (ids cells.live) ≡ n → ((place : ℕ) → times place (ids cells.live) + 0 ≡ 0 → (slot_at slots place).held.live ≡ false) → IsLive cells id
      some zero none marks = let dead : (slot_at slots id).held.live ≡ false = marks id (omega (arith, none)) in absurd (cc)
      some (suc n) there marks =
          let it = found_live id cells.live (omega (arith, there)) in (it.0, it.1, it.2, record { split = it.3; named = it.4 })

  pub order_next_of : (slots : List (Slot T)) (order : Link) (chains : List Link) (stack free : Link) (is : IsLinked slots order chains stack free) (cells : Cells T)
      → cells_of slots order stack ≡ cells → (id : ℕ) (slot : Slot T) → slot ≡ slot_at slots id
      → (earlier : List (Cell T)) (cell : Cell T) (later : List (Cell T)) → Stands cells id earlier cell later → slot.order.next ≡ first_of (ids later)
  order_next_of slots order chains stack free is cells same id slot seen earlier cell later stands =
      ap (λ (s : Slot T). s.order.next) seen ∙ order_next slots order chains stack free is cells same id earlier cell later stands

  pub chain_next_of : (slots : List (Slot T)) (order : Link) (chains : List Link) (stack free : Link) (is : IsLinked slots order chains stack free) (cells : Cells T)
      → cells_of slots order stack ≡ cells → (id : ℕ) (slot : Slot T) → slot ≡ slot_at slots id
      → (earlier : List (Cell T)) (cell : Cell T) (later : List (Cell T)) → Stands cells id earlier cell later → slot.chain.next ≡ first_of (ids (chain_of cell.bucket later))
  chain_next_of slots order chains stack free is cells same id slot seen earlier cell later stands =
      ap (λ (s : Slot T). s.chain.next) seen ∙ chain_next slots order chains stack free is cells same id earlier cell later stands

  pub seen_live : (slots : List (Slot T)) (order : Link) (chains : List Link) (stack free : Link) (is : IsLinked slots order chains stack free) (cells : Cells T)
      → cells_of slots order stack ≡ cells → (id : ℕ) (slot : Slot T) → slot ≡ slot_at slots id → slot.held.live ≡ true → IsLive cells id
  seen_live slots order chains stack free is cells same id slot seen marked =
      marked_live slots order chains stack free is cells same id (sym (ap (λ (s : Slot T). s.held.live) seen) ∙ marked)

  pub dead_is_not_live : (slots : List (Slot T)) (order : Link) (chains : List Link) (stack free : Link) (is : IsLinked slots order chains stack free) (cells : Cells T)
      → cells_of slots order stack ≡ cells → (id : ℕ) → (slot_at slots id).held.live ≡ false
      → (earlier : List (Cell T)) (cell : Cell T) (later : List (Cell T)) → Stands cells id earlier cell later → ⊥
  dead_is_not_live slots order chains stack free is cells same id dead earlier cell later stands =
      let live : (slot_at slots id).held.live ≡ true = ap (λ (held : Held T). held.live) (held_at slots order chains stack free is cells same id earlier cell later stands) in cc

  pub value_of_live : (slots : List (Slot T)) (order : Link) (chains : List Link) (stack free : Link) (is : IsLinked slots order chains stack free) (cells : Cells T)
      → cells_of slots order stack ≡ cells → (id : ℕ) (earlier : List (Cell T)) (cell : Cell T) (later : List (Cell T)) → Stands cells id earlier cell later
      → (slot_at slots id).held.value ≡ Some cell.value
  value_of_live slots order chains stack free is cells same id earlier cell later stands =
      ap (λ (held : Held T). held.value) (held_at slots order chains stack free is cells same id earlier cell later stands)

  pub last_live : (slots : List (Slot T)) (order : Link) (chains : List Link) (stack free : Link) (is : IsLinked slots order chains stack free) (cells : Cells T)
      → cells_of slots order stack ≡ cells → (front : List (Cell T)) (last : Cell T) → cells.live ≡ front ++ last ∷ [] → (place : ℕ) → order.prev ≡ Some place
      → Stands cells place front last []
  last_live slots order chains stack free is cells same front last split place prev =
      record { split = split; named = last_place slots order chains stack free is cells same front last split place prev }

  -- a slot that was found for a new value
  pub record NeedsIn (found : List (Slot T)) (order : Link) (chains : List Link) (place : ℕ) : Type 0 where
    pub within : place < length found
    pub few : length found ≤ 4294967295
    pub order_ends : AreWithin (length found) order
    pub chain_ends : (bucket : ℕ) → bucket < 64 → AreWithin (length found) (ends_at chains bucket)

  pub needs_in : (slots : List (Slot T)) (order : Link) (chains : List Link) (stack free : Link) (is : IsLinked slots order chains stack free) (found : List (Slot T)) (free' : Link) (place : ℕ)
      → IsTaken slots found free free' place → NeedsIn found order chains place
  needs_in slots order chains stack free is found free' place taken =
      let cells = cells_of slots order stack in
      let now = found_shape slots order chains stack free found free' place cells.live cells.stack is.layout.empty is.layout.age (settled slots order chains stack free is cells refl) taken in
      record {
        within = now.1.sound.within place (omega (arith, times_self place []));
        few = now.1.sound.few;
        order_ends = ring_within (linked Order found order) (length found) (ids cells.live) now.1.order_ring (λ p some. now.1.sound.within p (omega arith));
        chain_ends = λ bucket below. ring_within (linked Chain found (ends_at chains bucket)) (length found) (ids (chain_of bucket cells.live)) (now.1.chain_rings bucket below)
            (λ p some. now.1.sound.within p (omega (arith, times_chain p bucket cells.live)));
      }

  value_is : (found : Option T) (value other : T) → found ≡ Some value → found ≡ Some other → value ≡ other
  value_is found value other same same' = cc

  pub value_read : (slots : List (Slot T)) (order : Link) (chains : List Link) (stack free : Link) (is : IsLinked slots order chains stack free) (cells : Cells T)
      → cells_of slots order stack ≡ cells → (id : ℕ) (value : T) → (slot_at slots id).held.value ≡ Some value
      → (earlier : List (Cell T)) (cell : Cell T) (later : List (Cell T)) → Stands cells id earlier cell later → value ≡ cell.value
  value_read slots order chains stack free is cells same id value read earlier cell later stands =
      value_is (slot_at slots id).held.value value cell.value read (value_of_live slots order chains stack free is cells same id earlier cell later stands)

  pub some_value : (slots : List (Slot T)) (order : Link) (chains : List Link) (stack free : Link) (is : IsLinked slots order chains stack free) (cells : Cells T)
      → cells_of slots order stack ≡ cells → (id : ℕ) → IsLive cells id → IsSome (slot_at slots id).held.value
  some_value slots order chains stack free is cells same id live =
      subst (λ (o : Option T). IsSome o) (sym (value_of_live slots order chains stack free is cells same id live.0 live.1 live.2 live.3)) refl

  pub needs_last : (slots : List (Slot T)) (order : Link) (chains : List Link) (stack free : Link) (is : IsLinked slots order chains stack free) (cells : Cells T)
      → cells_of slots order stack ≡ cells → (can : CanTakeLast cells) (place : ℕ) → order.prev ≡ Some place → NeedsOut slots place
  needs_last slots order chains stack free is cells same can place prev =
      needs_live slots order chains stack free is cells same place
      (can.front, can.last, [], last_live slots order chains stack free is cells same can.front can.last can.split place prev)

  pub no_last : (slots : List (Slot T)) (order : Link) (chains : List Link) (stack free : Link) (is : IsLinked slots order chains stack free) (cells : Cells T)
      → cells_of slots order stack ≡ cells → CanTakeLast cells → order.prev ≡ None → ⊥
  no_last slots order chains stack free is cells same can none =
      let some : order.prev ≡ Some can.last.id = last_is slots order chains stack free is cells same can.front can.last can.split in cc

  pub no_top : (slots : List (Slot T)) (order : Link) (chains : List Link) (stack free : Link) (is : IsLinked slots order chains stack free) (cells : Cells T)
      → cells_of slots order stack ≡ cells → CanRelink cells → stack.next ≡ None → ⊥
  no_top slots order chains stack free is cells same can none =
      let some : stack.next ≡ Some can.top.cell.id = top_is slots order chains stack free is cells same can in cc

  pub no_lowest : (slots : List (Slot T)) (order : Link) (chains : List Link) (stack free : Link) (is : IsLinked slots order chains stack free) (cells : Cells T)
      → cells_of slots order stack ≡ cells → 0 < length cells.stack → stack.prev ≡ None → ⊥
  no_lowest slots order chains stack free is cells same filled none =
      let end = has_lowest cells.stack filled in
      let some : stack.prev ≡ Some end.1.cell.id = lowest_is slots order chains stack free is cells same end.0 end.1 end.2 in cc

  pub last_value : (slots : List (Slot T)) (order : Link) (chains : List Link) (stack free : Link) (is : IsLinked slots order chains stack free) (cells : Cells T)
      → cells_of slots order stack ≡ cells → (front : List (Cell T)) (last : Cell T) → cells.live ≡ front ++ last ∷ [] → (place : ℕ) → order.prev ≡ Some place
      → (slot_at slots place).held.value ≡ Some last.value
  last_value slots order chains stack free is cells same front last split place prev =
      value_of_live slots order chains stack free is cells same place front last [] (last_live slots order chains stack free is cells same front last split place prev)

  -- what was in a slot when it was emptied
  pub released_is : (slots out : List (Slot T)) (place : ℕ) (result : Option T) (value other : T) → result ≡ Some value → result ≡ (slot_at out place).held.value
      → (slot_at out place).held ≡ (slot_at slots place).held → (slot_at slots place).held.value ≡ Some other → value ≡ other
  released_is slots out place result value other is read same held =
      value_is result value other is (read ∙ ap (λ (h : Held T). h.value) same ∙ held)

  pub released_some : (slots out : List (Slot T)) (place : ℕ) (result : Option T) (other : T) → result ≡ None → result ≡ (slot_at out place).held.value
      → (slot_at out place).held ≡ (slot_at slots place).held → (slot_at slots place).held.value ≡ Some other → ⊥
  released_some slots out place result other none read same held =
      let some : result ≡ Some other = read ∙ ap (λ (h : Held T). h.value) same ∙ held in cc

  -- a slot may be put between such neighbours
  pub record NeedsPut (slots : List (Slot T)) (place : ℕ) (sides chain_sides : Link) : Type 0 where
    pub within : place < length slots
    pub few : length slots ≤ 4294967295
    pub fits : (slot_at slots place).held.bucket < 64
    pub order : AreWithin (length slots) sides
    pub chain : AreWithin (length slots) chain_sides

  pub needs_put : (found filled : List (Slot T)) (order : Link) (chains : List Link) (place : ℕ) (now : Held T) (bucket : ℕ) (past past' : Option ℕ) (ends : Link)
      → NeedsIn found order chains place → IsHeldNow found filled place now → now.bucket < 64 → bucket < 64 → past ≡ None → past' ≡ None → ends ≡ ends_at chains bucket
      → NeedsPut filled place (record { prev = order.prev; next = past }) (record { prev = ends.prev; next = past' })
  needs_put found filled order chains place now bucket past past' ends needs held fits below is_none is_none' is_ends =
      record {
        within = rw held.as_many needs.within;
        few = rw held.as_many needs.few;
        fits = subst (λ (h : Held T). h.bucket < 64) (sym held.here) fits;
        order = rw (held.as_many, is_none) (needs.order_ends.0, tt);
        chain = rw (held.as_many, is_none', is_ends) ((needs.chain_ends bucket below).0, tt);
      }

  pub needs_put_back : (slots off marked : List (Slot T)) (place : ℕ) (sides chain_sides : Link)
      → NeedsOut slots place → length slots ≤ 4294967295 → StaysBeside Pile slots off → IsHeldNow off marked place (record (slot_at off place).held { live = true })
      → sides ≡ link_of Order (slot_at marked place) → chain_sides ≡ link_of Chain (slot_at marked place) → NeedsPut marked place sides chain_sides
  needs_put_back slots off marked place sides chain_sides needs few rest held is_sides is_chain_sides =
      let many : length marked ≡ length slots = held.as_many ∙ rest.as_many in
      let order_same : (slot_at marked place).order ≡ (slot_at slots place).order = held.links Order place ∙ rest.others Order (λ same. cc) place in
      let chain_same : (slot_at marked place).chain ≡ (slot_at slots place).chain = held.links Chain place ∙ rest.others Chain (λ same. cc) place in
      record {
        within = rw many needs.within;
        few = rw many few;
        fits = subst (λ (b : ℕ). b < 64) (sym (ap (λ (h : Held T). h.bucket) held.here ∙ ap (λ (h : Held T). h.bucket) (rest.held place))) needs.fits;
        order = subst (λ (n : ℕ). AreWithin n sides) (sym many) (subst (AreWithin (length slots)) (sym (is_sides ∙ order_same)) needs.order);
        chain = subst (λ (n : ℕ). AreWithin n chain_sides) (sym many) (subst (AreWithin (length slots)) (sym (is_chain_sides ∙ chain_same)) needs.chain);
      }

  pub first_of_chain : (slots : List (Slot T)) (order : Link) (chains : List Link) (stack free : Link) (is : IsLinked slots order chains stack free) (cells : Cells T)
      → cells_of slots order stack ≡ cells → (bucket : ℕ) (result : Option SlotId)
      → (bucket < 64 → option_map (λ (id : SlotId). id.0) result ≡ (ends_at chains bucket).next) → (64 ≤ bucket → result ≡ None)
      → option_map (λ (id : SlotId). id.0) result ≡ first_of (ids (chain_of bucket cells.live))
  first_of_chain slots order chains stack free is cells same bucket result some none =
      elim (lt_or_ge bucket 64) [
        | inl below ↦ some below ∙ chain_first slots order chains stack free is cells same bucket below
        | inr past ↦ ap (option_map (λ (id : SlotId). id.0)) (none past) ∙ no_chain slots order chains stack free is cells same bucket past
      ]
