-- The shape of the slots where a place goes onto a pile or off it, where what a loose one holds changes, and where one is added.
use Rattle.std.proofs.Common.{◌≡◌, ◌≢◌, ◌⊎◌, ℕ, zero, suc, ◌+◌, ◌<◌, ◌≤◌, false, List, [], ◌∷◌, ◌++◌, length, Option, None, refl, sym, ap, ◌∙◌, subst, inl, inr, arith, length-append}
use Rattle.std.specs.List.{AllByRecursion}
use Rattle.std.proofs.lemmas.Bool.{cases_eq}
use Rattle.zy_slots.specs.declared.link.Link.{Link}
use Rattle.zy_slots.specs.declared.slot.Kind.TheVariants.{Order, Chain, Pile}
use Rattle.zy_slots.specs.declared.slot.Held.{Held}
use Rattle.zy_slots.specs.declared.slot.Slot.{Slot}
use Rattle.zy_slots.specs.Rings.{between, IsRing}
use Rattle.zy_slots.specs.Columns.{no_slot, ends_at, slot_at, linked, link_of, IsDetached, IsAttached, StaysBeside, IsHeldNow}
use Rattle.zy_slots.specs.Cells.{Cell, Kept, KeptByNone, ids, chain_of}
use Rattle.zy_slots.specs.Shape.{times, kept_ids, total, AreAmong, IsAged, IsSound, IsShape, HoldsLive, HoldsKept}
use Rattle.zy_slots.proofs.PutLemmas.{next_of}
use Rattle.zy_slots.proofs.TimesLemmas.{times-append, times_self, times_middle, other_place, never}
use Rattle.zy_slots.proofs.RingLemmas.{ring_same, detached, detached_elsewhere, attached, attached_elsewhere}
use Rattle.zy_slots.proofs.ColumnLemmas.{same_column}
use Rattle.zy_slots.proofs.ListLemmas.{all_split, all_join, all_map, all_among, kept_ids-append}
use Rattle.zy_slots.proofs.NameLemmas.{both_more, named_more, named_without, named_taken}
use Rattle.zy_slots.proofs.AgeLemmas.{rises_anew, stack_anew, aged_anew}
use Rattle.zy_slots.proofs.StepLemmas.{laid, moved}

-- a pile's first place
pub first_link : (at : Option ℕ → Link) (places : List ℕ) (ends : Link) → at None ≡ ends → IsRing at places
    → (let link : Link = record { prev = None; next = ends.next } in link) ≡ between [] places
first_link at places ends same ring = ap (λ (o : Option ℕ). let link : Link = record { prev = None; next = o } in link) (ap next_of (sym same ∙ ring.ends))

module _ {T : Type 0} where
  -- no slot more than there are
  slot_at-push : (slots : List (Slot T)) (place : ℕ) → slot_at (slots ++ no_slot ∷ []) place ≡ slot_at slots place
  slot_at-push [] zero = refl
  slot_at-push [] (suc place) = refl
  slot_at-push (slot ∷ slots) zero = refl
  slot_at-push (slot ∷ slots) (suc place) = slot_at-push slots place

  live_beside : (slots slots' : List (Slot T)) → StaysBeside Pile slots slots' → (cell : Cell T) → HoldsLive slots cell → HoldsLive slots' cell
  live_beside slots slots' rest cell holds = record { held = rest.held cell.id ∙ holds.held; fits = holds.fits }

  kept_beside : (slots slots' : List (Slot T)) → StaysBeside Pile slots slots' → (item : Kept T) → HoldsKept slots item → HoldsKept slots' item
  kept_beside slots slots' rest item holds =
      record {
        held = rest.held item.cell.id ∙ holds.held;
        fits = holds.fits;
        order = rest.others Order (λ same. cc) item.cell.id ∙ holds.order;
        chain = rest.others Chain (λ same. cc) item.cell.id ∙ holds.chain;
      }

  order_beside : (slots slots' : List (Slot T)) (order : Link) (places : List ℕ) → StaysBeside Pile slots slots'
      → IsRing (linked Order slots order) places → IsRing (linked Order slots' order) places
  order_beside slots slots' order places rest ring =
      subst (λ (at : Option ℕ → Link). IsRing at places) (sym (same_column Order slots slots' order (rest.others Order (λ same. cc)))) ring

  chain_beside : (slots slots' : List (Slot T)) (ends : Link) (places : List ℕ) → StaysBeside Pile slots slots'
      → IsRing (linked Chain slots ends) places → IsRing (linked Chain slots' ends) places
  chain_beside slots slots' ends places rest ring =
      subst (λ (at : Option ℕ → Link). IsRing at places) (sym (same_column Chain slots slots' ends (rest.others Chain (λ same. cc)))) ring

  -- onto the stack
  pub stacked_shape : (slots slots' : List (Slot T)) (order : Link) (chains : List Link) (stack stack' free : Link)
      (live : List (Cell T)) (item : Kept T) (items : List (Kept T)) (empty : List ℕ) (age : ℕ → ℕ)
      → IsShape slots order chains stack free (laid live items empty (item.cell.id ∷ []) age)
      → IsAttached (linked Pile slots stack) (linked Pile slots' stack') item.cell.id (record { prev = None; next = stack.next }) → StaysBeside Pile slots slots'
      → HoldsKept slots item → AreAmong (ids live) item.order → AreAmong (ids live) item.chain → IsAged age item
      → IsShape slots' order chains stack' free (laid live (item ∷ items) empty [] age)
  stacked_shape slots slots' order chains stack stack' free live item items empty age shape put rest holds among among' aged =
      record {
        sound = subst (λ (n : ℕ). IsSound n (laid live (item ∷ items) empty [] age)) (sym rest.as_many)
            (moved (length slots) (laid live items empty (item.cell.id ∷ []) age) (laid live (item ∷ items) empty [] age) shape.sound
            (λ place. omega arith) (omega arith) (
              both_more (ids live) (ids live ++ []) item.order more among,
              both_more (ids live) (ids live ++ []) item.chain more among',
              named_more (ids live ++ item.cell.id ∷ []) (item.cell.id ∷ (ids live ++ [])) items
                  (λ place some. omega (arith, times-append place (ids live) (item.cell.id ∷ []), times-append place (ids live) [])) shape.sound.named,
            )
            shape.sound.rises (aged, shape.sound.aged));
        order_ring = order_beside slots slots' order (ids live) rest shape.order_ring;
        chain_rings = λ bucket below. chain_beside slots slots' (ends_at chains bucket) (ids (chain_of bucket live)) rest (shape.chain_rings bucket below);
        stack_ring = attached (linked Pile slots stack) (linked Pile slots' stack') [] item.cell.id (kept_ids items) shape.stack_ring
            (λ place. omega (arith, once place)) refl (omega (arith, own)) put';
        free_ring = ring_same (linked Pile slots free) (linked Pile slots' free) empty shape.free_ring refl
            (λ place some. attached_elsewhere (linked Pile slots stack) (linked Pile slots' stack') [] item.cell.id (kept_ids items) place put'
            (λ same. let there : 0 < times item.cell.id empty = subst (λ (p : ℕ). 0 < times p empty) same some in omega (arith, own)) refl (omega (arith, once place)));
        holds_live = all_map (HoldsLive slots) (HoldsLive slots') live (live_beside slots slots' rest) shape.holds_live;
        holds_kept = (kept_beside slots slots' rest item holds, all_map (HoldsKept slots) (HoldsKept slots') items (kept_beside slots slots' rest) shape.holds_kept);
        marks = λ place none. ap (λ (held : Held T). held.live) (rest.held place) ∙ elim (cases_eq place item.cell.id) [
          | inl same ↦ ap (λ (p : ℕ). (slot_at slots p).held.live) same ∙ ap (λ (held : Held T). held.live) holds.held
          | inr apart ↦ shape.marks place (omega (arith, none, not_own place apart))
        ];
      }
    where
      more : (place : ℕ) → 0 < times place (ids live) → 0 < times place (ids live ++ [])
      more place some = omega (arith, times-append place (ids live) [])

      once : (place : ℕ) → times place (ids live) + times place (kept_ids items) + times place empty + times place (item.cell.id ∷ []) ≤ 1
      once place = shape.sound.once place

      own : times item.cell.id (ids live) + times item.cell.id (kept_ids items) + times item.cell.id empty + 1 ≤ 1
      own = omega (arith, once item.cell.id, times_self item.cell.id [])

      not_own : (place : ℕ) → place ≢ item.cell.id → times place (item.cell.id ∷ []) ≡ 0
      not_own place apart = other_place place item.cell.id apart

      put' : IsAttached (linked Pile slots stack) (linked Pile slots' stack') item.cell.id (between [] (kept_ids items))
      put' = subst (IsAttached (linked Pile slots stack) (linked Pile slots' stack') item.cell.id) (first_link (linked Pile slots stack) (kept_ids items) stack refl shape.stack_ring) put

  -- off the stack
  pub unstacked_shape : (slots slots' : List (Slot T)) (order : Link) (chains : List Link) (stack stack' free : Link)
      (live : List (Cell T)) (front : List (Kept T)) (item : Kept T) (back : List (Kept T)) (empty : List ℕ) (age : ℕ → ℕ)
      → IsShape slots order chains stack free (laid live (front ++ item ∷ back) empty [] age)
      → IsDetached (linked Pile slots stack) (linked Pile slots' stack') item.cell.id → StaysBeside Pile slots slots'
      → IsShape slots' order chains stack' free (laid live (front ++ back) empty (item.cell.id ∷ []) age)
  unstacked_shape slots slots' order chains stack stack' free live front item back empty age shape out rest =
      record {
        sound = subst (λ (n : ℕ). IsSound n (laid live (front ++ back) empty (item.cell.id ∷ []) age)) (sym rest.as_many)
            (moved (length slots) (laid live (front ++ item ∷ back) empty [] age) (laid live (front ++ back) empty (item.cell.id ∷ []) age) shape.sound
            (λ place. omega (arith, counts place, counts' place)) (omega (arith, length-append front (item ∷ back), length-append front back))
            (named_more ((ids live ++ []) ++ item.cell.id ∷ []) (ids live ++ item.cell.id ∷ []) (front ++ back)
            (λ place some. omega (arith, times-append place (ids live ++ []) (item.cell.id ∷ []), times-append place (ids live) [], times-append place (ids live) (item.cell.id ∷ [])))
            (named_taken (ids live ++ []) front item back shape.sound.named))
            shape.sound.rises
            (all_join (IsAged age) front back (all_split (IsAged age) front item back shape.sound.aged).0 (all_split (IsAged age) front item back shape.sound.aged).2));
        order_ring = order_beside slots slots' order (ids live) rest shape.order_ring;
        chain_rings = λ bucket below. chain_beside slots slots' (ends_at chains bucket) (ids (chain_of bucket live)) rest (shape.chain_rings bucket below);
        stack_ring = subst (IsRing (linked Pile slots' stack')) (sym (kept_ids-append front back))
            (detached (linked Pile slots stack) (linked Pile slots' stack') (kept_ids front) item.cell.id (kept_ids back) was (λ place. omega (arith, once place, times_middle place (kept_ids front) item.cell.id (kept_ids back))) out);
        free_ring = ring_same (linked Pile slots free) (linked Pile slots' free) empty shape.free_ring refl
            (λ place some. detached_elsewhere (linked Pile slots stack) (linked Pile slots' stack') (kept_ids front) item.cell.id (kept_ids back) place was out (omega (arith, once place)) (omega (arith, once place)));
        holds_live = all_map (HoldsLive slots) (HoldsLive slots') live (live_beside slots slots' rest) shape.holds_live;
        holds_kept = all_map (HoldsKept slots) (HoldsKept slots') (front ++ back) (kept_beside slots slots' rest)
            (all_join (HoldsKept slots) front back (all_split (HoldsKept slots) front item back shape.holds_kept).0 (all_split (HoldsKept slots) front item back shape.holds_kept).2);
        marks = λ place none. ap (λ (held : Held T). held.live) (rest.held place) ∙ shape.marks place (omega (arith, none));
      }
    where
      counts : (place : ℕ) → times place (kept_ids (front ++ item ∷ back)) ≡ times place (kept_ids front) + times place (item.cell.id ∷ []) + times place (kept_ids back)
      counts place = ap (times place) (kept_ids-append front (item ∷ back)) ∙ times_middle place (kept_ids front) item.cell.id (kept_ids back)

      counts' : (place : ℕ) → times place (kept_ids (front ++ back)) ≡ times place (kept_ids front) + times place (kept_ids back)
      counts' place = ap (times place) (kept_ids-append front back) ∙ times-append place (kept_ids front) (kept_ids back)

      once : (place : ℕ) → times place (kept_ids front) + times place (item.cell.id ∷ []) + times place (kept_ids back) + times place empty ≤ 1
      once place = omega (arith, shape.sound.once place, counts place)

      was : IsRing (linked Pile slots stack) (kept_ids front ++ item.cell.id ∷ kept_ids back)
      was = subst (IsRing (linked Pile slots stack)) (kept_ids-append front (item ∷ back)) shape.stack_ring

  pub kept_after : (slots slots' : List (Slot T)) (front : List (Kept T)) (item : Kept T) (back : List (Kept T))
      → AllByRecursion (HoldsKept slots) (front ++ item ∷ back) → StaysBeside Pile slots slots' → HoldsKept slots' item
  kept_after slots slots' front item back holds rest = kept_beside slots slots' rest item (all_split (HoldsKept slots) front item back holds).1

  -- a place is free now
  pub freed_shape : (slots slots' : List (Slot T)) (order : Link) (chains : List Link) (stack free free' : Link)
      (live : List (Cell T)) (items : List (Kept T)) (empty : List ℕ) (gone : ℕ) (age : ℕ → ℕ)
      → IsShape slots order chains stack free (laid live items empty (gone ∷ []) age)
      → IsAttached (linked Pile slots free) (linked Pile slots' free') gone (record { prev = None; next = free.next }) → StaysBeside Pile slots slots'
      → (slot_at slots gone).held.live ≡ false → KeptByNone items gone
      → IsShape slots' order chains stack free' (laid live items (gone ∷ empty) [] age)
  freed_shape slots slots' order chains stack free free' live items empty gone age shape put rest dead apart =
      record {
        sound = subst (λ (n : ℕ). IsSound n (laid live items (gone ∷ empty) [] age)) (sym rest.as_many)
            (moved (length slots) (laid live items empty (gone ∷ []) age) (laid live items (gone ∷ empty) [] age) shape.sound
            (λ place. omega arith) (omega arith)
            (named_without (ids live ++ gone ∷ []) (ids live ++ []) gone items apart
            (λ place elsewhere some. omega (arith, times-append place (ids live) (gone ∷ []), times-append place (ids live) [], other_place place gone elsewhere)) shape.sound.named)
            shape.sound.rises shape.sound.aged);
        order_ring = order_beside slots slots' order (ids live) rest shape.order_ring;
        chain_rings = λ bucket below. chain_beside slots slots' (ends_at chains bucket) (ids (chain_of bucket live)) rest (shape.chain_rings bucket below);
        free_ring = attached (linked Pile slots free) (linked Pile slots' free') [] gone empty shape.free_ring
            (λ place. omega (arith, once place)) refl (omega (arith, own)) put';
        stack_ring = ring_same (linked Pile slots stack) (linked Pile slots' stack) (kept_ids items) shape.stack_ring refl
            (λ place some. attached_elsewhere (linked Pile slots free) (linked Pile slots' free') [] gone empty place put'
            (λ same. let there : 0 < times gone (kept_ids items) = subst (λ (p : ℕ). 0 < times p (kept_ids items)) same some in omega (arith, own)) refl (omega (arith, once place)));
        holds_live = all_map (HoldsLive slots) (HoldsLive slots') live (live_beside slots slots' rest) shape.holds_live;
        holds_kept = all_map (HoldsKept slots) (HoldsKept slots') items (kept_beside slots slots' rest) shape.holds_kept;
        marks = λ place none. ap (λ (held : Held T). held.live) (rest.held place) ∙ elim (cases_eq place gone) [
          | inl same ↦ ap (λ (p : ℕ). (slot_at slots p).held.live) same ∙ dead
          | inr elsewhere ↦ shape.marks place (omega (arith, none, other_place place gone elsewhere))
        ];
      }
    where
      once : (place : ℕ) → times place (ids live) + times place (kept_ids items) + times place empty + times place (gone ∷ []) ≤ 1
      once place = shape.sound.once place

      own : times gone (ids live) + times gone (kept_ids items) + times gone empty + 1 ≤ 1
      own = omega (arith, once gone, times_self gone [])

      put' : IsAttached (linked Pile slots free) (linked Pile slots' free') gone (between [] empty)
      put' = subst (IsAttached (linked Pile slots free) (linked Pile slots' free') gone) (first_link (linked Pile slots free) empty free refl shape.free_ring) put

  -- a free place is taken
  pub taken_shape : (slots slots' : List (Slot T)) (order : Link) (chains : List Link) (stack free free' : Link)
      (live : List (Cell T)) (items : List (Kept T)) (place : ℕ) (empty : List ℕ) (age : ℕ → ℕ)
      → IsShape slots order chains stack free (laid live items (place ∷ empty) [] age)
      → IsDetached (linked Pile slots free) (linked Pile slots' free') place → StaysBeside Pile slots slots'
      → IsShape slots' order chains stack free' (laid live items empty (place ∷ []) age)
  taken_shape slots slots' order chains stack free free' live items place empty age shape out rest =
      record {
        sound = subst (λ (n : ℕ). IsSound n (laid live items empty (place ∷ []) age)) (sym rest.as_many)
            (moved (length slots) (laid live items (place ∷ empty) [] age) (laid live items empty (place ∷ []) age) shape.sound
            (λ other. omega arith) (omega arith)
            (named_more (ids live ++ []) (ids live ++ place ∷ []) items
            (λ other some. omega (arith, times-append other (ids live) [], times-append other (ids live) (place ∷ []))) shape.sound.named)
            shape.sound.rises shape.sound.aged);
        order_ring = order_beside slots slots' order (ids live) rest shape.order_ring;
        chain_rings = λ bucket below. chain_beside slots slots' (ends_at chains bucket) (ids (chain_of bucket live)) rest (shape.chain_rings bucket below);
        free_ring = detached (linked Pile slots free) (linked Pile slots' free') [] place empty shape.free_ring (λ other. omega (arith, once other)) out;
        stack_ring = ring_same (linked Pile slots stack) (linked Pile slots' stack) (kept_ids items) shape.stack_ring refl
            (λ other some. detached_elsewhere (linked Pile slots free) (linked Pile slots' free') [] place empty other shape.free_ring out refl (omega (arith, once other)));
        holds_live = all_map (HoldsLive slots) (HoldsLive slots') live (live_beside slots slots' rest) shape.holds_live;
        holds_kept = all_map (HoldsKept slots) (HoldsKept slots') items (kept_beside slots slots' rest) shape.holds_kept;
        marks = λ other none. ap (λ (held : Held T). held.live) (rest.held other) ∙ shape.marks other (omega (arith, none));
      }
    where
      once : (other : ℕ) → times other (ids live) + times other (kept_ids items) + times other (place ∷ empty) ≤ 1
      once other = omega (arith, shape.sound.once other)

  -- a slot is added
  pub grown_shape : (slots : List (Slot T)) (order : Link) (chains : List Link) (stack free : Link)
      (live : List (Cell T)) (items : List (Kept T)) (empty : List ℕ) (age : ℕ → ℕ)
      → IsShape slots order chains stack free (laid live items empty [] age) → length slots < 4294967295
      → IsShape (slots ++ no_slot ∷ []) order chains stack free (laid live items empty (length slots ∷ []) age)
  grown_shape slots order chains stack free live items empty age shape room =
      record {
        sound = record {
          once = λ place. elim (cases_eq place (length slots)) [
            | inl same ↦ subst (λ (p : ℕ). total (laid live items empty (length slots ∷ []) age) p ≤ 1) (sym same) (omega (arith, none, times_self (length slots) []))
            | inr apart ↦ omega (arith, shape.sound.once place, other_place place (length slots) apart)
          ];
          within = λ place some. elim (cases_eq place (length slots)) [
            | inl same ↦ omega (arith, length-append slots (no_slot ∷ []))
            | inr apart ↦
                let inside : place < length slots = shape.sound.within place (omega (arith, some, other_place place (length slots) apart)) in
                omega (arith, length-append slots (no_slot ∷ []))
          ];
          sized = omega (arith, shape.sound.sized, length-append slots (no_slot ∷ []));
          few = omega (arith, length-append slots (no_slot ∷ []));
          named = named_more (ids live ++ []) (ids live ++ length slots ∷ []) items
              (λ place some. omega (arith, times-append place (ids live) [], times-append place (ids live) (length slots ∷ []))) shape.sound.named;
          rises = shape.sound.rises;
          aged = shape.sound.aged;
        };
        order_ring = subst (λ (at : Option ℕ → Link). IsRing at (ids live)) (sym (same_column Order slots _ order (λ place. ap (link_of Order) (slot_at-push slots place)))) shape.order_ring;
        chain_rings = λ bucket below. subst (λ (at : Option ℕ → Link). IsRing at (ids (chain_of bucket live)))
            (sym (same_column Chain slots _ (ends_at chains bucket) (λ place. ap (link_of Chain) (slot_at-push slots place)))) (shape.chain_rings bucket below);
        stack_ring = subst (λ (at : Option ℕ → Link). IsRing at (kept_ids items)) (sym (same_column Pile slots _ stack (λ place. ap (link_of Pile) (slot_at-push slots place)))) shape.stack_ring;
        free_ring = subst (λ (at : Option ℕ → Link). IsRing at empty) (sym (same_column Pile slots _ free (λ place. ap (link_of Pile) (slot_at-push slots place)))) shape.free_ring;
        holds_live = all_map (HoldsLive slots) (HoldsLive (slots ++ no_slot ∷ [])) live
            (λ c h. record { held = ap (λ (s : Slot T). s.held) (slot_at-push slots c.id) ∙ h.held; fits = h.fits }) shape.holds_live;
        holds_kept = all_map (HoldsKept slots) (HoldsKept (slots ++ no_slot ∷ [])) items
            (λ k h. record {
              held = ap (λ (s : Slot T). s.held) (slot_at-push slots k.cell.id) ∙ h.held;
              fits = h.fits;
              order = ap (λ (s : Slot T). s.order) (slot_at-push slots k.cell.id) ∙ h.order;
              chain = ap (λ (s : Slot T). s.chain) (slot_at-push slots k.cell.id) ∙ h.chain;
            }) shape.holds_kept;
        marks = λ place none. ap (λ (s : Slot T). s.held.live) (slot_at-push slots place) ∙ shape.marks place (omega (arith, none));
      }
    where
      none : total (laid live items empty [] age) (length slots) ≡ 0
      none = let inside : 0 < total (laid live items empty [] age) (length slots) → length slots < length slots = shape.sound.within (length slots) in never (total (laid live items empty [] age) (length slots)) (length slots) inside

  -- what a loose place holds changes
  pub held_shape : (slots slots' : List (Slot T)) (order : Link) (chains : List Link) (stack free : Link)
      (live : List (Cell T)) (items : List (Kept T)) (empty : List ℕ) (place : ℕ) (age : ℕ → ℕ) (now : Held T)
      → IsShape slots order chains stack free (laid live items empty (place ∷ []) age) → IsHeldNow slots slots' place now
      → IsShape slots' order chains stack free (laid live items empty (place ∷ []) age)
  held_shape slots slots' order chains stack free live items empty place age now shape rest =
      record {
        sound = subst (λ (n : ℕ). IsSound n (laid live items empty (place ∷ []) age)) (sym rest.as_many) shape.sound;
        order_ring = subst (λ (at : Option ℕ → Link). IsRing at (ids live)) (sym (same_column Order slots slots' order (rest.links Order))) shape.order_ring;
        chain_rings = λ bucket below. subst (λ (at : Option ℕ → Link). IsRing at (ids (chain_of bucket live)))
            (sym (same_column Chain slots slots' (ends_at chains bucket) (rest.links Chain))) (shape.chain_rings bucket below);
        stack_ring = subst (λ (at : Option ℕ → Link). IsRing at (kept_ids items)) (sym (same_column Pile slots slots' stack (rest.links Pile))) shape.stack_ring;
        free_ring = subst (λ (at : Option ℕ → Link). IsRing at empty) (sym (same_column Pile slots slots' free (rest.links Pile))) shape.free_ring;
        holds_live = all_among (λ (c : Cell T). c.id) (HoldsLive slots) (HoldsLive slots') live
            (λ c some h. record { held = rest.elsewhere c.id (λ same. let there : 0 < times place (ids live) = subst (λ (p : ℕ). 0 < times p (ids live)) same some in omega (arith, own)) ∙ h.held; fits = h.fits })
            shape.holds_live;
        holds_kept = all_among (λ (k : Kept T). k.cell.id) (HoldsKept slots) (HoldsKept slots') items
            (λ k some h. record {
              held = rest.elsewhere k.cell.id (λ same. let there : 0 < times place (kept_ids items) = subst (λ (p : ℕ). 0 < times p (kept_ids items)) same some in omega (arith, own)) ∙ h.held;
              fits = h.fits;
              order = rest.links Order k.cell.id ∙ h.order;
              chain = rest.links Chain k.cell.id ∙ h.chain;
            }) shape.holds_kept;
        marks = λ other none.
            ap (λ (held : Held T). held.live) (rest.elsewhere other (λ same.
            let there : times place (ids live) + times place (place ∷ []) ≡ 0 = subst (λ (p : ℕ). times p (ids live) + times p (place ∷ []) ≡ 0) same none in
            omega (arith, times_self place [])))
            ∙ shape.marks other none;
      }
    where
      own : times place (ids live) + times place (kept_ids items) + times place empty + 1 ≤ 1
      own = omega (arith, shape.sound.once place, times_self place [])

  -- a loose place has another age
  pub anew_shape : (slots : List (Slot T)) (order : Link) (chains : List Link) (stack free : Link)
      (live : List (Cell T)) (items : List (Kept T)) (empty : List ℕ) (place : ℕ) (age : ℕ → ℕ) (new : ℕ)
      → IsShape slots order chains stack free (laid live items empty (place ∷ []) age) → KeptByNone items place
      → IsShape slots order chains stack free (laid live items empty (place ∷ []) (aged_anew age place new))
  anew_shape slots order chains stack free live items empty place age new shape apart =
      record {
        sound = record {
          once = shape.sound.once;
          within = shape.sound.within;
          sized = shape.sound.sized;
          few = shape.sound.few;
          named = shape.sound.named;
          rises = rises_anew age place new live (omega (arith, shape.sound.once place, times_self place [])) shape.sound.rises;
          aged = stack_anew age place new items (omega (arith, shape.sound.once place, times_self place [])) apart shape.sound.aged;
        };
        order_ring = shape.order_ring;
        chain_rings = shape.chain_rings;
        stack_ring = shape.stack_ring;
        free_ring = shape.free_ring;
        holds_live = shape.holds_live;
        holds_kept = shape.holds_kept;
        marks = shape.marks;
      }
