-- The shape of the slots through the small steps that the calls are made of.
use Rattle.std.proofs.Common.{◌≡◌, ◌≢◌, ◌⊎◌, ℕ, ◌+◌, ◌<◌, ◌≤◌, List, [], ◌∷◌, ◌++◌, length, Option, sym, ap, ◌∙◌, subst, inl, inr, arith, length-append}
use Rattle.std.specs.List.{AllByRecursion}
use Rattle.std.proofs.lemmas.Bool.{cases_eq}
use Rattle.zy_slots.specs.declared.link.Link.{Link}
use Rattle.zy_slots.specs.declared.slot.Kind.TheVariants.{Order, Chain, Pile}
use Rattle.zy_slots.specs.declared.slot.Held.{Held}
use Rattle.zy_slots.specs.declared.slot.Slot.{Slot}
use Rattle.zy_slots.specs.Rings.{between, IsRing}
use Rattle.zy_slots.specs.Columns.{ends_at, slot_at, linked, IsDetached, IsAttached, StaysInPiles}
use Rattle.zy_slots.specs.Cells.{Cell, Kept, ids, chain_of}
use Rattle.zy_slots.specs.Shape.{times, kept_ids, Layout, total, AreNamed, Rises, IsAged, IsSound, IsShape, HoldsLive, HoldsKept}
use Rattle.zy_slots.proofs.TimesLemmas.{times-append, times_self, times_middle}
use Rattle.zy_slots.proofs.RingLemmas.{ring_same, detached, detached_elsewhere, attached, attached_elsewhere}
use Rattle.zy_slots.proofs.ColumnLemmas.{same_column}
use Rattle.zy_slots.proofs.ListLemmas.{all_split, all_parts, all_join, all_map, all_among, ids_middle, ids-append, kept_ids-append, chain-append, chain_middle, chain_beside, times_chain, times_chains}
use Rattle.zy_slots.proofs.NameLemmas.{named_more}
use Rattle.zy_slots.proofs.AgeLemmas.{rises_out, rises_in}

module _ {T : Type 0} where
  abbrev pub laid : List (Cell T) → List (Kept T) → List ℕ → List ℕ → (ℕ → ℕ) → Layout T
  laid live stack empty loose age = record { live = live; stack = stack; empty = empty; loose = loose; age = age }

  abbrev pub size_of : Layout T → ℕ
  size_of layout = length layout.live + length layout.stack + length layout.empty + length layout.loose

  -- places that move from one list to another
  pub moved : (size : ℕ) (before after : Layout T) → IsSound size before → ((place : ℕ) → total after place ≡ total before place) → size_of after ≡ size_of before
      → AreNamed (ids after.live ++ after.loose) after.stack → Rises after.age after.live → AllByRecursion (IsAged after.age) after.stack → IsSound size after
  moved size before after sound totals sizes named rises aged =
      record {
        once = λ place. subst (λ (n : ℕ). n ≤ 1) (sym (totals place)) (sound.once place);
        within = λ place some. sound.within place (subst (λ (n : ℕ). 0 < n) (totals place) some);
        sized = sizes ∙ sound.sized;
        few = sound.few;
        named = named;
        rises = rises;
        aged = aged;
      }

  -- ---- out of both orders, and into them

  pub out_shape : (slots slots' : List (Slot T)) (order order' : Link) (chains chains' : List Link) (stack free : Link)
      (front : List (Cell T)) (cell : Cell T) (back : List (Cell T)) (items : List (Kept T)) (empty : List ℕ) (age : ℕ → ℕ)
      → IsShape slots order chains stack free (laid (front ++ cell ∷ back) items empty [] age)
      → IsDetached (linked Order slots order) (linked Order slots' order') cell.id
      → IsDetached (linked Chain slots (ends_at chains cell.bucket)) (linked Chain slots' (ends_at chains' cell.bucket)) cell.id
      → StaysInPiles slots slots' chains chains' cell.bucket
      → IsShape slots' order' chains' stack free (laid (front ++ back) items empty (cell.id ∷ []) age)
  out_shape slots slots' order order' chains chains' stack free front cell back items empty age shape out out' rest =
      record {
        sound = subst (λ (n : ℕ). IsSound n (laid (front ++ back) items empty (cell.id ∷ []) age)) (sym rest.as_many)
            (moved (length slots) (laid (front ++ cell ∷ back) items empty [] age) (laid (front ++ back) items empty (cell.id ∷ []) age) shape.sound
            (λ place. omega (arith, counts place, counts' place))
            (omega (arith, length-append front (cell ∷ back), length-append front back))
            (named_more _ _ items (λ place some. omega (arith, counts place, counts' place, times-append place (ids (front ++ cell ∷ back)) [], times-append place (ids (front ++ back)) (cell.id ∷ []))) shape.sound.named)
            (rises_out age front cell back shape.sound.rises) shape.sound.aged);
        order_ring = subst (IsRing (linked Order slots' order')) (sym (ids-append front back))
            (detached (linked Order slots order) (linked Order slots' order') (ids front) cell.id (ids back) order_was (λ place. omega (arith, once place, times_middle place (ids front) cell.id (ids back))) out);
        chain_rings = λ bucket below. elim (cases_eq bucket cell.bucket) [
          | inl same ↦ subst (λ (b : ℕ). IsRing (linked Chain slots' (ends_at chains' b)) (ids (chain_of b (front ++ back)))) (sym same) own_chain
          | inr apart ↦ ring_same (linked Chain slots (ends_at chains bucket)) (linked Chain slots' (ends_at chains' bucket)) (ids (chain_of bucket (front ++ back)))
              (subst (λ (cells : List (Cell T)). IsRing (linked Chain slots (ends_at chains bucket)) (ids cells)) (chain_beside bucket front cell back apart) (shape.chain_rings bucket below))
              (rest.other_chains bucket apart)
              (λ place some.
              let few = times_chains place bucket cell.bucket (front ++ back) apart in
              let parts : times place (ids (chain_of cell.bucket (front ++ back))) ≡ times place (ids (chain_of cell.bucket front)) + times place (ids (chain_of cell.bucket back)) =
              ap (times place) (ap ids (chain-append cell.bucket front back) ∙ ids-append (chain_of cell.bucket front) (chain_of cell.bucket back)) ∙ times-append place _ _ in
              chain_elsewhere place (omega (arith, once place, counts' place)) (omega (arith, once place, counts' place)))
        ];
        stack_ring = subst (λ (at : Option ℕ → Link). IsRing at (kept_ids items)) (sym (same_column Pile slots slots' stack rest.piles)) shape.stack_ring;
        free_ring = subst (λ (at : Option ℕ → Link). IsRing at empty) (sym (same_column Pile slots slots' free rest.piles)) shape.free_ring;
        holds_live = all_map (HoldsLive slots) (HoldsLive slots') (front ++ back) (λ c h. record { held = rest.held c.id ∙ h.held; fits = h.fits })
            (all_join (HoldsLive slots) front back lives.0 lives.2);
        holds_kept = all_among (λ (k : Kept T). k.cell.id) (HoldsKept slots) (HoldsKept slots') items
            (λ k some h. record {
              held = rest.held k.cell.id ∙ h.held;
              fits = h.fits;
              order = detached_elsewhere (linked Order slots order) (linked Order slots' order') (ids front) cell.id (ids back) k.cell.id order_was out
                  (omega (arith, once k.cell.id)) (omega (arith, once k.cell.id)) ∙ h.order;
              chain = chain_elsewhere k.cell.id
                  (omega (arith, once k.cell.id, times_chain k.cell.id cell.bucket front)) (omega (arith, once k.cell.id, times_chain k.cell.id cell.bucket back)) ∙ h.chain;
            }) shape.holds_kept;
        marks = λ place none. ap (λ (held : Held T). held.live) (rest.held place) ∙ shape.marks place (omega (arith, counts place, counts' place));
      }
    where
      counts : (place : ℕ) → times place (ids (front ++ cell ∷ back)) ≡ times place (ids front) + times place (cell.id ∷ []) + times place (ids back)
      counts place = ap (times place) (ids_middle front cell back) ∙ times_middle place (ids front) cell.id (ids back)

      counts' : (place : ℕ) → times place (ids (front ++ back)) ≡ times place (ids front) + times place (ids back)
      counts' place = ap (times place) (ids-append front back) ∙ times-append place (ids front) (ids back)

      once : (place : ℕ) → times place (ids front) + times place (cell.id ∷ []) + times place (ids back) + times place (kept_ids items) + times place empty ≤ 1
      once place = omega (arith, shape.sound.once place, counts place)

      lives : AllByRecursion (HoldsLive slots) front × HoldsLive slots cell × AllByRecursion (HoldsLive slots) back
      lives = all_split (HoldsLive slots) front cell back shape.holds_live

      order_was : IsRing (linked Order slots order) (ids front ++ cell.id ∷ ids back)
      order_was = subst (IsRing (linked Order slots order)) (ids_middle front cell back) shape.order_ring

      chain_was : IsRing (linked Chain slots (ends_at chains cell.bucket)) (ids (chain_of cell.bucket front) ++ cell.id ∷ ids (chain_of cell.bucket back))
      chain_was = subst (IsRing (linked Chain slots (ends_at chains cell.bucket)))
          (ap ids (chain_middle front cell back) ∙ ids_middle (chain_of cell.bucket front) cell (chain_of cell.bucket back)) (shape.chain_rings cell.bucket lives.1.fits)

      chain_elsewhere : (place : ℕ) → times place (ids (chain_of cell.bucket front)) ≡ 0 → times place (ids (chain_of cell.bucket back)) ≡ 0
          → (slot_at slots' place).chain ≡ (slot_at slots place).chain
      chain_elsewhere place not_front not_back =
          detached_elsewhere (linked Chain slots (ends_at chains cell.bucket)) (linked Chain slots' (ends_at chains' cell.bucket))
          (ids (chain_of cell.bucket front)) cell.id (ids (chain_of cell.bucket back)) place chain_was out' not_front not_back

      own_chain : IsRing (linked Chain slots' (ends_at chains' cell.bucket)) (ids (chain_of cell.bucket (front ++ back)))
      own_chain = subst (IsRing (linked Chain slots' (ends_at chains' cell.bucket)))
          (sym (ap ids (chain-append cell.bucket front back) ∙ ids-append (chain_of cell.bucket front) (chain_of cell.bucket back)))
          (detached (linked Chain slots (ends_at chains cell.bucket)) (linked Chain slots' (ends_at chains' cell.bucket))
          (ids (chain_of cell.bucket front)) cell.id (ids (chain_of cell.bucket back)) chain_was
          (λ place. omega (arith, once place, times_chain place cell.bucket front, times_chain place cell.bucket back, times_middle place (ids (chain_of cell.bucket front)) cell.id (ids (chain_of cell.bucket back)))) out')

  pub in_shape : (slots slots' : List (Slot T)) (order order' : Link) (chains chains' : List Link) (stack free : Link)
      (front : List (Cell T)) (cell : Cell T) (back : List (Cell T)) (items : List (Kept T)) (empty : List ℕ) (age : ℕ → ℕ)
      → IsShape slots order chains stack free (laid (front ++ back) items empty (cell.id ∷ []) age)
      → HoldsLive slots cell
      → AllByRecursion (λ (c : Cell T). age c.id < age cell.id) front → AllByRecursion (λ (c : Cell T). age cell.id < age c.id) back
      → IsAttached (linked Order slots order) (linked Order slots' order') cell.id (between (ids front) (ids back))
      → IsAttached (linked Chain slots (ends_at chains cell.bucket)) (linked Chain slots' (ends_at chains' cell.bucket)) cell.id (between (ids (chain_of cell.bucket front)) (ids (chain_of cell.bucket back)))
      → StaysInPiles slots slots' chains chains' cell.bucket
      → IsShape slots' order' chains' stack free (laid (front ++ cell ∷ back) items empty [] age)
  in_shape slots slots' order order' chains chains' stack free front cell back items empty age shape holds before behind put put' rest =
      record {
        sound = subst (λ (n : ℕ). IsSound n (laid (front ++ cell ∷ back) items empty [] age)) (sym rest.as_many)
            (moved (length slots) (laid (front ++ back) items empty (cell.id ∷ []) age) (laid (front ++ cell ∷ back) items empty [] age) shape.sound
            (λ place. omega (arith, counts place, counts' place))
            (omega (arith, length-append front (cell ∷ back), length-append front back))
            (named_more _ _ items (λ place some. omega (arith, counts place, counts' place, times-append place (ids (front ++ cell ∷ back)) [], times-append place (ids (front ++ back)) (cell.id ∷ []))) shape.sound.named)
            (rises_in age front cell back shape.sound.rises before behind) shape.sound.aged);
        order_ring = subst (IsRing (linked Order slots' order')) (sym (ids_middle front cell back))
            (attached (linked Order slots order) (linked Order slots' order') (ids front) cell.id (ids back)
            (subst (IsRing (linked Order slots order)) (ids-append front back) shape.order_ring)
            (λ place. omega (arith, once place)) (omega (arith, own)) (omega (arith, own)) put);
        chain_rings = λ bucket below. elim (cases_eq bucket cell.bucket) [
          | inl same ↦ subst (λ (b : ℕ). IsRing (linked Chain slots' (ends_at chains' b)) (ids (chain_of b (front ++ cell ∷ back)))) (sym same) own_chain
          | inr apart ↦ ring_same (linked Chain slots (ends_at chains bucket)) (linked Chain slots' (ends_at chains' bucket)) (ids (chain_of bucket (front ++ cell ∷ back)))
              (subst (λ (cells : List (Cell T)). IsRing (linked Chain slots (ends_at chains bucket)) (ids cells)) (sym (chain_beside bucket front cell back apart)) (shape.chain_rings bucket below))
              (rest.other_chains bucket apart)
              (λ place some.
              let there : 0 < times place (ids (chain_of bucket (front ++ back))) = subst (λ (cells : List (Cell T)). 0 < times place (ids cells)) (chain_beside bucket front cell back apart) some in
              let few = times_chains place bucket cell.bucket (front ++ back) apart in
              let parts : times place (ids (chain_of cell.bucket (front ++ back))) ≡ times place (ids (chain_of cell.bucket front)) + times place (ids (chain_of cell.bucket back)) =
              ap (times place) (ap ids (chain-append cell.bucket front back) ∙ ids-append (chain_of cell.bucket front) (chain_of cell.bucket back)) ∙ times-append place _ _ in
              chain_elsewhere place (not_own place (omega (arith, few, counts' place))) (omega (arith, once place, counts' place)) (omega (arith, once place, counts' place)))
        ];
        stack_ring = subst (λ (at : Option ℕ → Link). IsRing at (kept_ids items)) (sym (same_column Pile slots slots' stack rest.piles)) shape.stack_ring;
        free_ring = subst (λ (at : Option ℕ → Link). IsRing at empty) (sym (same_column Pile slots slots' free rest.piles)) shape.free_ring;
        holds_live = all_map (HoldsLive slots) (HoldsLive slots') (front ++ cell ∷ back) (λ c h. record { held = rest.held c.id ∙ h.held; fits = h.fits })
            (all_join (HoldsLive slots) front (cell ∷ back) lives.0 (holds, lives.1));
        holds_kept = all_among (λ (k : Kept T). k.cell.id) (HoldsKept slots) (HoldsKept slots') items
            (λ k some h. record {
              held = rest.held k.cell.id ∙ h.held;
              fits = h.fits;
              order = attached_elsewhere (linked Order slots order) (linked Order slots' order') (ids front) cell.id (ids back) k.cell.id put
                  (not_own k.cell.id (omega (arith, some))) (omega (arith, once k.cell.id)) (omega (arith, once k.cell.id)) ∙ h.order;
              chain = chain_elsewhere k.cell.id (not_own k.cell.id (omega (arith, some)))
                  (omega (arith, once k.cell.id, times_chain k.cell.id cell.bucket front)) (omega (arith, once k.cell.id, times_chain k.cell.id cell.bucket back)) ∙ h.chain;
            }) shape.holds_kept;
        marks = λ place none. ap (λ (held : Held T). held.live) (rest.held place) ∙ shape.marks place (omega (arith, counts place, counts' place));
      }
    where
      counts : (place : ℕ) → times place (ids (front ++ cell ∷ back)) ≡ times place (ids front) + times place (cell.id ∷ []) + times place (ids back)
      counts place = ap (times place) (ids_middle front cell back) ∙ times_middle place (ids front) cell.id (ids back)

      counts' : (place : ℕ) → times place (ids (front ++ back)) ≡ times place (ids front) + times place (ids back)
      counts' place = ap (times place) (ids-append front back) ∙ times-append place (ids front) (ids back)

      once : (place : ℕ) → times place (ids front) + times place (cell.id ∷ []) + times place (ids back) + times place (kept_ids items) + times place empty ≤ 1
      once place = omega (arith, shape.sound.once place, counts' place)

      own : times cell.id (ids front) + 1 + times cell.id (ids back) + times cell.id (kept_ids items) ≤ 1
      own = omega (arith, once cell.id, times_self cell.id [])

      -- what stands elsewhere is another place
      not_own : (place : ℕ) → 0 < times place (ids front) + times place (ids back) + times place (kept_ids items) → place ≢ cell.id
      not_own place some same =
          let there : 0 < times cell.id (ids front) + times cell.id (ids back) + times cell.id (kept_ids items) =
          subst (λ (p : ℕ). 0 < times p (ids front) + times p (ids back) + times p (kept_ids items)) same some in
          omega (arith, own)

      lives : AllByRecursion (HoldsLive slots) front × AllByRecursion (HoldsLive slots) back
      lives = all_parts (HoldsLive slots) front back shape.holds_live

      chain_elsewhere : (place : ℕ) → place ≢ cell.id → times place (ids (chain_of cell.bucket front)) ≡ 0 → times place (ids (chain_of cell.bucket back)) ≡ 0
          → (slot_at slots' place).chain ≡ (slot_at slots place).chain
      chain_elsewhere place apart not_front not_back =
          attached_elsewhere (linked Chain slots (ends_at chains cell.bucket)) (linked Chain slots' (ends_at chains' cell.bucket))
          (ids (chain_of cell.bucket front)) cell.id (ids (chain_of cell.bucket back)) place put' apart not_front not_back

      own_chain : IsRing (linked Chain slots' (ends_at chains' cell.bucket)) (ids (chain_of cell.bucket (front ++ cell ∷ back)))
      own_chain = subst (IsRing (linked Chain slots' (ends_at chains' cell.bucket)))
          (sym (ap ids (chain_middle front cell back) ∙ ids_middle (chain_of cell.bucket front) cell (chain_of cell.bucket back)))
          (attached (linked Chain slots (ends_at chains cell.bucket)) (linked Chain slots' (ends_at chains' cell.bucket))
          (ids (chain_of cell.bucket front)) cell.id (ids (chain_of cell.bucket back))
          (subst (IsRing (linked Chain slots (ends_at chains cell.bucket))) (ap ids (chain-append cell.bucket front back) ∙ ids-append (chain_of cell.bucket front) (chain_of cell.bucket back)) (shape.chain_rings cell.bucket holds.fits))
          (λ place. omega (arith, once place, times_chain place cell.bucket front, times_chain place cell.bucket back))
          (omega (arith, own, times_chain cell.id cell.bucket front)) (omega (arith, own, times_chain cell.id cell.bucket back)) put')
