-- What the calls need, and what they make of the shape.
use Rattle.std.proofs.Common.{◌≡◌, ◌≢◌, ◌⊎◌, ℕ, ◌+◌, ◌<◌, ◌≤◌, true, false, List, [], ◌∷◌, ◌++◌, length, Option, Some, None, IfSome, refl, sym, ap, ◌∙◌, subst, inl, inr, arith, append-nil}
use Rattle.std.specs.List.{AllByRecursion}
use Rattle.zy_slots.specs.declared.link.Link.{Link}
use Rattle.zy_slots.specs.declared.slot.Kind.TheVariants.{Order, Chain, Pile}
use Rattle.zy_slots.specs.declared.slot.Held.{Held}
use Rattle.zy_slots.specs.declared.slot.Slot.{Slot}
use Rattle.zy_slots.specs.Rings.{first_of, last_of, between, IsRing}
use Rattle.zy_slots.specs.Columns.{no_slot, ends_at, slot_at, linked, AreWithin, IsDetached, IsAttached, StaysBeside, StaysInPiles, IsHeldNow, IsTaken}
use Rattle.zy_slots.specs.Cells.{Cell, Kept, KeptByNone, IsFresh, ids, chain_of, kept}
use Rattle.zy_slots.specs.Shape.{times, kept_ids, IsAmong, Rises, IsAgedBetween, IsShape, HoldsLive, HoldsKept}
use Rattle.zy_slots.proofs.PutLemmas.{next_of, prev_of}
use Rattle.zy_slots.proofs.TimesLemmas.{times-append, times_self, times_middle, among_more, first_among, last_among}
use Rattle.zy_slots.proofs.RingLemmas.{detached_elsewhere}
use Rattle.zy_slots.proofs.ListLemmas.{all_split, all_among, all_filter, ids_middle, ids-append, kept_ids-append, chain-append, chain_middle, times_chain}
use Rattle.zy_slots.proofs.NameLemmas.{kept_by_none, named_front}
use Rattle.zy_slots.proofs.AgeLemmas.{aged_anew, age_new, age_other, rises_parts, rises_chain, aged_between, all_younger, all_older, same_cut, next_age, below_next}
use Rattle.zy_slots.proofs.StepLemmas.{laid, out_shape, in_shape}
use Rattle.zy_slots.proofs.PileLemmas.{stacked_shape, unstacked_shape, kept_after, freed_shape, taken_shape, grown_shape, held_shape, anew_shape}

pub within_from_among : (limit : ℕ) (places : List ℕ) (place : Option ℕ) → ((other : ℕ) → 0 < times other places → other < limit) → IsAmong places place
    → IfSome place (λ p. p < limit)
within_from_among limit places None below among = tt
within_from_among limit places (Some place) below among = below place among

pub between_within : (limit : ℕ) (front back : List ℕ) → ((other : ℕ) → 0 < times other front → other < limit) → ((other : ℕ) → 0 < times other back → other < limit)
    → AreWithin limit (between front back)
between_within limit front back below below' =
    (within_from_among limit front (last_of front) below (last_among front), within_from_among limit back (first_of back) below' (first_among back))

module _ {T : Type 0} where
  -- ---- what the calls need

  pub record NeedsOut (slots : List (Slot T)) (place : ℕ) : Type 0 where
    pub within : place < length slots
    pub fits : (slot_at slots place).held.bucket < 64
    pub order : AreWithin (length slots) (slot_at slots place).order
    pub chain : AreWithin (length slots) (slot_at slots place).chain

  counts : (front : List (Cell T)) (cell : Cell T) (back : List (Cell T)) (place : ℕ)
      → times place (ids (front ++ cell ∷ back)) ≡ times place (ids front) + times place (cell.id ∷ []) + times place (ids back)
  counts front cell back place = ap (times place) (ids_middle front cell back) ∙ times_middle place (ids front) cell.id (ids back)

  pub order_at : (slots : List (Slot T)) (order : Link) (chains : List Link) (stack free : Link)
      (front : List (Cell T)) (cell : Cell T) (back : List (Cell T)) (items : List (Kept T)) (empty : List ℕ) (age : ℕ → ℕ)
      → IsShape slots order chains stack free (laid (front ++ cell ∷ back) items empty [] age) → IsRing (linked Order slots order) (ids front ++ cell.id ∷ ids back)
  order_at slots order chains stack free front cell back items empty age shape = subst (IsRing (linked Order slots order)) (ids_middle front cell back) shape.order_ring

  pub chain_at : (slots : List (Slot T)) (order : Link) (chains : List Link) (stack free : Link)
      (front : List (Cell T)) (cell : Cell T) (back : List (Cell T)) (items : List (Kept T)) (empty : List ℕ) (age : ℕ → ℕ)
      → IsShape slots order chains stack free (laid (front ++ cell ∷ back) items empty [] age)
      → IsRing (linked Chain slots (ends_at chains cell.bucket)) (ids (chain_of cell.bucket front) ++ cell.id ∷ ids (chain_of cell.bucket back))
  chain_at slots order chains stack free front cell back items empty age shape =
      subst (IsRing (linked Chain slots (ends_at chains cell.bucket)))
      (ap ids (chain_middle front cell back) ∙ ids_middle (chain_of cell.bucket front) cell (chain_of cell.bucket back))
      (shape.chain_rings cell.bucket (all_split (HoldsLive slots) front cell back shape.holds_live).1.fits)

  pub needs_out : (slots : List (Slot T)) (order : Link) (chains : List Link) (stack free : Link)
      (front : List (Cell T)) (cell : Cell T) (back : List (Cell T)) (items : List (Kept T)) (empty : List ℕ) (age : ℕ → ℕ)
      → IsShape slots order chains stack free (laid (front ++ cell ∷ back) items empty [] age) → NeedsOut slots cell.id
  needs_out slots order chains stack free front cell back items empty age shape =
      let holds = (all_split (HoldsLive slots) front cell back shape.holds_live).1 in
      record {
        within = shape.sound.within cell.id (omega (arith, counts front cell back cell.id, times_self cell.id []));
        fits = subst (λ (held : Held T). held.bucket < 64) (sym holds.held) holds.fits;
        order = subst (AreWithin (length slots)) (sym ((order_at slots order chains stack free front cell back items empty age shape).links (ids front) cell.id (ids back) refl))
            (between_within (length slots) (ids front) (ids back)
            (λ place some. shape.sound.within place (omega (arith, some, counts front cell back place))) (λ place some. shape.sound.within place (omega (arith, some, counts front cell back place))));
        chain = subst (AreWithin (length slots)) (sym ((chain_at slots order chains stack free front cell back items empty age shape).links (ids (chain_of cell.bucket front)) cell.id (ids (chain_of cell.bucket back)) refl))
            (between_within (length slots) (ids (chain_of cell.bucket front)) (ids (chain_of cell.bucket back))
            (λ place some. shape.sound.within place (omega (arith, some, counts front cell back place, times_chain place cell.bucket front)))
            (λ place some. shape.sound.within place (omega (arith, some, counts front cell back place, times_chain place cell.bucket back))));
      }

  -- ---- unlink

  pub record Unlinks (slots : List (Slot T)) (order : Link) (chains : List Link) (stack : Link) (slots' : List (Slot T)) (order' : Link) (chains' : List Link) (stack' : Link) (place : ℕ) : Type 0 where
    pub out : List (Slot T)
    pub marked : List (Slot T)
    pub from_order : IsDetached (linked Order slots order) (linked Order out order') place
    pub from_chain : IsDetached (linked Chain slots (ends_at chains (slot_at slots place).held.bucket)) (linked Chain out (ends_at chains' (slot_at slots place).held.bucket)) place
    pub in_piles : StaysInPiles slots out chains chains' (slot_at slots place).held.bucket
    pub held : IsHeldNow out marked place (record (slot_at out place).held { live = false })
    pub onto : IsAttached (linked Pile marked stack) (linked Pile slots' stack') place (record { prev = None; next = stack.next })
    pub beside : StaysBeside Pile marked slots'

  pub unlinked_shape : (slots : List (Slot T)) (order : Link) (chains : List Link) (stack : Link) (slots' : List (Slot T)) (order' : Link) (chains' : List Link) (stack' free : Link)
      (front : List (Cell T)) (cell : Cell T) (back : List (Cell T)) (items : List (Kept T)) (empty : List ℕ) (age : ℕ → ℕ)
      → IsShape slots order chains stack free (laid (front ++ cell ∷ back) items empty [] age) → Unlinks slots order chains stack slots' order' chains' stack' cell.id
      → IsShape slots' order' chains' stack' free (laid (front ++ back) (kept front cell back ∷ items) empty [] age)
  unlinked_shape slots order chains stack slots' order' chains' stack' free front cell back items empty age shape steps =
      stacked_shape steps.marked slots' order' chains' stack stack' free (front ++ back) (kept front cell back) items empty age second steps.onto steps.beside
      (record {
        held = steps.held.here ∙ ap (λ (held : Held T). record held { live = false }) (piles.held cell.id ∙ holds.held);
        fits = holds.fits;
        order = steps.held.links Order cell.id
            ∙ detached_elsewhere (linked Order slots order) (linked Order steps.out order') (ids front) cell.id (ids back) cell.id order_was steps.from_order (omega (arith, own)) (omega (arith, own))
            ∙ order_was.links (ids front) cell.id (ids back) refl;
        chain = steps.held.links Chain cell.id
            ∙ detached_elsewhere (linked Chain slots (ends_at chains cell.bucket)) (linked Chain steps.out (ends_at chains' cell.bucket)) (ids (chain_of cell.bucket front)) cell.id (ids (chain_of cell.bucket back)) cell.id chain_was from_chain
            (omega (arith, own, times_chain cell.id cell.bucket front)) (omega (arith, own, times_chain cell.id cell.bucket back))
            ∙ chain_was.links (ids (chain_of cell.bucket front)) cell.id (ids (chain_of cell.bucket back)) refl;
      }) (
        among_more (ids front) (ids (front ++ back)) _ (λ place some. omega (arith, parts place)) (last_among (ids front)),
        among_more (ids back) (ids (front ++ back)) _ (λ place some. omega (arith, parts place)) (first_among (ids back)),
      ) (
        among_more (ids (chain_of cell.bucket front)) (ids (front ++ back)) _ (λ place some. omega (arith, parts place, times_chain place cell.bucket front)) (last_among (ids (chain_of cell.bucket front))),
        among_more (ids (chain_of cell.bucket back)) (ids (front ++ back)) _ (λ place some. omega (arith, parts place, times_chain place cell.bucket back)) (first_among (ids (chain_of cell.bucket back))),
      ) (
        aged_between age front cell back shape.sound.rises,
        aged_between age (chain_of cell.bucket front) cell (chain_of cell.bucket back)
            (subst (Rises age) (chain_middle front cell back) (rises_chain age cell.bucket (front ++ cell ∷ back) shape.sound.rises)),
      )
    where
      holds : HoldsLive slots cell
      holds = (all_split (HoldsLive slots) front cell back shape.holds_live).1

      same_bucket : (slot_at slots cell.id).held.bucket ≡ cell.bucket
      same_bucket = ap (λ (held : Held T). held.bucket) holds.held

      from_chain : IsDetached (linked Chain slots (ends_at chains cell.bucket)) (linked Chain steps.out (ends_at chains' cell.bucket)) cell.id
      from_chain = subst (λ (b : ℕ). IsDetached (linked Chain slots (ends_at chains b)) (linked Chain steps.out (ends_at chains' b)) cell.id) same_bucket steps.from_chain

      piles : StaysInPiles slots steps.out chains chains' cell.bucket
      piles = subst (StaysInPiles slots steps.out chains chains') same_bucket steps.in_piles

      order_was : IsRing (linked Order slots order) (ids front ++ cell.id ∷ ids back)
      order_was = order_at slots order chains stack free front cell back items empty age shape

      chain_was : IsRing (linked Chain slots (ends_at chains cell.bucket)) (ids (chain_of cell.bucket front) ++ cell.id ∷ ids (chain_of cell.bucket back))
      chain_was = chain_at slots order chains stack free front cell back items empty age shape

      parts : (place : ℕ) → times place (ids (front ++ back)) ≡ times place (ids front) + times place (ids back)
      parts place = ap (times place) (ids-append front back) ∙ times-append place (ids front) (ids back)

      own : times cell.id (ids front) + 1 + times cell.id (ids back) ≤ 1
      own = omega (arith, shape.sound.once cell.id, counts front cell back cell.id, times_self cell.id [])

      first : IsShape steps.out order' chains' stack free (laid (front ++ back) items empty (cell.id ∷ []) age)
      first = out_shape slots steps.out order order' chains chains' stack free front cell back items empty age shape steps.from_order from_chain piles

      second : IsShape steps.marked order' chains' stack free (laid (front ++ back) items empty (cell.id ∷ []) age)
      second = held_shape steps.out steps.marked order' chains' stack free (front ++ back) items empty cell.id age (record (slot_at steps.out cell.id).held { live = false }) first steps.held

  -- ---- relink

  pub record Relinks (slots : List (Slot T)) (order : Link) (chains : List Link) (stack : Link) (slots' : List (Slot T)) (order' : Link) (chains' : List Link) (stack' : Link) (place : ℕ) : Type 0 where
    pub off : List (Slot T)
    pub marked : List (Slot T)
    pub from_stack : IsDetached (linked Pile slots stack) (linked Pile off stack') place
    pub beside : StaysBeside Pile slots off
    pub held : IsHeldNow off marked place (record (slot_at off place).held { live = true })
    pub into_order : IsAttached (linked Order marked order) (linked Order slots' order') place (slot_at marked place).order
    pub into_chain : IsAttached (linked Chain marked (ends_at chains (slot_at marked place).held.bucket)) (linked Chain slots' (ends_at chains' (slot_at marked place).held.bucket)) place (slot_at marked place).chain
    pub in_piles : StaysInPiles marked slots' chains chains' (slot_at marked place).held.bucket

  pub relinked_shape : (slots : List (Slot T)) (order : Link) (chains : List Link) (stack : Link) (slots' : List (Slot T)) (order' : Link) (chains' : List Link) (stack' free : Link)
      (front : List (Cell T)) (item : Kept T) (back chain_front chain_back : List (Cell T)) (items : List (Kept T)) (empty : List ℕ) (age : ℕ → ℕ)
      → IsShape slots order chains stack free (laid (front ++ back) (item ∷ items) empty [] age)
      → item.order ≡ between (ids front) (ids back) → chain_of item.cell.bucket (front ++ back) ≡ chain_front ++ chain_back → item.chain ≡ between (ids chain_front) (ids chain_back)
      → Relinks slots order chains stack slots' order' chains' stack' item.cell.id
      → IsShape slots' order' chains' stack' free (laid (front ++ item.cell ∷ back) items empty [] age)
  relinked_shape slots order chains stack slots' order' chains' stack' free front item back chain_front chain_back items empty age shape order_kept in_chain chain_kept steps =
      in_shape steps.marked slots' order order' chains chains' stack' free front item.cell back items empty age second
      (record { held = now; fits = holds.fits }) before behind
      (subst (IsAttached (linked Order steps.marked order) (linked Order slots' order') item.cell.id) (steps.held.links Order item.cell.id ∙ holds.order ∙ order_kept) steps.into_order)
      (subst (IsAttached (linked Chain steps.marked (ends_at chains item.cell.bucket)) (linked Chain slots' (ends_at chains' item.cell.bucket)) item.cell.id)
      (steps.held.links Chain item.cell.id ∙ holds.chain ∙ chain_kept ∙ ap (λ (c : List (Cell T)). between (ids c) (ids chain_back)) cut.0 ∙ ap (λ (c : List (Cell T)). between (ids (chain_of item.cell.bucket front)) (ids c)) cut.1)
      (subst (λ (b : ℕ). IsAttached (linked Chain steps.marked (ends_at chains b)) (linked Chain slots' (ends_at chains' b)) item.cell.id (slot_at steps.marked item.cell.id).chain) same_bucket steps.into_chain))
      (subst (StaysInPiles steps.marked slots' chains chains') same_bucket steps.in_piles)
    where
      holds : HoldsKept steps.off item
      holds = kept_after slots steps.off [] item items shape.holds_kept steps.beside

      now : (slot_at steps.marked item.cell.id).held ≡ record { value = Some item.cell.value; bucket = item.cell.bucket; live = true }
      now = steps.held.here ∙ ap (λ (held : Held T). record held { live = true }) holds.held

      same_bucket : (slot_at steps.marked item.cell.id).held.bucket ≡ item.cell.bucket
      same_bucket = ap (λ (held : Held T). held.bucket) now

      first : IsShape steps.off order chains stack' free (laid (front ++ back) items empty (item.cell.id ∷ []) age)
      first = unstacked_shape slots steps.off order chains stack stack' free (front ++ back) [] item items empty age shape steps.from_stack steps.beside

      second : IsShape steps.marked order chains stack' free (laid (front ++ back) items empty (item.cell.id ∷ []) age)
      second = held_shape steps.off steps.marked order chains stack' free (front ++ back) items empty item.cell.id age (record (slot_at steps.off item.cell.id).held { live = true }) first steps.held

      aged : IsAgedBetween age (between (ids front) (ids back)) item.cell.id
      aged = subst (λ (link : Link). IsAgedBetween age link item.cell.id) order_kept shape.sound.aged.0.0

      chain_aged : IsAgedBetween age (between (ids chain_front) (ids chain_back)) item.cell.id
      chain_aged = subst (λ (link : Link). IsAgedBetween age link item.cell.id) chain_kept shape.sound.aged.0.1

      rises : Rises age front × Rises age back
      rises = rises_parts age front back shape.sound.rises

      chain_rises : Rises age chain_front × Rises age chain_back
      chain_rises = rises_parts age chain_front chain_back (subst (Rises age) in_chain (rises_chain age item.cell.bucket (front ++ back) shape.sound.rises))

      before : AllByRecursion (λ (c : Cell T). age c.id < age item.cell.id) front
      before = all_younger age front (age item.cell.id) rises.0 aged.0

      behind : AllByRecursion (λ (c : Cell T). age item.cell.id < age c.id) back
      behind = all_older age (age item.cell.id) back rises.1 aged.1

      cut : (chain_front ≡ chain_of item.cell.bucket front) × (chain_back ≡ chain_of item.cell.bucket back)
      cut = same_cut age (age item.cell.id) chain_front chain_back (chain_of item.cell.bucket front) (chain_of item.cell.bucket back)
          (sym in_chain ∙ chain-append item.cell.bucket front back)
          (all_younger age chain_front (age item.cell.id) chain_rises.0 chain_aged.0) (all_older age (age item.cell.id) chain_back chain_rises.1 chain_aged.1)
          (all_filter (λ (c : Cell T). age c.id < age item.cell.id) _ front before) (all_filter (λ (c : Cell T). age item.cell.id < age c.id) _ back behind)

  -- ---- take_last, forget

  pub record Takes (slots : List (Slot T)) (order : Link) (chains : List Link) (free : Link) (slots' : List (Slot T)) (order' : Link) (chains' : List Link) (free' : Link) (place : ℕ) : Type 0 where
    pub out : List (Slot T)
    pub emptied : List (Slot T)
    pub from_order : IsDetached (linked Order slots order) (linked Order out order') place
    pub from_chain : IsDetached (linked Chain slots (ends_at chains (slot_at slots place).held.bucket)) (linked Chain out (ends_at chains' (slot_at slots place).held.bucket)) place
    pub in_piles : StaysInPiles slots out chains chains' (slot_at slots place).held.bucket
    pub held : IsHeldNow out emptied place (record (slot_at out place).held { value = None; live = false })
    pub onto : IsAttached (linked Pile emptied free) (linked Pile slots' free') place (record { prev = None; next = free.next })
    pub beside : StaysBeside Pile emptied slots'

  pub taken_last_shape : (slots : List (Slot T)) (order : Link) (chains : List Link) (free : Link) (slots' : List (Slot T)) (order' : Link) (chains' : List Link) (free' stack : Link)
      (front : List (Cell T)) (cell : Cell T) (items : List (Kept T)) (empty : List ℕ) (age : ℕ → ℕ)
      → IsShape slots order chains stack free (laid (front ++ cell ∷ []) items empty [] age) → KeptByNone items cell.id → Takes slots order chains free slots' order' chains' free' cell.id
      → IsShape slots' order' chains' stack free' (laid front items (cell.id ∷ empty) [] age)
  taken_last_shape slots order chains free slots' order' chains' free' stack front cell items empty age shape apart steps =
      let same_bucket : (slot_at slots cell.id).held.bucket ≡ cell.bucket = ap (λ (held : Held T). held.bucket) (all_split (HoldsLive slots) front cell [] shape.holds_live).1.held in
      let first = out_shape slots steps.out order order' chains chains' stack free front cell [] items empty age shape steps.from_order
      (subst (λ (b : ℕ). IsDetached (linked Chain slots (ends_at chains b)) (linked Chain steps.out (ends_at chains' b)) cell.id) same_bucket steps.from_chain)
      (subst (StaysInPiles slots steps.out chains chains') same_bucket steps.in_piles) in
      let first' = subst (λ (live : List (Cell T)). IsShape steps.out order' chains' stack free (laid live items empty (cell.id ∷ []) age)) (append-nil front) first in
      let second = held_shape steps.out steps.emptied order' chains' stack free front items empty cell.id age (record (slot_at steps.out cell.id).held { value = None; live = false }) first' steps.held in
      freed_shape steps.emptied slots' order' chains' stack free free' front items empty cell.id age second steps.onto steps.beside (ap (λ (held : Held T). held.live) steps.held.here) apart

  pub record Forgets (slots : List (Slot T)) (stack free : Link) (slots' : List (Slot T)) (stack' free' : Link) (place : ℕ) : Type 0 where
    pub off : List (Slot T)
    pub emptied : List (Slot T)
    pub from_stack : IsDetached (linked Pile slots stack) (linked Pile off stack') place
    pub beside : StaysBeside Pile slots off
    pub held : IsHeldNow off emptied place (record (slot_at off place).held { value = None; live = false })
    pub onto : IsAttached (linked Pile emptied free) (linked Pile slots' free') place (record { prev = None; next = free.next })
    pub beside' : StaysBeside Pile emptied slots'

  pub forgotten_shape : (slots : List (Slot T)) (stack free : Link) (slots' : List (Slot T)) (stack' free' order : Link) (chains : List Link)
      (live : List (Cell T)) (above : List (Kept T)) (lowest : Kept T) (empty : List ℕ) (age : ℕ → ℕ)
      → IsShape slots order chains stack free (laid live (above ++ lowest ∷ []) empty [] age) → Forgets slots stack free slots' stack' free' lowest.cell.id
      → IsShape slots' order chains stack' free' (laid live above (lowest.cell.id ∷ empty) [] age)
  forgotten_shape slots stack free slots' stack' free' order chains live above lowest empty age shape steps =
      let first = unstacked_shape slots steps.off order chains stack stack' free live above lowest [] empty age shape steps.from_stack steps.beside in
      let first' = subst (λ (items : List (Kept T)). IsShape steps.off order chains stack' free (laid live items empty (lowest.cell.id ∷ []) age)) (append-nil above) first in
      let second = held_shape steps.off steps.emptied order chains stack' free live above empty lowest.cell.id age (record (slot_at steps.off lowest.cell.id).held { value = None; live = false }) first' steps.held in
      let own : times lowest.cell.id (ids live) + times lowest.cell.id (kept_ids above) + times lowest.cell.id empty + 1 ≤ 1 =
      omega (arith, first'.sound.once lowest.cell.id, times_self lowest.cell.id []) in
      let apart = kept_by_none (ids live ++ []) above lowest.cell.id (named_front (ids live ++ []) above (lowest ∷ []) shape.sound.named)
      (omega (arith, own, times-append lowest.cell.id (ids live) [])) (omega (arith, own)) in
      freed_shape steps.emptied slots' order chains stack' free free' live above empty lowest.cell.id age second steps.onto steps.beside' (ap (λ (held : Held T). held.live) steps.held.here) apart

  -- ---- insert

  pub record Inserts (slots : List (Slot T)) (order : Link) (chains : List Link) (free : Link) (slots' : List (Slot T)) (order' : Link) (chains' : List Link) (free' : Link) (cell : Cell T) : Type 0 where
    pub found : List (Slot T)
    pub filled : List (Slot T)
    pub taken : IsTaken slots found free free' cell.id
    pub held : IsHeldNow found filled cell.id (record { value = Some cell.value; bucket = cell.bucket; live = true })
    pub into_order : IsAttached (linked Order filled order) (linked Order slots' order') cell.id (record { prev = order.prev; next = None })
    pub into_chain : IsAttached (linked Chain filled (ends_at chains (slot_at filled cell.id).held.bucket)) (linked Chain slots' (ends_at chains' (slot_at filled cell.id).held.bucket)) cell.id (record { prev = (ends_at chains cell.bucket).prev; next = None })
    pub in_piles : StaysInPiles filled slots' chains chains' (slot_at filled cell.id).held.bucket

  -- a place in no ring, however it was found
  pub found_shape : (slots : List (Slot T)) (order : Link) (chains : List Link) (stack free : Link) (found : List (Slot T)) (free' : Link) (place : ℕ)
      (live : List (Cell T)) (items : List (Kept T)) (empty : List ℕ) (age : ℕ → ℕ)
      → IsShape slots order chains stack free (laid live items empty [] age) → IsTaken slots found free free' place
      → (rest : List ℕ) × IsShape found order chains stack free' (laid live items rest (place ∷ []) age)
  found_shape slots order chains stack free found free' place live items empty age shape taken =
      elim taken [
        | inl it ↦
            let first : first_of empty ≡ Some place = sym (ap next_of shape.free_ring.ends) ∙ it.0 in
            let split = starts_with empty place first in (
              split.0,
              taken_shape slots found order chains stack free free' live items place split.0 age
                  (subst (λ (e : List ℕ). IsShape slots order chains stack free (laid live items e [] age)) split.1 shape) it.1 it.2,
            )
        | inr it ↦
            let room : length slots < 4294967295 = subst (λ (p : ℕ). p < 4294967295) it.0 it.1 in
            let grown = grown_shape slots order chains stack free live items empty age shape room in (
              empty,
              subst (λ (f : Link). IsShape found order chains stack f (laid live items empty (place ∷ []) age)) (sym it.3)
                  (subst (λ (s : List (Slot T)). IsShape s order chains stack free (laid live items empty (place ∷ []) age)) (sym it.2)
                  (subst (λ (p : ℕ). IsShape (slots ++ no_slot ∷ []) order chains stack free (laid live items empty (p ∷ []) age)) (sym it.0) grown)),
            )
      ]
    where
      starts_with : (places : List ℕ) (p : ℕ) → first_of places ≡ Some p → (rest : List ℕ) × (places ≡ p ∷ rest)
      starts_with [] p same = absurd (cc)
      starts_with (other ∷ places) p same = let equal : other ≡ p = cc in (places, ap (λ (q : ℕ). q ∷ places) equal)

  pub fresh_from : (slots : List (Slot T)) (order : Link) (chains : List Link) (stack free : Link) (place : ℕ)
      (live : List (Cell T)) (items : List (Kept T)) (empty : List ℕ) (age : ℕ → ℕ)
      → IsShape slots order chains stack free (laid live items empty (place ∷ []) age)
      → AllByRecursion (λ (item : Kept T). item.cell.id ≢ place) items × AllByRecursion (λ (cell : Cell T). cell.id ≢ place) live
  fresh_from slots order chains stack free place live items empty age shape = (
    all_among (λ (k : Kept T). k.cell.id) (λ (k : Kept T). Unit {0}) (λ (k : Kept T). k.cell.id ≢ place) items
        (λ k some h same. let there : 0 < times place (kept_ids items) = subst (λ (p : ℕ). 0 < times p (kept_ids items)) same some in omega (arith, own)) (all_unit items),
    all_among (λ (c : Cell T). c.id) (λ (c : Cell T). Unit {0}) (λ (c : Cell T). c.id ≢ place) live
        (λ c some h same. let there : 0 < times place (ids live) = subst (λ (p : ℕ). 0 < times p (ids live)) same some in omega (arith, own)) (all_unit live),
  )
    where
      own : times place (ids live) + times place (kept_ids items) + 1 ≤ 1
      own = omega (arith, shape.sound.once place, times_self place [])

      all_unit : {A : Type 0} (xs : List A) → AllByRecursion (λ (x : A). Unit {0}) xs
      all_unit [] = tt
      all_unit (x ∷ xs) = (tt, all_unit xs)

  pub inserted_shape : (slots : List (Slot T)) (order : Link) (chains : List Link) (free : Link) (slots' : List (Slot T)) (order' : Link) (chains' : List Link) (free' stack : Link)
      (cell : Cell T) (live : List (Cell T)) (items : List (Kept T)) (empty : List ℕ) (age : ℕ → ℕ)
      → IsShape slots order chains stack free (laid live items empty [] age) → cell.bucket < 64 → Inserts slots order chains free slots' order' chains' free' cell
      → (rest : List ℕ) × IsShape slots' order' chains' stack free' (laid (live ++ cell ∷ []) items rest [] (aged_anew age cell.id (next_age age live)))
  inserted_shape slots order chains free slots' order' chains' free' stack cell live items empty age shape fits steps = (
    found.0,
    in_shape steps.filled slots' order order' chains chains' stack free' live cell [] items found.0 age' third'
        (record { held = steps.held.here; fits = fits }) before tt
        (subst (IsAttached (linked Order steps.filled order) (linked Order slots' order') cell.id) order_link steps.into_order)
        (subst (IsAttached (linked Chain steps.filled (ends_at chains cell.bucket)) (linked Chain slots' (ends_at chains' cell.bucket)) cell.id) chain_link
        (subst (λ (b : ℕ). IsAttached (linked Chain steps.filled (ends_at chains b)) (linked Chain slots' (ends_at chains' b)) cell.id (record { prev = (ends_at chains cell.bucket).prev; next = None })) same_bucket steps.into_chain))
        (subst (StaysInPiles steps.filled slots' chains chains') same_bucket steps.in_piles),
  )
    where
      found : (rest : List ℕ) × IsShape steps.found order chains stack free' (laid live items rest (cell.id ∷ []) age)
      found = found_shape slots order chains stack free steps.found free' cell.id live items empty age shape steps.taken

      age' : ℕ → ℕ
      age' = aged_anew age cell.id (next_age age live)

      own : times cell.id (ids live) + times cell.id (kept_ids items) + times cell.id found.0 + 1 ≤ 1
      own = omega (arith, found.1.sound.once cell.id, times_self cell.id [])

      second : IsShape steps.found order chains stack free' (laid live items found.0 (cell.id ∷ []) (aged_anew age cell.id (next_age age live)))
      second = anew_shape steps.found order chains stack free' live items found.0 cell.id age (next_age age live) found.1
          (kept_by_none (ids live ++ []) items cell.id shape.sound.named (omega (arith, own, times-append cell.id (ids live) [])) (omega (arith, own)))

      third : IsShape steps.filled order chains stack free' (laid live items found.0 (cell.id ∷ []) (aged_anew age cell.id (next_age age live)))
      third = held_shape steps.found steps.filled order chains stack free' live items found.0 cell.id (aged_anew age cell.id (next_age age live))
          (record { value = Some cell.value; bucket = cell.bucket; live = true }) second steps.held

      third' : IsShape steps.filled order chains stack free' (laid (live ++ []) items found.0 (cell.id ∷ []) (aged_anew age cell.id (next_age age live)))
      third' = subst (λ (l : List (Cell T)). IsShape steps.filled order chains stack free' (laid l items found.0 (cell.id ∷ []) (aged_anew age cell.id (next_age age live)))) (sym (append-nil live)) third

      same_bucket : (slot_at steps.filled cell.id).held.bucket ≡ cell.bucket
      same_bucket = ap (λ (held : Held T). held.bucket) steps.held.here

      order_link : (let link : Link = record { prev = order.prev; next = None } in link) ≡ between (ids live) []
      order_link = ap (λ (o : Option ℕ). let link : Link = record { prev = o; next = None } in link) (ap prev_of third.order_ring.ends)

      chain_link : (let link : Link = record { prev = (ends_at chains cell.bucket).prev; next = None } in link) ≡ between (ids (chain_of cell.bucket live)) []
      chain_link = ap (λ (o : Option ℕ). let link : Link = record { prev = o; next = None } in link) (ap prev_of (third.chain_rings cell.bucket fits).ends)

      before : AllByRecursion (λ (c : Cell T). aged_anew age cell.id (next_age age live) c.id < aged_anew age cell.id (next_age age live) cell.id) live
      before = all_among (λ (c : Cell T). c.id) (λ (c : Cell T). age c.id < next_age age live) _ live
          (λ c some less.
          let elsewhere : c.id ≢ cell.id = λ same. let there : 0 < times cell.id (ids live) = subst (λ (p : ℕ). 0 < times p (ids live)) same some in omega (arith, own) in
          let new = age_new age cell.id (next_age age live) in
          let same = age_other age cell.id (next_age age live) c.id elsewhere in omega arith)
          (below_next age live)

  pub inserted_fresh : (slots : List (Slot T)) (order : Link) (chains : List Link) (stack free : Link) (found : List (Slot T)) (free' : Link) (place : ℕ)
      (live : List (Cell T)) (items : List (Kept T)) (empty : List ℕ) (age : ℕ → ℕ)
      → IsShape slots order chains stack free (laid live items empty [] age) → IsTaken slots found free free' place
      → IsFresh (record { live = live; stack = items }) place
  inserted_fresh slots order chains stack free found free' place live items empty age shape taken =
      let now = found_shape slots order chains stack free found free' place live items empty age shape taken in
      let own : times place (ids live) + times place (kept_ids items) + 1 ≤ 1 = omega (arith, now.1.sound.once place, times_self place []) in
      let apart = fresh_from found order chains stack free' place live items now.0 age now.1 in
      record {
        not_live = apart.1;
        not_unlinked = apart.0;
        kept_by_none = kept_by_none (ids live ++ []) items place shape.sound.named (omega (arith, own, times-append place (ids live) [])) (omega (arith, own));
      }
