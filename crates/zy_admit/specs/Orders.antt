-- The orders of the active view, executed or held: one slot for each place above the stable one.
use Rattle.std.specs.Prelude.{ℕ, ◌+◌, ◌-◌, nat_le, max, if◌then◌else◌, List, [], ◌∷◌, ◌++◌, length, take, drop, replicate, position, slice_set, slice_index_or, Option, Some, None, is_some}
use Rattle.zy_frames.specs.declared.frame.OrderFrame.{OrderFrame}

pub record Orders : Type 0 where
  pub base : ℕ
  pub slots : List (Option OrderFrame)

-- no order above a place
abbrev pub no_orders : ℕ → Orders
no_orders base = record { base = base; slots = [] }

-- the order that is kept at a place
abbrev pub stored_in : Orders → ℕ → Option OrderFrame
stored_in o place = if nat_le place o.base then None else slice_index_or o.slots (place - o.base - 1) None

-- the slots with one of them filled or emptied
abbrev pub with_slot : List (Option OrderFrame) → ℕ → Option OrderFrame → List (Option OrderFrame)
with_slot slots at order = slice_set (slots ++ replicate (at + 1 - length slots) None) at order

-- with an order at its place
abbrev pub with_order : Orders → OrderFrame → Orders
with_order o frame = record o { slots = with_slot o.slots (frame.order.stmt.place.0 - o.base - 1) (Some frame) }

-- without the order of a place
abbrev pub without_order : Orders → ℕ → Orders
without_order o place = record o { slots = slice_set o.slots (place - o.base - 1) None }

-- the orders above a place
abbrev pub orders_above : ℕ → Orders → Orders
orders_above place o = record { base = place; slots = drop (place - o.base) o.slots }

-- the orders up to a place
abbrev pub orders_up_to : ℕ → Orders → Orders
orders_up_to place o = record o { slots = take (place - o.base) o.slots }

-- the slots above a place, from the next place on
abbrev pub slots_above : ℕ → Orders → List (Option OrderFrame)
slots_above place o = drop (place - o.base) o.slots

-- how many places lie between a place and the least order that is held above it
abbrev pub gap_in : Option ℕ → Option ℕ
gap_in None = None
gap_in (Some places) = if nat_le places 0 then None else Some places

abbrev pub gap_above : ℕ → Orders → Option ℕ
gap_above place o = gap_in (position is_some (slots_above place o))

-- the orders in some slots
abbrev pub filled : List (Option OrderFrame) → List OrderFrame
filled [] = []
filled (None ∷ slots) = filled slots
filled (Some o ∷ slots) = o ∷ filled slots

-- the kept orders from a place to a place
abbrev pub orders_from : ℕ → ℕ → Orders → List OrderFrame
orders_from from to o =
    let first = max from (o.base + 1) in filled (take (to + 1 - first) (slots_above (first - 1) o))
