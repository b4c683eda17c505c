-- What linked cells hold, and how a guarded space goes back and forgets.
use Rattle.std.proofs.Common.{◌≡◌, ℕ, suc, ◌+◌, ◌-◌, ◌<◌, true, false, eqb, cond, List, [], ◌∷◌, ◌++◌, length, take, drop, reverse, Option, Some, None, refl, sym, ap, ◌∙◌, subst, arith}
use Rattle.std.proofs.lemmas.List.{length-reverse, reverse-append, map-append, length-append, length-map, take_at}
use Rattle.zy_slots.specs.Cells.{Cell, Kept, Cells, with_live, with_stack, Stands, put_behind, kept, relinked_onto, relinked, CanRelink, KeptByNone, CanTakeLast, IsFresh, IsApart}
use Rattle.zy_slots.proofs.ListLemmas.{all_split, all_parts, all_join}
use Rattle.zy_guard.specs.declared.values.Owned.{Owned}
use Rattle.zy_guard.specs.declared.changes.Change.{Change}
use Rattle.zy_guard.specs.declared.changes.Change.TheVariants.{Same, Put, Took}
use Rattle.zy_guard.specs.GuardedSpace.{IsGuardState}
use Rattle.zy_guard.specs.Timeline.{onward}
use Rattle.zy_guard.specs.Changes.{values_of, undone, CanUndo, earlier, trail_of, LeadsBack, IsInChain, AllInChains, AllKeptInChains, IsSound, IsGuard, IsStep, IsPutLast}
use Rattle.zy_guard.specs.SpaceLaws.{removed_state}

abbrev Live : Type 0
Live = Cell Owned

abbrev Unlinked : Type 0
Unlinked = Kept Owned

abbrev State : Type 0
State = Cells Owned

-- ---- live cells

pub values-append : (front back : List Live) → values_of (front ++ back) ≡ values_of front ++ values_of back
values-append front back = map-append (λ (cell : Live). cell.value) front back

pub length-values : (cells : List Live) → length (values_of cells) ≡ length cells
length-values cells = length-map cells (λ (cell : Live). cell.value)

without_last : (front : List Live) (last : Live) → take (length (front ++ last ∷ []) - 1) (front ++ last ∷ []) ≡ front
without_last front last = take_at front (last ∷ []) (length (front ++ last ∷ []) - 1) (omega (arith, length-append front (last ∷ [])))

-- the last one is left out
pub undone-put : (cells : State) (front : List Live) (last : Live) → cells.live ≡ front ++ last ∷ [] → undone Put cells ≡ with_live cells front
undone-put cells front last split =
    ap (with_live cells) (ap (λ (live : List Live). take (length live - 1) live) split ∙ without_last front last)

pub length-put_behind : (before : Option ℕ) (cell : Live) (cells : List Live) → length (put_behind before cell cells) ≡ length cells + 1
length-put_behind None cell cells = omega arith
length-put_behind (Some id) cell [] = omega arith
length-put_behind (Some id) cell (other ∷ others) =
    let rest = length-put_behind (Some id) cell others in
    elim (eqb other.id id) as (λ here. length (cond here (other ∷ cell ∷ others) (other ∷ put_behind (Some id) cell others)) ≡ length (other ∷ others) + 1) [ true ↦ omega arith | false ↦ omega arith ]

-- going back over what was put, there is one less
pub length-undone_put : (cells : State) → CanTakeLast cells → length (undone Put cells).live + 1 ≡ length cells.live
length-undone_put cells can =
    let left : length (undone Put cells).live ≡ length can.front = ap (λ (c : State). length c.live) (undone-put cells can.front can.last can.split) in
    omega (arith, left, length-append can.front (can.last ∷ []), ap length can.split)

length-relinked : (live : List Live) (stack : List Unlinked) (top : Unlinked) (rest : List Unlinked) → stack ≡ top ∷ rest → length (relinked_onto live stack).live ≡ length live + 1
length-relinked live [] top rest is = absurd (cc)
length-relinked live (first ∷ others) top rest is = length-put_behind first.order.prev first.cell live

-- and over what was taken, one more
pub length-undone_took : (cells : State) → CanRelink cells → length (undone Took cells).live ≡ length cells.live + 1
length-undone_took cells can = length-relinked cells.live cells.stack can.top can.rest can.on_top

-- ---- values in the chains of their owners

all_put_behind : (before : Option ℕ) (cell : Live) (cells : List Live) → IsInChain cell → AllInChains cells → AllInChains (put_behind before cell cells)
all_put_behind None cell cells one all = (one, all)
all_put_behind (Some id) cell [] one all = (one, tt)
all_put_behind (Some id) cell (other ∷ others) one all =
    let rest = all_put_behind (Some id) cell others one all.1 in
    elim (eqb other.id id) as (λ here. AllInChains (cond here (other ∷ cell ∷ others) (other ∷ put_behind (Some id) cell others))) [ true ↦ (all.0, (one, all.1)) | false ↦ (all.0, rest) ]

all_relinked : (live : List Live) (stack : List Unlinked) → AllInChains live → AllKeptInChains stack → AllInChains (relinked_onto live stack).live × AllKeptInChains (relinked_onto live stack).stack
all_relinked live [] chains items = (chains, tt)
all_relinked live (top ∷ rest) chains items = (all_put_behind top.order.prev top.cell live items.0 chains, items.1)

all_undone : (change : Change) (cells : State) → CanUndo change cells → AllInChains cells.live → AllKeptInChains cells.stack → AllInChains (undone change cells).live × AllKeptInChains (undone change cells).stack
all_undone Same cells can chains items = (chains, items)
all_undone Put cells can chains items =
    (subst (λ (c : State). AllInChains c.live) (sym (undone-put cells can.front can.last can.split)) (all_parts IsInChain can.front (can.last ∷ []) (subst AllInChains can.split chains)).0, items)
all_undone Took cells can chains items = all_relinked cells.live cells.stack chains items

-- ---- steps

-- a change that leads back to the cells as they were puts their state at the end of the trail
trail_step : (cells cells' : State) (changes : List Change) (change : Change) → undone change cells' ≡ cells
    → trail_of cells' (changes ++ change ∷ []) ≡ trail_of cells changes ++ values_of cells.live ∷ []
unfolding earlier
trail_step cells cells' changes change back =
    rw (reverse-append changes (change ∷ []), back) (reverse-append (values_of cells.live ∷ []) (earlier cells (reverse changes)))

leads_step : (cells cells' : State) (changes : List Change) (change : Change) → IsSound cells changes → undone change cells' ≡ cells → CanUndo change cells'
    → LeadsBack cells' (reverse (changes ++ change ∷ []))
unfolding LeadsBack
leads_step cells cells' changes change sound back can =
    rw (reverse-append changes (change ∷ []), back) (can, sound.state, sound.leads_back)

step_made : (cells cells' : State) (changes : List Change) (change : Change) (state : List Owned) → IsSound cells changes → undone change cells' ≡ cells → CanUndo change cells'
    → values_of cells'.live ≡ state → IsGuardState state → AllInChains cells'.live → AllKeptInChains cells'.stack → IsStep cells cells' changes (changes ++ change ∷ []) state
step_made cells cells' changes change state sound back can now is all items =
    record {
      state_now = now;
      trail_now = trail_step cells cells' changes change back;
      sound = record { leads_back = leads_step cells cells' changes change sound back can; state = subst IsGuardState (sym now) is; chains = all; kept = items };
    }

pub stay_step : (cells : State) (changes : List Change) → IsSound cells changes → IsStep cells cells changes (changes ++ Same ∷ []) (values_of cells.live)
stay_step cells changes sound = step_made cells cells changes Same (values_of cells.live) sound refl tt refl sound.state sound.chains sound.kept

put_now : (cells : State) (changes : List Change) (cell : Live) → IsSound cells changes → IsInChain cell → IsGuardState (values_of cells.live ++ cell.value ∷ []) → IsFresh cells cell.id
    → IsStep cells (with_live cells (cells.live ++ cell ∷ [])) changes (changes ++ Put ∷ []) (values_of cells.live ++ cell.value ∷ [])
put_now cells changes cell sound chain is fresh =
    let cells' = with_live cells (cells.live ++ cell ∷ []) in
    step_made cells cells' changes Put (values_of cells.live ++ cell.value ∷ []) sound
    (undone-put cells' cells.live cell refl)
    (record { front = cells.live; last = cell; split = refl; kept_by_none = fresh.kept_by_none })
    (values-append cells.live (cell ∷ []))
    is
    (all_join IsInChain cells.live (cell ∷ []) sound.chains (chain, tt))
    sound.kept

pub put_step : (cells cells' : State) (changes : List Change) (owned : Owned) → IsSound cells changes → IsGuardState (values_of cells.live ++ owned ∷ []) → IsPutLast cells cells' owned
    → IsStep cells cells' changes (changes ++ Put ∷ []) (values_of cells.live ++ owned ∷ [])
put_step cells cells' changes owned sound is put =
    let cell : Live = record { id = put.id; bucket = owned.owner.0; value = owned } in
    subst (λ (c : State). IsStep cells c changes (changes ++ Put ∷ []) (values_of cells.live ++ owned ∷ [])) (sym put.now)
    (put_now cells changes cell sound refl is put.fresh)

pub put_more : (cells cells' : State) (owned : Owned) → IsPutLast cells cells' owned → length cells'.live ≡ length cells.live + 1
put_more cells cells' owned put =
    ap (λ (c : State). length c.live) put.now ∙ length-append cells.live _

took_now : (cells cells' : State) (changes : List Change) (front : List Live) (cell : Live) (back : List Live) → IsSound cells changes → cells.live ≡ front ++ cell ∷ back
    → cells' ≡ record { live = front ++ back; stack = kept front cell back ∷ cells.stack } → CanRelink cells' → relinked cells' ≡ cells
    → IsStep cells cells' changes (changes ++ Took ∷ []) (values_of (front ++ back))
took_now cells cells' changes front cell back sound split now ready undo =
    let parts = all_split IsInChain front cell back (subst AllInChains split sound.chains) in
    let was : IsGuardState (values_of front ++ cell.value ∷ values_of back) = subst IsGuardState (ap values_of split ∙ values-append front (cell ∷ back)) sound.state in
    step_made cells cells' changes Took (values_of (front ++ back)) sound undo ready
    (ap (λ (c : State). values_of c.live) now)
    (subst IsGuardState (sym (values-append front back)) (removed_state (values_of front) cell.value (values_of back) was))
    (subst (λ (c : State). AllInChains c.live) (sym now) (all_join IsInChain front back parts.0 parts.2))
    (subst (λ (c : State). AllKeptInChains c.stack) (sym now) (parts.1, sound.kept))

pub took_step : (cells cells' : State) (changes : List Change) (id : ℕ) → IsSound cells changes
    → ((front : List Live) (cell : Live) (back : List Live) → Stands cells id front cell back → cells' ≡ record { live = front ++ back; stack = kept front cell back ∷ cells.stack })
    → CanRelink cells' → relinked cells' ≡ cells
    → (front : List Live) (cell : Live) (back : List Live) → Stands cells id front cell back → IsStep cells cells' changes (changes ++ Took ∷ []) (values_of (front ++ back))
took_step cells cells' changes id sound moved ready undo front cell back stands =
    took_now cells cells' changes front cell back sound stands.split (moved front cell back stands) ready undo

-- what a step makes of a space
pub onward_from : (cells cells' : State) (changes changes' : List Change) (state : List Owned) → IsStep cells cells' changes changes' state
    → record { state = values_of cells'.live; trail = trail_of cells' changes' } ≡ onward (record { state = values_of cells.live; trail = trail_of cells changes }) state
onward_from cells cells' changes changes' state step = rw (step.state_now, step.trail_now) refl

-- ---- going back

pub back_sound : (cells : State) (changes : List Change) (change : Change) → IsSound cells (changes ++ change ∷ []) → CanUndo change cells × IsSound (undone change cells) changes
unfolding LeadsBack
back_sound cells changes change sound =
    let leads : LeadsBack cells (change ∷ reverse changes) = rw reverse-append at sound.leads_back in
    let all = all_undone change cells leads.0 sound.chains sound.kept in
    (leads.0, record { leads_back = leads.2; state = leads.1; chains = all.0; kept = all.1 })

pub back_trail : (cells : State) (changes : List Change) (change : Change) → trail_of cells (changes ++ change ∷ []) ≡ trail_of (undone change cells) changes ++ values_of (undone change cells).live ∷ []
back_trail cells changes change = trail_step (undone change cells) cells changes change refl

pub no_trail : (cells : State) (changes : List Change) → changes ≡ [] → 0 < length (trail_of cells changes) → ⊥
unfolding earlier
no_trail cells changes none some = let more : 0 < 0 = subst (λ (c : List Change). 0 < length (trail_of cells c)) none some in omega arith

-- ---- forgetting

-- without the oldest change, and what is kept for it
pub record IsForgotten (cells cells' : State) (changes : List Change) (oldest : Change) : Type 0 where
  pub sound : IsSound cells' changes
  pub live : cells'.live ≡ cells.live
  pub trail : trail_of cells' changes ≡ drop 1 (trail_of cells (oldest ∷ changes))

abbrev rewound : State → List Change → State
rewound cells [] = cells
rewound cells (change ∷ changes) = rewound (undone change cells) changes

earlier-append : (cells : State) (changes : List Change) (oldest : Change)
    → earlier cells (changes ++ oldest ∷ []) ≡ earlier cells changes ++ values_of (undone oldest (rewound cells changes)).live ∷ []
unfolding earlier
earlier-append cells [] oldest = refl
earlier-append cells (change ∷ changes) oldest =
    ap (λ (states : List (List Owned)). values_of (undone change cells).live ∷ states) (earlier-append (undone change cells) changes oldest)

drop-reverse : (states : List (List Owned)) (state : List Owned) → drop 1 (reverse (states ++ state ∷ [])) ≡ reverse states
drop-reverse states state = rw (reverse-append states (state ∷ [])) refl

turned : (oldest : Change) (changes : List Change) → reverse (oldest ∷ changes) ≡ reverse changes ++ oldest ∷ []
turned oldest changes = reverse-append (oldest ∷ []) changes

dropped : (cells : State) (changes : List Change) (oldest : Change) → drop 1 (trail_of cells (oldest ∷ changes)) ≡ trail_of cells changes
dropped cells changes oldest =
    rw (turned oldest changes, earlier-append cells (reverse changes) oldest) (drop-reverse (earlier cells (reverse changes)) (values_of (undone oldest (rewound cells (reverse changes))).live))

-- a change that took nothing leaves the stack to the later ones
leads_without : (oldest : Change) → ((cells : State) → (undone oldest cells).stack ≡ cells.stack) → (cells : State) (changes : List Change) → LeadsBack cells (changes ++ oldest ∷ []) → LeadsBack cells changes
unfolding LeadsBack
leads_without oldest stays cells [] leads = sym (stays cells) ∙ leads.2
leads_without oldest stays cells (change ∷ changes) leads = (leads.0, leads.1, leads_without oldest stays (undone change cells) changes leads.2)

pub forget_other : (cells : State) (changes : List Change) (oldest : Change) → ((cells : State) → (undone oldest cells).stack ≡ cells.stack) → IsSound cells (oldest ∷ changes) → IsForgotten cells cells changes oldest
forget_other cells changes oldest stays sound =
    record {
      sound = record { leads_back = leads_without oldest stays cells (reverse changes) (subst (LeadsBack cells) (turned oldest changes) sound.leads_back); state = sound.state; chains = sound.chains; kept = sound.kept };
      live = refl;
      trail = sym (dropped cells changes oldest);
    }

pub stays-same : (cells : State) → (undone Same cells).stack ≡ cells.stack
stays-same cells = refl

pub stays-put : (cells : State) → (undone Put cells).stack ≡ cells.stack
stays-put cells = refl

abbrev state : List Live → List Unlinked → State
state live stack = record { live = live; stack = stack }

-- without the lowest of the stack the changes lead back as before
record IsLeft (live : List Live) (stack : List Unlinked) (changes : List Change) : Type 0 where
  above : List Unlinked
  lowest : Unlinked
  split : stack ≡ above ++ lowest ∷ []
  leads_back : LeadsBack (state live above) changes
  earlier_same : earlier (state live above) changes ≡ earlier (state live stack) changes

same_top : (x y : Unlinked) (xs ys : List Unlinked) → x ∷ xs ≡ y ∷ ys → x ≡ y
same_top x y xs ys is = cc

can_relink_without : (live : List Live) (top : Unlinked) (rest above : List Unlinked) → CanRelink (state live (top ∷ rest)) → CanRelink (state live (top ∷ above))
can_relink_without live top rest above can =
    record {
      top = can.top;
      rest = above;
      on_top = ap (λ (item : Unlinked). item ∷ above) (same_top top can.top rest can.rest can.on_top);
      earlier = can.earlier;
      later = can.later;
      in_order = can.in_order;
      order_kept = can.order_kept;
      chain_earlier = can.chain_earlier;
      chain_later = can.chain_later;
      in_chain = can.in_chain;
      chain_kept = can.chain_kept;
    }

left : (live : List Live) (stack : List Unlinked) (changes : List Change) → LeadsBack (state live stack) (changes ++ Took ∷ []) → IsLeft live stack changes
unfolding LeadsBack earlier
left live [] [] leads = let none : [] ≡ leads.0.top ∷ leads.0.rest = leads.0.on_top in absurd (cc)
left live (top ∷ rest) [] leads =
    record { above = []; lowest = top; split = ap (λ (items : List Unlinked). top ∷ items) leads.2; leads_back = refl; earlier_same = refl }
left live stack (Same ∷ changes) leads =
    let past = left live stack changes leads.2 in
    record {
      above = past.above;
      lowest = past.lowest;
      split = past.split;
      leads_back = (tt, leads.1, past.leads_back);
      earlier_same = ap (λ (states : List (List Owned)). values_of live ∷ states) past.earlier_same;
    }
left live stack (Put ∷ changes) leads =
    let front = take (length live - 1) live in
    let past = left front stack changes leads.2 in
    let apart = all_parts (λ (item : Unlinked). IsApart leads.0.last.id item.order × IsApart leads.0.last.id item.chain) past.above (past.lowest ∷ []) (subst (λ (items : List Unlinked). KeptByNone items leads.0.last.id) past.split leads.0.kept_by_none) in
    record {
      above = past.above;
      lowest = past.lowest;
      split = past.split;
      leads_back = (record { front = leads.0.front; last = leads.0.last; split = leads.0.split; kept_by_none = apart.0 }, leads.1, past.leads_back);
      earlier_same = ap (λ (states : List (List Owned)). values_of front ∷ states) past.earlier_same;
    }
left live [] (Took ∷ changes) leads = let none : [] ≡ leads.0.top ∷ leads.0.rest = leads.0.on_top in absurd (cc)
left live (top ∷ rest) (Took ∷ changes) leads =
    let now = put_behind top.order.prev top.cell live in
    let past = left now rest changes leads.2 in
    record {
      above = top ∷ past.above;
      lowest = past.lowest;
      split = ap (λ (items : List Unlinked). top ∷ items) past.split;
      leads_back = (can_relink_without live top rest past.above leads.0, leads.1, past.leads_back);
      earlier_same = ap (λ (states : List (List Owned)). values_of now ∷ states) past.earlier_same;
    }

left_of : (cells : State) (changes : List Change) → IsSound cells (Took ∷ changes) → IsLeft cells.live cells.stack (reverse changes)
left_of cells changes sound = left cells.live cells.stack (reverse changes) (subst (LeadsBack cells) (turned Took changes) sound.leads_back)

pub some_kept : (cells : State) (changes : List Change) → IsSound cells (Took ∷ changes) → 0 < length cells.stack
some_kept cells changes sound =
    let past = left_of cells changes sound in
    omega (arith, ap length past.split, length-append past.above (past.lowest ∷ []))

pub forget_took : (cells cells' : State) (changes : List Change) → IsSound cells (Took ∷ changes)
    → ((above : List Unlinked) (lowest : Unlinked) → cells.stack ≡ above ++ lowest ∷ [] → cells' ≡ with_stack cells above) → IsForgotten cells cells' changes Took
forget_took cells cells' changes sound taken =
    let past = left_of cells changes sound in
    let kept_above = all_parts (λ (item : Unlinked). IsInChain item.cell) past.above (past.lowest ∷ []) (subst AllKeptInChains past.split sound.kept) in
    subst (λ (c : State). IsForgotten cells c changes Took) (sym (taken past.above past.lowest past.split))
    (record {
      sound = record { leads_back = past.leads_back; state = sound.state; chains = sound.chains; kept = kept_above.0 };
      live = refl;
      trail = ap reverse past.earlier_same ∙ sym (dropped cells changes Took);
    })

-- ---- a guarded space that is made

length-earlier : (cells : State) (changes : List Change) → length (earlier cells changes) ≡ length changes
unfolding earlier
length-earlier cells [] = refl
length-earlier cells (change ∷ changes) = ap suc (length-earlier (undone change cells) changes)

pub length-trail_of : (cells : State) (changes : List Change) → length (trail_of cells changes) ≡ length changes
length-trail_of cells changes = length-reverse (earlier cells (reverse changes)) ∙ length-earlier cells (reverse changes) ∙ length-reverse changes

pub trail_none : (cells : State) → trail_of cells [] ≡ []
unfolding earlier
trail_none cells = refl

pub guard_made : (cells : State) (live : ℕ) → IsGuardState (values_of cells.live) → AllInChains cells.live → cells.stack ≡ [] → live ≡ length cells.live → IsGuard cells [] live
unfolding LeadsBack
guard_made cells live state chains none counted =
    record { sound = record { leads_back = none; state = state; chains = chains; kept = subst AllKeptInChains (sym none) tt }; counted = counted }
