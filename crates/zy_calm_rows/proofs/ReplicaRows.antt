-- What a calm replica makes of a request, at the primary, and of an order.
use Rattle.std.proofs.Common.{◌≡◌, ℕ, ◌+◌, ◌-◌, ◌<◌, ◌≤◌, Bool, true, false, Option, Some, None, refl, sym, ap, ◌∙◌, arith, lt-ltb, le-leb}
use Rattle.std.proofs.lemmas.Bool.{le-ltb, lt-leb, ltb-true, ne_eqb}
use Rattle.std.proofs.lemmas.List.{get_or_past}
use Rattle.std.specs.Prelude.{nat_eq, nat_le, nat_lt, option_map, slice_index_or, if◌then◌else◌}
use Rattle.zy_admit.specs.Judging.{asking, entry_of, judge_at_end, judge_beside, judge_fresh, judge_in, ordered_entry, same_digest}
use Rattle.zy_admit.specs.Orders.{stored_in, with_order}
use Rattle.zy_admit.specs.declared.judging.Admit.TheVariants as admits
use Rattle.zy_admit.specs.declared.judging.Position.{Position}
use Rattle.zy_base.specs.Machine.{Rules}
use Rattle.zy_base.specs.declared.cause.Cause.{Cause}
use Rattle.zy_base.specs.declared.cause.Cause.TheVariants as causes
use Rattle.zy_base.specs.declared.ids.Digest.{Digest}
use Rattle.zy_base.specs.declared.step.Answer.TheVariants.{Taken}
use Rattle.zy_base.specs.declared.step.Mode.{Mode}
use Rattle.zy_cert.specs.Equal.{digest-equal}
use Rattle.zy_chain.specs.Entries.{digest_of_entry, newer}
use Rattle.zy_chain.specs.Heads.{head_after}
use Rattle.zy_chain.specs.declared.entry.Entry.{Entry}
use Rattle.zy_change.specs.Views as views
use Rattle.zy_exec.specs.Kept.{Kept, known_in, last_place, longer, now_of}
use Rattle.zy_exec.specs.Replay.{Point, is_new_to, step}
use Rattle.zy_exec.specs.declared.known.Known.{Known}
use Rattle.zy_frames.specs.declared.frame.Frame.TheVariants as frames
use Rattle.zy_frames.specs.declared.frame.OrderFrame.{OrderFrame}
use Rattle.zy_parts.specs.declared.signed.Signed.{Signed}
use Rattle.zy_parts.specs.declared.statements.Ask.{Ask}
use Rattle.zy_parts.specs.declared.statements.Hole.{Hole}
use Rattle.zy_parts.specs.declared.statements.Order.{Order}
use Rattle.zy_seal.specs.Sealing.{SealerState, spent_one}
use Rattle.zy_table.specs.Deeds.{Going, begin, ends, refused}
use Rattle.zy_table.specs.Gathering.{state_in}
use Rattle.zy_table.specs.Orders.{position_of}
use Rattle.zy_table.specs.Requests.{is_behind, new_request, order_of, ordered, request, request_after, request_at_backup, request_at_primary, respond_again, sealed_order, take_request}
use Rattle.zy_table.specs.Roles.{view_cause}
use Rattle.zy_table.specs.Running.{run, signs_of}
use Rattle.zy_table.specs.State.{State, is_leaving, is_leaving_mode, is_primary, own_view, pending_of, signs_left, window_of}
use Rattle.zy_table.specs.Whole.{order, order_judged, plain_row, unless}
use Rattle.zy_table.specs.declared.kept.Pending.{Pending}
use Rattle.zy_calm_rows.proofs.AfterRun.{IsAbout, calm_after, slots_with}
use Rattle.zy_calm_rows.proofs.Running.{last_longer, none_due, one_sign, run_alone, run_one_calmly}
use Rattle.zy_calm_rows.specs.Calm.{IsCalm, IsNext}
use Rattle.zy_calm_rows.specs.Outcomes.{calm_order, ordered_calmly, run_calmly, taken_calmly}

same_itself : (d : Digest) → same_digest d d ≡ true
same_itself d = (digest-equal d d).1 refl

-- a stamp above another
not_older : (a b : ℕ) → nat_lt b a ≡ true → (nat_lt a b ≡ false) × (nat_eq a b ≡ false)
not_older a b above = let less : b < a = ltb-true b a above in (le-ltb a b (omega arith), ne_eqb a b (λ same. omega arith))

module _ {S : Type 0} (R : Rules S) (p : Point S) (s : State S) (calm : IsCalm R p s) where
  -- ---- what is read of a calm replica

  pub in_first_view : own_view s ≡ 0
  in_first_view = ap (λ (m : Mode). views.own_view (record s.views { mode = m })) calm.mode

  pub stays : is_leaving s ≡ false
  stays = ap is_leaving_mode calm.mode

  pub no_cause : (view : ℕ) → view ≡ 0 → view_cause s view ≡ None
  no_cause view first =
      let low : nat_lt view (own_view s) ≡ false = le-ltb view (own_view s) (omega (arith, in_first_view)) in
      let high : nat_lt (own_view s) view ≡ false = le-ltb (own_view s) view (omega (arith, first)) in
      ap (λ (b : Bool). if b then Some causes.OldView else (if nat_lt (own_view s) view then Some causes.NewerView else (if is_leaving s then Some causes.NotActive else None))) low
      ∙ ap (λ (b : Bool). if b then Some causes.NewerView else (if is_leaving s then Some causes.NotActive else None)) high
      ∙ ap (λ (b : Bool). if b then Some causes.NotActive else None) stays

  known_here : (client : ℕ) → known_in R s.kept client ≡ slice_index_or p.known client None
  known_here client = ap (λ (q : Point S). slice_index_or q.known client None) calm.now

  -- the next place lies in the window
  in_window : (interval : ℕ) → s.kept.interval ≡ interval → p.place + 1 < interval → interval ≤ 32 → p.place + 1 ≤ window_of s
  in_window interval is inside small = omega (arith, calm.orders)

  -- the next place's order is kept, whatever its key and its hole are then
  about_with : (sealer : SealerState) (hole : Option (Signed Hole)) (o : OrderFrame) → o.order.stmt.place.0 ≡ p.place + 1 → IsAbout R p (record s { sealer = sealer; orders = with_order s.orders o; hole = hole })
  about_with sealer hole o place =
      record {
        mode = calm.mode;
        now = calm.now;
        place = calm.place;
        base = calm.base;
        orders = calm.orders;
        slots = slots_with s.orders o p.place calm.orders calm.slots place;
        pending = calm.pending;
      }

  module _ (e : Entry) (next : IsNext p s.kept.interval e) where
    none_here : state_in R (longer s.kept e) (p.place + 1) ≡ None
    none_here =
        none_due R (longer s.kept e) (p.place + 1) calm.base (last_longer R s.kept e ∙ ap (λ (n : ℕ). n + 1) calm.place)
        (omega arith) next.inside

    one : signs_of R s e ≡ 1
    one = one_sign R p s e calm.now none_here

    -- an order of the entry, which is kept already
    runs : (o : OrderFrame) (g : Going S) → ordered_entry o ≡ e → g.state.kept ≡ s.kept → IsAbout R p g.state → run R o g ≡ run_calmly R p o g
    runs o g same kept is =
        run_alone R o g is.orders (omega (arith, is.slots, is.place))
        ∙ run_one_calmly R p o g (ap (λ (m : Mode). views.own_view (record g.state.views { mode = m })) is.mode) is.now
        (ap (λ (x : Entry). state_in R (longer g.state.kept x) (p.place + 1)) same
        ∙ ap (λ (k : Kept S). state_in R (longer k e) (p.place + 1)) kept
        ∙ none_here)

    pub order_is : order_of R s e ≡ calm_order R p e
    order_is =
        ap (λ (v : ℕ). ordering v (now_of R s.kept)) in_first_view ∙ ap (ordering 0) calm.now
      where
        ordering : ℕ → Point S → Order
        ordering v q = record { view = record { 0 = v }; place = record { 0 = q.place + 1 }; head = head_after q.head (digest_of_entry e); request = digest_of_entry e }

  -- ---- a request

  module _ (ask : Signed Ask) (next : IsNext p s.kept.interval (entry_of ask)) where
    goes_new : (known : Option Known) → newer ask.stmt.stamp (option_map (λ k. k.stamp) known) ≡ true → request_after R s ask known ≡ new_request R s ask
    goes_new None new = refl
    goes_new (Some known) new =
        let tests = not_older ask.stmt.stamp.0 known.stamp.0 new in
        ap (λ (b : Bool). if b then refused causes.OldStamp s else (if nat_eq ask.stmt.stamp.0 known.stamp.0 then respond_again R s ask known else new_request R s ask)) tests.0
        ∙ ap (λ (b : Bool). if b then respond_again R s ask known else new_request R s ask) tests.1

    pub about_ordered : IsAbout R p (ordered R s ask).state
    about_ordered = about_with (spent_one s.sealer) s.hole (sealed_order R s ask) (ap (λ (o : Order). o.place.0) (order_is (entry_of ask) next))

    pub request_row : is_primary s ≡ true → 2 ≤ signs_left s → plain_row R s (frames.Request ask) ≡ ordered_calmly R p s ask
    unfolding request
    request_row primary left =
        let e : Entry = entry_of ask in
        let room : nat_lt (last_place s.kept) (window_of s) ≡ true = lt-ltb (last_place s.kept) (window_of s) (omega (arith, in_window s.kept.interval refl next.inside next.small, calm.place)) in
        let enough : nat_le (signs_of R s e + 1) (signs_left s) ≡ true = le-leb (signs_of R s e + 1) (signs_left s) (omega (arith, one e next, left)) in
        ap (λ (b : Bool). if b then refused causes.NotActive s else (if is_behind ask (pending_of s (asking ask.by)) then refused causes.OldStamp s else request_after R s ask (known_in R s.kept (asking ask.by).0))) stays
        ∙ ap (λ (o : Option Pending). if is_behind ask o then refused causes.OldStamp s else request_after R s ask (known_in R s.kept (asking ask.by).0)) (calm.pending (asking ask.by))
        ∙ ap (request_after R s ask) (known_here (asking ask.by).0)
        ∙ goes_new (slice_index_or p.known (asking ask.by).0 None) next.newer
        ∙ ap (λ (b : Bool). if b then request_at_primary R s ask else request_at_backup R s ask (pending_of s (asking ask.by))) primary
        ∙ ap (λ (b : Bool). if b then take_request R s ask else refused (causes.WindowFull (record { 0 = window_of s })) s) room
        ∙ ap (λ (b : Bool). if b then ends Taken (run R (sealed_order R s ask) (ordered R s ask)) else refused causes.KeySpent s) enough
        ∙ ap (ends Taken) (runs e next (sealed_order R s ask) (ordered R s ask) refl refl about_ordered)

    pub request_calm : IsCalm R (step R p (entry_of ask)) (ordered_calmly R p s ask).state
    request_calm = calm_after R p (sealed_order R s ask) (ordered R s ask) about_ordered

  -- ---- an order

  module _ (o : OrderFrame) (next : IsNext p s.kept.interval (ordered_entry o)) (is : o.order.stmt ≡ calm_order R p (ordered_entry o)) where
    abbrev e : Entry
    e = ordered_entry o

    abbrev stored : State S
    stored = record s { orders = with_order s.orders o; hole = None }

    pub about_stored : IsAbout R p stored
    about_stored = about_with s.sealer None o (ap (λ (x : Order). x.place.0) is)

    nothing_stored : stored_in s.orders (p.place + 1) ≡ None
    nothing_stored =
        let above : nat_le (p.place + 1) s.orders.base ≡ false = lt-leb (p.place + 1) s.orders.base (omega (arith, calm.orders)) in
        ap (λ (b : Bool). if b then None else slice_index_or s.orders.slots (p.place + 1 - s.orders.base - 1) None) above
        ∙ get_or_past s.orders.slots (p.place + 1 - s.orders.base - 1) None (omega (arith, calm.orders, calm.slots))

    abbrev at : Position
    at = position_of R s o

    heads : same_digest (calm_order R p e).head (head_after at.head (digest_of_entry e)) ≡ true
    heads = (digest-equal _ _).1 (ap (λ (q : Point S). head_after q.head (digest_of_entry e)) (sym calm.now))

    new : newer e.stamp at.last ≡ true
    new = ap (λ (q : Point S). is_new_to q.known e) calm.now ∙ next.newer

    last_next : judge_at_end (calm_order R p e) e at ≡ admits.Next
    last_next =
        ap (λ (b : Bool). if b then (if newer e.stamp at.last then admits.Next else admits.Refused causes.OldStamp) else admits.Refused causes.WrongHead) heads
        ∙ ap (λ (b : Bool). if b then admits.Next else admits.Refused causes.OldStamp) new

    fresh_next : judge_fresh (calm_order R p e) e at ≡ admits.Next
    fresh_next =
        let order = calm_order R p e in
        let above : nat_le (p.place + 1) (last_place s.kept) ≡ false = lt-leb (p.place + 1) (last_place s.kept) (omega (arith, calm.place)) in
        let inside : nat_lt (window_of s) (p.place + 1) ≡ false = le-ltb (window_of s) (p.place + 1) (in_window s.kept.interval refl next.inside next.small) in
        let first : nat_lt (last_place s.kept + 1) (p.place + 1) ≡ false = le-ltb (last_place s.kept + 1) (p.place + 1) (omega (arith, calm.place)) in
        ap (λ (b : Bool). if b then admits.Refused causes.OldPlace else (if nat_lt at.window.0 order.place.0 then admits.Refused (causes.WindowFull at.window) else (if same_digest order.request (digest_of_entry e) then (if nat_lt (at.end.0 + 1) order.place.0 then admits.Held else judge_at_end order e at) else admits.Refused causes.Unmatched))) above
        ∙ ap (λ (b : Bool). if b then admits.Refused (causes.WindowFull at.window) else (if same_digest order.request (digest_of_entry e) then (if nat_lt (at.end.0 + 1) order.place.0 then admits.Held else judge_at_end order e at) else admits.Refused causes.Unmatched)) inside
        ∙ ap (λ (b : Bool). if b then (if nat_lt (at.end.0 + 1) order.place.0 then admits.Held else judge_at_end order e at) else admits.Refused causes.Unmatched) (same_itself (digest_of_entry e))
        ∙ ap (λ (b : Bool). if b then admits.Held else judge_at_end order e at) first
        ∙ last_next

    judged : judge_in s.orders o.order.stmt e at ≡ admits.Next
    judged =
        ap (λ (x : Order). judge_in s.orders x e at) is
        ∙ ap (λ (kept : Option OrderFrame). judge_beside kept (calm_order R p e) e at) nothing_stored
        ∙ fresh_next

    pub order_row : 1 ≤ signs_left s → plain_row R s (frames.Order o) ≡ taken_calmly R p s o
    order_row left =
        let enough : nat_le (signs_of R s e) (signs_left s) ≡ true = le-leb (signs_of R s e) (signs_left s) (omega (arith, one e next, left)) in
        ap (λ (c : Option Cause). unless c s (order R s o)) (no_cause o.order.stmt.view.0 (ap (λ (x : Order). x.view.0) is))
        ∙ ap (order_judged R s o) judged
        ∙ ap (λ (b : Bool). if b then ends Taken (run R o (begin stored)) else refused causes.KeySpent s) enough
        ∙ ap (ends Taken) (runs e next o (begin stored) refl refl about_stored)

    pub order_calm : IsCalm R (step R p (ordered_entry o)) (taken_calmly R p s o).state
    order_calm = calm_after R p o (begin stored) about_stored
