-- A calm replica that ran an order is calm one entry on.
use Rattle.std.proofs.Common.{◌≡◌, ℕ, zero, suc, ◌+◌, ◌-◌, List, [], ◌∷◌, ◌++◌, length, get_or, set, replicate, Option, Some, None, refl, ap, ◌∙◌, arith}
use Rattle.std.proofs.lemmas.List.{length-append, length-replicate, length-set}
use Rattle.std.specs.Prelude.{slice_index_or}
use Rattle.zy_admit.specs.Judging.{ordered_entry}
use Rattle.zy_admit.specs.Orders.{Orders, with_order}
use Rattle.zy_base.specs.Machine.{Rules}
use Rattle.zy_base.specs.declared.ids.ClientId.{ClientId}
use Rattle.zy_base.specs.declared.step.Mode.TheVariants.{Active}
use Rattle.zy_chain.specs.declared.entry.Entry.{Entry}
use Rattle.zy_exec.proofs.ReplayLemmas.{along-append}
use Rattle.zy_exec.specs.Kept.{last_place, now_of}
use Rattle.zy_exec.specs.Replay.{Point, step}
use Rattle.zy_frames.specs.declared.frame.OrderFrame.{OrderFrame}
use Rattle.zy_table.specs.Deeds.{Going}
use Rattle.zy_table.specs.Running.{still_pending, without_pending}
use Rattle.zy_table.specs.State.{State, pending_of}
use Rattle.zy_table.specs.declared.kept.Pending.{Pending}
use Rattle.zy_calm_rows.proofs.Running.{last_longer}
use Rattle.zy_calm_rows.specs.Calm.{IsCalm}
use Rattle.zy_calm_rows.specs.Outcomes.{run_calmly}

-- ---- slots

pub set_none : {A : Type 0} (xs : List (Option A)) (i j : ℕ) → get_or xs j None ≡ None → get_or (set xs i None) j None ≡ None
set_none [] i j is = is
set_none (x ∷ xs) zero zero is = refl
set_none (x ∷ xs) zero (suc j) is = is
set_none (x ∷ xs) (suc i) zero is = is
set_none (x ∷ xs) (suc i) (suc j) is = set_none xs i j is

-- an order at the place behind the last one
pub slots_with : (o : Orders) (f : OrderFrame) (n : ℕ) → o.base ≡ 0 → length o.slots ≡ n → f.order.stmt.place.0 ≡ n + 1 → length (with_order o f).slots ≡ n + 1
slots_with o f n base long place =
    let at : ℕ = f.order.stmt.place.0 - o.base - 1 in
    let more : List (Option OrderFrame) = replicate (at + 1 - length o.slots) None in
    omega (arith, length-set (o.slots ++ more) at (Some f), length-append o.slots more, length-replicate {A = Option OrderFrame} (at + 1 - length o.slots) None)

-- ---- no request waits

module _ {S : Type 0} where
  none_waits : (s : State S) (e : Entry) → ((client : ClientId) → pending_of s client ≡ None) → (client : ClientId) → pending_of (without_pending s e) client ≡ None
  none_waits s e none client =
      ap (λ (o : Option Pending). slice_index_or (set s.pending e.client.0 (still_pending e.stamp o)) client.0 None) (none e.client)
      ∙ set_none s.pending e.client.0 client.0 (none client)

  -- what stands before an order is run that was kept at the next place
  pub record IsAbout (R : Rules S) (p : Point S) (s : State S) : Type 0 where
    pub mode : s.views.mode ≡ Active (record { 0 = 0 })
    pub now : now_of R s.kept ≡ p
    pub place : last_place s.kept ≡ p.place
    pub base : s.kept.base.place ≡ 0
    pub orders : s.orders.base ≡ 0
    pub slots : length s.orders.slots ≡ p.place + 1
    pub pending : (client : ClientId) → pending_of s client ≡ None

  pub calm_after : (R : Rules S) (p : Point S) (o : OrderFrame) (g : Going S) → IsAbout R p g.state → IsCalm R (step R p (ordered_entry o)) (run_calmly R p o g).state
  calm_after R p o g is =
      record {
        mode = is.mode;
        now = along-append R g.state.kept.base g.state.kept.entries (ordered_entry o) ∙ ap (λ (q : Point S). step R q (ordered_entry o)) is.now;
        place = last_longer R g.state.kept (ordered_entry o) ∙ ap (λ (n : ℕ). n + 1) is.place;
        base = is.base;
        orders = is.orders;
        slots = is.slots;
        pending = none_waits g.state (ordered_entry o) is.pending;
      }
