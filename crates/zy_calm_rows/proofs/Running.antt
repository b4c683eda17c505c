-- A calm replica runs an order: no checkpoint is due, and none is held behind it.
use Rattle.std.proofs.Common.{◌≡◌, ℕ, ◌+◌, ◌-◌, ◌%◌, ◌<◌, ◌≤◌, Bool, true, false, ◌||◌, List, [], ◌∷◌, length, take, Option, Some, None, refl, ap, ◌∙◌, arith}
use Rattle.std.proofs.Math.Nat.{mod-eq_of_lt}
use Rattle.std.proofs.lemmas.Bool.{ne_eqb}
use Rattle.std.proofs.lemmas.List.{drop_all, take_all, length-append}
use Rattle.std.specs.Prelude.{nat_eq, nat_lt, option_map, if◌then◌else◌}
use Rattle.zy_admit.specs.Judging.{ordered_entry}
use Rattle.zy_admit.specs.Orders.{slots_above}
use Rattle.zy_base.specs.Machine.{Rules}
use Rattle.zy_base.specs.declared.ids.Digest.{Digest}
use Rattle.zy_chain.specs.Answers.{Answers}
use Rattle.zy_chain.specs.declared.entry.Entry.{Entry}
use Rattle.zy_exec.proofs.ReplayLemmas.{place-along}
use Rattle.zy_exec.specs.Kept.{Kept, longer, last_place, now_of}
use Rattle.zy_exec.specs.Replay.{Point, along, known_of}
use Rattle.zy_exec.specs.Shots.{digest_of_snapshot, snapshot_due}
use Rattle.zy_exec.specs.Snapshot.{snapshot_of}
use Rattle.zy_frames.specs.declared.frame.OrderFrame.{OrderFrame}
use Rattle.zy_parts.specs.declared.signed.Signed.{Signed}
use Rattle.zy_parts.specs.declared.statements.Spec.{Spec}
use Rattle.zy_table.specs.Deeds.{Going}
use Rattle.zy_table.specs.Gathering.{signs_with, state_in}
use Rattle.zy_table.specs.Running.{answered, executed, next_known, respond, run, run_held, run_one, sealed_spec, share, signs_of, spec_of}
use Rattle.zy_table.specs.State.{State, own_view}
use Rattle.zy_calm_rows.specs.Outcomes.{calm_spec, run_calmly}

module _ {S : Type 0} (R : Rules S) where
  -- ---- no checkpoint is due between two multiples of the interval

  not_due : (interval : ℕ) (q : Point S) → 0 < q.place → q.place < interval → snapshot_due R interval q ≡ None
  not_due interval q above below =
      let rest : q.place % interval ≡ q.place = mod-eq_of_lt below in
      let some : nat_eq (q.place % interval) 0 ≡ false = ne_eqb (q.place % interval) 0 (λ is. omega arith) in
      ap (λ (b : Bool). if b then Some (snapshot_of R q) else None) some

  either : (b : Bool) (o : Option (List ℕ)) → o ≡ None → option_map digest_of_snapshot (if b then None else o) ≡ None
  either true o is = refl
  either false o is = ap (option_map digest_of_snapshot) is

  -- so of the last place of a history that is kept from the first entry on
  pub none_due : (k : Kept S) (place : ℕ) → k.base.place ≡ 0 → last_place k ≡ place → 0 < place → place < k.interval → state_in R k place ≡ None
  none_due k place base last above below =
      let n : ℕ = place - k.base.place in
      let long : length (take n k.entries) ≡ length k.entries = ap length (take_all n k.entries (omega arith)) in
      let there : (along R k.base (take n k.entries)).place ≡ k.base.place + length (take n k.entries) = place-along R k.base (take n k.entries) in
      either (nat_lt place k.base.place || nat_lt (last_place k) place) _ (not_due k.interval (along R k.base (take n k.entries)) (omega arith) (omega arith))

  pub last_longer : (k : Kept S) (e : Entry) → last_place (longer k e) ≡ last_place k + 1
  last_longer k e = omega (arith, length-append k.entries (e ∷ []))

  -- ---- an order behind which none is held

  pub run_alone : (o : OrderFrame) (g : Going S) → g.state.orders.base ≡ 0 → length g.state.orders.slots ≤ last_place g.state.kept + 1 → run R o g ≡ run_one R o g
  unfolding run_held
  run_alone o g base few =
      let none : slots_above (last_place g.state.kept + 1) g.state.orders ≡ [] = drop_all (last_place g.state.kept + 1 - g.state.orders.base) g.state.orders.slots (omega arith) in
      ap (λ (slots : List (Option OrderFrame)). run_held R slots (run_one R o g)) none

  -- where no checkpoint is due it is executed and answered, and no more
  pub run_one_calmly : (p : Point S) (o : OrderFrame) (g : Going S) → own_view g.state ≡ 0 → now_of R g.state.kept ≡ p
      → state_in R (longer g.state.kept (ordered_entry o)) (p.place + 1) ≡ None → run_one R o g ≡ run_calmly R p o g
  unfolding run_one
  run_one_calmly p o g view now none =
      let e : Entry = ordered_entry o in
      let after : Going S = executed R e g in
      let reply : Answers = (known_of R p e).reply in
      let signed : Signed Spec = sealed_spec after.state (calm_spec R p e) in
      ap (λ (v : ℕ). answered R o.order (spec_of v e (next_known R g.state e)) (next_known R g.state e).reply after) view
      ∙ ap (λ (q : Point S). answered R o.order (spec_of 0 e (known_of R q e)) (known_of R q e).reply after) now
      ∙ ap (λ (d : Option Digest). share R o.order signed reply d (respond R o.order signed reply after)) none

  -- and signs one statement
  pub one_sign : (p : Point S) (s : State S) (e : Entry) → now_of R s.kept ≡ p → state_in R (longer s.kept e) (p.place + 1) ≡ None → signs_of R s e ≡ 1
  one_sign p s e now none =
      ap (λ (q : Point S). signs_with s (spec_of (own_view s) e (known_of R q e)) (state_in R (longer s.kept e) (q.place + 1))) now
      ∙ ap (λ (d : Option Digest). signs_with s (spec_of (own_view s) e (known_of R p e)) d) none
