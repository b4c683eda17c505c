-- What stays as a view above the own one is left for.
use Rattle.std.proofs.Common.{◌≡◌, ℕ, ◌+◌, ◌≤◌, nat_lt, Bool, true, false, if◌then◌else◌, List, refl, ap, arith}
use Rattle.std.specs.Prelude.{find}
use Rattle.std.proofs.lemmas.Bool.{cond_both}
use Rattle.zy_base.specs.Machine.{Rules}
use Rattle.zy_base.specs.declared.ids.View.{View}
use Rattle.zy_parts.specs.declared.reports.Fetch.{Fetch}
use Rattle.zy_parts.specs.declared.signed.Signed.{Signed}
use Rattle.zy_cert.specs.Equal.{same_fetch}
use Rattle.zy_table.specs.State.{State, signs_left, own_view}
use Rattle.zy_table.specs.Deeds.{Going}
use Rattle.zy_table.specs.Leaving.{leave_alone}
use Rattle.zy_table.specs.Beginning.{arrive}

module _ {S : Type 0} (R : Rules S) (view : View) (g : Going S) where
  stays : {A : Type 0} (f : State S → A) → f (leave_alone R view g).state ≡ f g.state → f (arrive R view g).state ≡ f g.state
  stays f same = cond_both (nat_lt (own_view g.state) view.0) (leave_alone R view g) g (λ (h : Going S). f h.state ≡ f g.state) (λ above. same) (λ below. refl)

  pub arrived_group : (arrive R view g).state.views.counts ≡ g.state.views.counts
  unfolding leave_alone
  arrived_group = stays (λ s. s.views.counts) refl

  pub arrived_interval : (arrive R view g).state.views.interval ≡ g.state.views.interval
  unfolding leave_alone
  arrived_interval = stays (λ s. s.views.interval) refl

  pub arrived_fetches : (arrive R view g).state.fetches ≡ g.state.fetches
  unfolding leave_alone
  arrived_fetches = stays (λ s. s.fetches) refl

  -- a leave spends a signature
  pub arrived_left : (more : ℕ) → (if nat_lt (own_view g.state) view.0 then 1 else 0) + more ≤ signs_left g.state → more ≤ signs_left (arrive R view g).state
  unfolding leave_alone
  arrived_left more enough = by (nat_lt (own_view g.state) view.0) enough
    where
      by : (b : Bool) → (if b then 1 else 0) + more ≤ signs_left g.state → more ≤ signs_left (if b then leave_alone R view g else g).state
      by true enough = omega (arith, enough)
      by false enough = omega (arith, enough)

-- what was said is found among the same fetches
pub find_said : (a b : List (Signed Fetch)) (want : Fetch) → a ≡ b → find (λ said. same_fetch said.stmt want) a ≡ find (λ said. same_fetch said.stmt want) b
find_said a b want same = ap (λ (l : List (Signed Fetch)). find (λ said. same_fetch said.stmt want) l) same
