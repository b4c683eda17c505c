-- A tied replica's stable checkpoint is backed, and tells the head and the snapshot of its own history there.
use Rattle.std.proofs.Common.{◌≡◌, inl, inr, ℕ, ◌<◌, List, [], take, fold, refl, sym, ap, ◌∙◌, arith}
use Rattle.std.proofs.lemmas.Bool.{cases_eq}
use Rattle.zy_base.specs.Machine.{Rules}
use Rattle.zy_chain.specs.Heads.{empty_head}
use Rattle.zy_chain.specs.declared.entry.Entry.{Entry}
use Rattle.zy_law.proofs.ProvenStates.{proven_state}
use Rattle.zy_law.specs.Histories.{Passes}
use Rattle.zy_law.specs.Said.{IsBacked, Moment}
use Rattle.zy_law.specs.World.{World}
use Rattle.zy_law_normal.specs.Acts.{check_statement}
use Rattle.zy_law_normal.specs.Tied.{IsCheckpointOf, next_head, state_of}
use Rattle.zy_parts.specs.declared.statements.Check.{Check}
use Rattle.zy_table.specs.State.{State}
use Rattle.zy_law_views.proofs.Backing.{cert_backed}
use Rattle.zy_law_views.proofs.OwnReport.{own_base}
use Rattle.zy_law_views.proofs.ProvenReports.{check_cert, some_local}
use Rattle.zy_law_views.specs.Held.{mark_at}
use Rattle.zy_law_views.specs.Told.{check_told}
use Rattle.zy_law_views.specs.Cores.{core_of}
use Rattle.zy_law_views.specs.Rows.{IsReady}
use Rattle.zy_world_law.specs.Safe.{IsStableBacked}

module _ {S : Type 0} (R : Rules S) (interval : ℕ) (w : World) (r : ℕ) (s : State S) (h : List Entry) (ready : IsReady R interval w r s h) where
  abbrev stable : Check
  stable = s.board.stable

  passes : Passes w.next h (mark_at stable.place stable.head)
  passes = own_base R interval w ready.links r (core_of s) h ready.tied

  backed_later : 0 < stable.place.0 → IsBacked w w.counts.local (check_statement stable)
  backed_later some =
      let grounded = ready.tied.grounded in
      let proof = grounded.proven.later (λ none. omega (arith, none)) in
      cert_backed w check_told w.counts.local (check_statement stable) s.board.proof
      (check_cert w w.counts.local s.board.proof (stable.view, stable.place, stable.head) stable.state (some_local w) proof.certificate proof.state grounded.held)

  pub stable_backed : IsStableBacked w stable
  stable_backed = elim (cases_eq stable.place.0 0) [ inl none ↦ inl none | inr some ↦ inr (backed_later (omega (arith, some))) ]

  own_snapshot : 0 < stable.place.0 → w.state (take stable.place.0 h) ≡ stable.state
  own_snapshot some =
      let now : Moment w = record { by = r; correct = ready.correct; number = ready.tied.standing.number; stand = record { view = s.views.last_view.0; history = h }; stood = ready.tied.standing.stood } in
      proven_state w ready.lawful w.counts.local stable.view.0 (mark_at stable.place stable.head) stable.state now (backed_later some)
      (omega (arith, w.counts.sound.local_and_change, w.counts.sound.change_in_reach)) passes

  module _ (state : w.state ≡ state_of R) (next : w.next ≡ next_head) where
    snapshot : w.state (take stable.place.0 h) ≡ stable.state
    snapshot = elim (cases_eq stable.place.0 0) [
      | inl none ↦ ap (λ (n : ℕ). w.state (take n h)) none ∙ ap w.state (take-zero h) ∙ sym (ready.tied.grounded.empty none)
      | inr some ↦ own_snapshot (omega (arith, some))
    ]
      where
        take-zero : (l : List Entry) → take 0 l ≡ []
        take-zero l = refl

    pub stable_own : IsCheckpointOf R h stable
    stable_own =
        record {
          within = passes.within;
          head = ap (λ (f : _). fold f empty_head (take stable.place.0 h)) (sym next) ∙ passes.head;
          state = ap (λ (f : _). f (take stable.place.0 h)) (sym state) ∙ snapshot;
        }
