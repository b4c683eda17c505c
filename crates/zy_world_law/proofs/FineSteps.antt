-- The step of a correct replica by an honest event is fine, where its texts are kept; and so is one by an event that is nothing to it.
use Rattle.std.proofs.Common.{◌≡◌, ◌⊎◌, inl, inr, ℕ, List, Some, refl, sym, ap, ◌∙◌, subst}
use Rattle.std.specs.List.{AllByRecursion}
use Rattle.zy_base.specs.Machine.{Rules}
use Rattle.zy_base.specs.declared.step.Event.{Event}
use Rattle.zy_chain.specs.declared.entry.Entry.{Entry}
use Rattle.zy_law_normal.specs.Acts.{stands_in}
use Rattle.zy_law_steps.specs.Whole as whole
use Rattle.zy_law_steps.specs.Whole.{IsEventHonest}
use Rattle.zy_law_steps.specs.Spelled.{FitAll, IsSpelled}
use Rattle.zy_table.specs.Deeds.{Outcome}
use Rattle.zy_table.specs.State.{State, own_view}
use Rattle.zy_table.specs.Whole.{whole_step}
use Rattle.zy_table.specs.declared.deeds.Act.{Act}
use Rattle.zy_world_law.specs.Events.{history_of}
use Rattle.zy_world_law.specs.Good.{IsGood, IsKept}
use Rattle.zy_world_law.specs.Seen.{seen}
use Rattle.zy_world_law.specs.Texts.{step_texts}
use Rattle.zy_world_law.specs.World.{Replica, World, replica_at}
use Rattle.zy_world_law.proofs.GainsKept.{gains_kept}
use Rattle.zy_law_views.proofs.IdleFrames.{IsIdle}
use Rattle.zy_world_law.proofs.IdleSteps.{idle_lawful}
use Rattle.zy_world_law.proofs.ReplicaStep.{IsFineStep}
use Rattle.zy_world_law.proofs.StepLaws.{MayStep, StepLaws}

module _ {S : Type 0} (R : Rules S) (laws : StepLaws R) (w : World S) (good : IsGood R w) (id : ℕ) (x : Replica S) (at : replica_at w id ≡ Some x) (event : Event) where
  abbrev o : Outcome S
  o = whole_step R x.state event

  -- from which history it goes on
  pub record IsFine : Type 0 where
    pub history : List Entry
    pub step : IsFineStep R w id x event history o

  honest_fine : IsEventHonest (seen R w) w.texts x.state event → AllByRecursion (IsKept w.texts) (step_texts o.deeds.acts) → IsFine
  honest_fine honest kept =
      let tie = good.tied id x at in
      let h = history_of x.past in
      let may : MayStep R w.setup.interval id w.texts (seen R w) x.state h event = record { ready = tie.ready; world = good.kept; works = tie.works; honest = honest } in
      let gains = gains_kept R w o.deeds.acts (laws.gained w.setup.interval id w.texts (seen R w) x.state h event may) kept in
      let spelled = laws.spelled w.setup.interval id w.texts (seen R w) x.state h event may gains tie.spelled in
      record {
        history = whole.history_of w.texts x.state h event o;
        step = record {
          lawful = laws.lawful w.setup.interval id w.texts (seen R w) x.state h event may gains;
          fit = spelled.0;
          spelled = spelled.1;
          keys = laws.same_keys x.state event;
          stands = refl;
        };
      }

  idle_fine : IsIdle x.state o → IsFine
  idle_fine idle =
      let tie = good.tied id x at in
      let h = history_of x.past in
      record {
        history = h;
        step = record {
          lawful = idle_lawful R w.setup.interval w.texts (seen R w) id x.state h tie.ready good.kept o idle;
          fit = subst (λ (acts : List Act). FitAll acts) (sym idle.acts) tt;
          spelled = subst (λ (s : State S). IsSpelled s) (sym idle.state) tie.spelled;
          keys = ap (λ (s : State S). s.keys) idle.state;
          stands = ap (stands_in (own_view x.state) (whole.history_of w.texts x.state h event o)) idle.acts ∙ ap (stands_in (own_view x.state) h) (sym idle.acts);
        };
      }

  pub step_fine : IsEventHonest (seen R w) w.texts x.state event ⊎ IsIdle x.state o → AllByRecursion (IsKept w.texts) (step_texts o.deeds.acts) → IsFine
  step_fine (inl honest) kept = honest_fine honest kept
  step_fine (inr idle) kept = idle_fine idle
