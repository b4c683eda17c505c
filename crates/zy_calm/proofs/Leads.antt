-- Runs that go on from a world once so much was told, unless an event isn't honest.
use Rattle.std.proofs.Common.{◌≡◌, ◌⊎◌, inl, inr, ℕ, zero, suc, List, [], ◌∷◌, ◌++◌, Some, None, refl, sym, ap, ◌∙◌, append_assoc}
use Rattle.zy_base.specs.Machine.{Rules}
use Rattle.zy_world_law.specs.Events.{Broken, Happened, happens}
use Rattle.zy_world_law.specs.Events.Happened.{Breaks, Goes}
use Rattle.zy_world_law.specs.Runs.{Rest, Run, flow, flow_on, goes_on}
use Rattle.zy_world_law.specs.Runs.End.{Stopped}
use Rattle.zy_world_law.specs.World.{World, next_undelivered}
use Rattle.zy_world_law.specs.declared.event.WorldEvent.TheVariants as events
use Rattle.zy_world_law.specs.declared.note.Note.{Note}

module _ {S : Type 0} where
  -- It comes to a world of which this holds, with these notes, and goes on from there.
  pub record GoesOn (r : Run S) (notes : List Note) (rest : Rest S) (Holds : World S → Type 0) : Type 0 where
    pub world : World S
    pub holds : Holds world
    pub told : r.notes ≡ notes ++ (rest world).notes
    pub ended : r.end ≡ (rest world).end

  abbrev pub Leads : Run S → List Note → Rest S → (World S → Type 0) → Type 0
  Leads r notes rest Holds = ((b : Broken) × (r.end ≡ Stopped b)) ⊎ GoesOn r notes rest Holds

  -- one part of a run after another
  pub joined : (r : Run S) (first second : List Note) (middle rest : Rest S) (Before After : World S → Type 0) → Leads r first middle Before
      → ((w : World S) → Before w → Leads (middle w) second rest After) → Leads r (first ++ second) rest After
  joined r first second middle rest Before After (inl broken) next = inl broken
  joined r first second middle rest Before After (inr on) next = go (next on.world on.holds)
    where
      go : Leads (middle on.world) second rest After → Leads r (first ++ second) rest After
      go (inl broken) = inl (broken.0, on.ended ∙ broken.1)
      go (inr more) = inr (record {
        world = more.world;
        holds = more.holds;
        told = on.told ∙ ap (λ (l : List Note). first ++ l) more.told ∙ sym (append_assoc first second (rest more.world).notes);
        ended = on.ended ∙ more.ended;
      })

  -- a run that goes on at once
  pub already : (w : World S) (rest : Rest S) (Holds : World S → Type 0) → Holds w → Leads (rest w) [] rest Holds
  already w rest Holds holds = inr (record { world = w; holds = holds; told = refl; ended = refl })

  pub same_run : (r q : Run S) (notes : List Note) (rest : Rest S) (Holds : World S → Type 0) → r ≡ q → Leads q notes rest Holds → Leads r notes rest Holds
  same_run r q notes rest Holds same (inl broken) = inl (broken.0, ap (λ (x : Run S). x.end) same ∙ broken.1)
  same_run r q notes rest Holds same (inr on) =
      inr (record { world = on.world; holds = on.holds; told = ap (λ (x : Run S). x.notes) same ∙ on.told; ended = ap (λ (x : Run S). x.end) same ∙ on.ended })

  -- ---- one event

  -- it isn't honest, or it is told so and leads to a world of which this holds
  pub record Comes (h : Happened S) (note : Note) (Holds : World S → Type 0) : Type 0 where
    pub world : World S
    pub goes : h ≡ Goes world note
    pub holds : Holds world

  abbrev pub MayCome : Happened S → Note → (World S → Type 0) → Type 0
  MayCome h note Holds = ((b : Broken) × (h ≡ Breaks b)) ⊎ Comes h note Holds

  pub weaken : {h : Happened S} {note : Note} {First Second : World S → Type 0} → MayCome h note First → ((w : World S) → First w → Second w) → MayCome h note Second
  weaken (inl broken) more = inl broken
  weaken (inr comes) more = inr (record { world = comes.world; goes = comes.goes; holds = more comes.world comes.holds })

  pub one_event : (h : Happened S) (note : Note) (rest : Rest S) (Holds : World S → Type 0) → MayCome h note Holds → Leads (goes_on h rest) (note ∷ []) rest Holds
  one_event h note rest Holds (inl broken) = inl (broken.0, ap (λ (x : Happened S). (goes_on x rest).end) broken.1)
  one_event h note rest Holds (inr comes) =
      inr (record { world = comes.world; holds = comes.holds; told = ap (λ (x : Happened S). (goes_on x rest).notes) comes.goes; ended = ap (λ (x : Happened S). (goes_on x rest).end) comes.goes })

  -- ---- flows

  pub flow_step : (R : Rules S) (n : ℕ) (rest : Rest S) (w : World S) (number : ℕ) → next_undelivered w ≡ Some number → flow R (suc n) rest w ≡ goes_on (happens R w (events.Deliver number None)) (flow R n rest)
  unfolding flow
  flow_step R n rest w number is = ap (flow_on R w rest (flow R n rest)) is

  pub flow_ends : (R : Rules S) (n : ℕ) (rest : Rest S) (w : World S) → next_undelivered w ≡ None → flow R n rest w ≡ rest w
  unfolding flow
  flow_ends R zero rest w none = refl
  flow_ends R (suc n) rest w none = ap (flow_on R w rest (flow R n rest)) none

  -- a flow that finds nothing more to deliver ends
  pub flowed_out : (R : Rules S) (n : ℕ) (rest : Rest S) (r : Run S) (notes : List Note) (Holds : World S → Type 0) → ((w : World S) → Holds w → next_undelivered w ≡ None) → Leads r notes (flow R n rest) Holds → Leads r notes rest Holds
  flowed_out R n rest r notes Holds none (inl broken) = inl broken
  flowed_out R n rest r notes Holds none (inr on) =
      let same : flow R n rest on.world ≡ rest on.world = flow_ends R n rest on.world (none on.world on.holds) in
      inr (record { world = on.world; holds = on.holds; told = on.told ∙ ap (λ (q : Run S). notes ++ q.notes) same; ended = on.ended ∙ ap (λ (q : Run S). q.end) same })
