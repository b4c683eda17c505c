-- How the parts of a flow follow one another.
use Rattle.std.proofs.Common.{◌≡◌, ℕ, zero, suc, ◌+◌, List, [], ◌∷◌, ◌++◌, Some, None, refl, sym, ap, ◌∙◌, subst, append_assoc, append-nil, arith}
use Rattle.zy_base.specs.Machine.{Rules}
use Rattle.zy_world.specs.Flowing.{ComesTo, IsCutBy, IsCutOff, Passes, Stops, all_done}
use Rattle.zy_world.specs.declared.fault.WorldFault.{WorldFault}
use Rattle.zy_world.specs.declared.fault.WorldFault.TheVariants as faults
use Rattle.zy_world_law.specs.Events.{Broken, happens}
use Rattle.zy_world_law.specs.Events.Broken.{Forged, Clash}
use Rattle.zy_world_law.specs.Events.Happened.{Goes, Breaks}
use Rattle.zy_world_law.specs.Runs.{Rest, flow, flow_on, goes_on}
use Rattle.zy_world_law.specs.World.{World, next_undelivered}
use Rattle.zy_world_law.specs.declared.event.WorldEvent.TheVariants.{Deliver}
use Rattle.zy_world_law.specs.declared.note.Note.{Note}

notes_on : (a b c x y : List Note) → b ≡ a ++ x → c ≡ b ++ y → c ≡ a ++ (x ++ y)
notes_on a b c x y first second = second ∙ ap (λ (l : List Note). l ++ y) first ∙ append_assoc a x y

module _ {S : Type 0} where
  pub passes_none : (part : Rest S → Rest S) (g : World S) → Passes part g part g []
  passes_none part g = record { notes = λ rest. refl; end = λ rest. refl }

  -- what is left goes on
  passes_on : (part left next : Rest S → Rest S) (g v w : World S) (a b : List Note) → Passes part g left v a → Passes left v next w b → Passes part g next w (a ++ b)
  passes_on part left next g v w a b before after = record {
    notes = λ rest. before.notes rest ∙ ap (λ l. a ++ l) (after.notes rest) ∙ sym (append_assoc a b (next rest w).notes);
    end = λ rest. before.end rest ∙ after.end rest;
  }

  stops_on : (part left : Rest S → Rest S) (g v : World S) (a b : List Note) (broken : Broken) → Passes part g left v a → Stops left v b broken → Stops part g (a ++ b) broken
  stops_on part left g v a b broken before after = record {
    notes = λ rest. before.notes rest ∙ ap (λ l. a ++ l) (after.notes rest);
    end = λ rest. before.end rest ∙ after.end rest;
  }

  pub comes_none : (part : Rest S → Rest S) (g : World S) (a : List Note) (P : World S → Type 0) → P g → ComesTo part g part a a P
  comes_none part g a P is = record { world = g; told = []; is = is; passes = passes_none part g; notes = sym (append-nil a) }

  pub comes_on : (part left next : Rest S → Rest S) (g : World S) (a b c : List Note) (P Q : World S → Type 0) → ComesTo part g left a b P
      → ((v : World S) → P v → ComesTo left v next b c Q) → ComesTo part g next a c Q
  comes_on part left next g a b c P Q far more =
      let on = more far.world far.is in
      record {
        world = on.world;
        told = far.told ++ on.told;
        is = on.is;
        passes = passes_on part left next g far.world on.world far.told on.told far.passes on.passes;
        notes = notes_on a b c far.told on.told far.notes on.notes;
      }

  cut_by : (part left : Rest S → Rest S) (g : World S) (a b c : List Note) (P : World S → Type 0) (broken : Broken) → ComesTo part g left a b P
      → ((v : World S) → P v → IsCutBy left v b c broken) → IsCutBy part g a c broken
  cut_by part left g a b c P broken far more =
      let on = more far.world far.is in
      record {
        told = far.told ++ on.told;
        stops = stops_on part left g far.world far.told on.told broken far.passes on.stops;
        notes = notes_on a b c far.told on.told far.notes on.notes;
      }

  pub cut_on : (part left : Rest S → Rest S) (g : World S) (a b c : List Note) (P : World S → Type 0) (fault : WorldFault) → ComesTo part g left a b P
      → ((v : World S) → P v → IsCutOff left v b c fault) → IsCutOff part g a c fault
  cut_on part left g a b c P (faults.Forged by) far more = cut_by part left g a b c P (Forged by) far more
  cut_on part left g a b c P (faults.Clash digest) far more = cut_by part left g a b c P (Clash digest) far more
  cut_on part left g a b c P faults.Want far more = tt

  -- of what is left nothing is to be done
  pub comes_all : (part left : Rest S → Rest S) (g : World S) (a b : List Note) (P Q : World S → Type 0) → ComesTo part g left a b P
      → ((v : World S) → P v → Q v × ((rest : Rest S) → left rest v ≡ rest v)) → ComesTo part g all_done a b Q
  comes_all part left g a b P Q far ends =
      let last = ends far.world far.is in
      record {
        world = far.world;
        told = far.told;
        is = last.0;
        passes = record {
          notes = λ rest. far.passes.notes rest ∙ ap (λ r. far.told ++ r.notes) (last.1 rest);
          end = λ rest. far.passes.end rest ∙ ap (λ r. r.end) (last.1 rest);
        };
        notes = far.notes;
      }

  pub comes_so : (part left : Rest S → Rest S) (g : World S) (a b : List Note) (P Q : World S → Type 0) → ComesTo part g left a b P → ((v : World S) → P v → Q v) → ComesTo part g left a b Q
  comes_so part left g a b P Q far so = record { world = far.world; told = far.told; is = so far.world far.is; passes = far.passes; notes = far.notes }

  -- ---- one delivery

  pub delivers : (R : Rules S) (left : ℕ) (v w : World S) (number : ℕ) (note : Note) → next_undelivered v ≡ Some number → happens R v (Deliver number None) ≡ Goes w note
      → Passes (flow R (left + 1)) v (flow R left) w (note ∷ [])
  unfolding flow
  delivers R left v w number note next goes =
      let more : left + 1 ≡ suc left = omega arith in
      record {
        notes = λ rest. ap (λ n. (flow R n rest v).notes) more ∙ ap (λ o. (flow_on R v rest (flow R left rest) o).notes) next ∙ ap (λ h. (goes_on h (flow R left rest)).notes) goes;
        end = λ rest. ap (λ n. (flow R n rest v).end) more ∙ ap (λ o. (flow_on R v rest (flow R left rest) o).end) next ∙ ap (λ h. (goes_on h (flow R left rest)).end) goes;
      }

  pub breaks_off : (R : Rules S) (left : ℕ) (v : World S) (number : ℕ) (broken : Broken) → next_undelivered v ≡ Some number → happens R v (Deliver number None) ≡ Breaks broken
      → Stops (flow R (left + 1)) v [] broken
  unfolding flow
  breaks_off R left v number broken next breaks =
      let more : left + 1 ≡ suc left = omega arith in
      record {
        notes = λ rest. ap (λ n. (flow R n rest v).notes) more ∙ ap (λ o. (flow_on R v rest (flow R left rest) o).notes) next ∙ ap (λ h. (goes_on h (flow R left rest)).notes) breaks;
        end = λ rest. ap (λ n. (flow R n rest v).end) more ∙ ap (λ o. (flow_on R v rest (flow R left rest) o).end) next ∙ ap (λ h. (goes_on h (flow R left rest)).end) breaks;
      }

  -- where no frame is left, it does nothing
  pub flow_ends : (R : Rules S) (left : ℕ) (v : World S) → next_undelivered v ≡ None → (rest : Rest S) → flow R left rest v ≡ rest v
  unfolding flow
  flow_ends R zero v next rest = refl
  flow_ends R (suc left) v next rest = ap (flow_on R v rest (flow R left rest)) next

  pub flow_done : (R : Rules S) (left : ℕ) (v : World S) → left ≡ 0 → (rest : Rest S) → flow R left rest v ≡ rest v
  unfolding flow
  flow_done R left v done rest = ap (λ n. flow R n rest v) done

  -- ---- some deliveries, and those behind them

  pub batch_on : (R : Rules S) (count after left : ℕ) (v : World S) (next : Rest S → Rest S) (b c : List Note) (Q : World S → Type 0) → count + after ≡ left
      → ComesTo (flow R (count + after)) v next b c Q → ComesTo (flow R left) v next b c Q
  batch_on R count after left v next b c Q same comes = subst (λ (n : ℕ). ComesTo (flow R n) v next b c Q) same comes

  pub batch_cut : (R : Rules S) (count after left : ℕ) (v : World S) (b c : List Note) (fault : WorldFault) → count + after ≡ left → IsCutOff (flow R (count + after)) v b c fault → IsCutOff (flow R left) v b c fault
  batch_cut R count after left v b c fault same cut = subst (λ (n : ℕ). IsCutOff (flow R n) v b c fault) same cut

  -- ---- the whole of it

  pub passes_all : (part : Rest S → Rest S) (g : World S) (old new : List Note) (P : World S → Type 0) → old ≡ [] → ComesTo part g all_done old new P
      → (v : World S) × Passes part g all_done v new × P v
  passes_all part g old new P none far =
      let told : new ≡ far.told = far.notes ∙ ap (λ (l : List Note). l ++ far.told) none in (
        far.world,
        subst (λ (l : List Note). Passes part g all_done far.world l) (sym told) far.passes,
        far.is,
      )

  pub stops_at : (part : Rest S → Rest S) (g : World S) (old new all : List Note) (broken other : Broken) → old ≡ [] → IsCutBy part g old new broken → new ≡ all → broken ≡ other → Stops part g all other
  stops_at part g old new all broken other none cut noted same =
      let told : cut.told ≡ all = sym (cut.notes ∙ ap (λ (l : List Note). l ++ cut.told) none) ∙ noted in
      subst (λ (b : Broken). Stops part g all b) same (subst (λ (l : List Note). Stops part g l broken) told cut.stops)
