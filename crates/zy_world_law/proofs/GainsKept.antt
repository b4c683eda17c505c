-- What a step gains is kept, where its texts are.
use Rattle.std.proofs.Common.{List, [], ◌∷◌, ◌++◌, ℕ, Option, Some, None, subst}
use Rattle.std.specs.Prelude.{IfSome}
use Rattle.std.specs.List.{AllByRecursion, flat_map}
use Rattle.std.proofs.lemmas.List.Concat.{flat_map-cons}
use Rattle.zy_base.specs.Machine.{Rules}
use Rattle.zy_law_normal.proofs.Goes.{all_of_front, all_of_rest}
use Rattle.zy_law_normal.specs.Tied.{IsGained}
use Rattle.zy_law_steps.specs.Gains.{AreGainsKept, IsGainKept}
use Rattle.zy_table.specs.Deeds.{gains_in}
use Rattle.zy_table.specs.declared.deeds.Act.{Act}
use Rattle.zy_table.specs.declared.deeds.Got.{Got}
use Rattle.zy_world_law.specs.Good.{IsKept}
use Rattle.zy_world_law.specs.Seen.{seen}
use Rattle.zy_world_law.specs.Texts.{got_texts, snapshot_texts, step_texts}
use Rattle.zy_world_law.specs.World.{World}
use Rattle.zy_world_law.proofs.OneText.{link_is}

module _ {S : Type 0} (R : Rules S) (w : World S) where
  snapshot_kept : (o : Option (List ℕ)) → AllByRecursion (IsKept w.texts) (snapshot_texts o) → IfSome o (IsKept w.texts)
  snapshot_kept None all = tt
  snapshot_kept (Some snapshot) all = all.0

  each_kept : (gots : List Got) → AllByRecursion (IsGained (seen R w)) gots → AllByRecursion (IsKept w.texts) (flat_map got_texts gots) → AllByRecursion (IsGainKept (seen R w) w.texts) gots
  each_kept [] gained all = tt
  each_kept (got ∷ gots) gained all =
      let apart : AllByRecursion (IsKept w.texts) (got_texts got ++ flat_map got_texts gots) = subst (λ (l : List (List ℕ)). AllByRecursion (IsKept w.texts) l) (flat_map-cons got_texts got gots) all in
      let own = all_of_front (IsKept w.texts) (got_texts got) (flat_map got_texts gots) apart in
      let run = gained.0.run in (
        record {
          link = link_is w.texts got.before got.entry (record { runnable = record { client = run.client; in_range = run.range }; entry = own.0; link = own.1.0 });
          reply = own.1.1.0;
          snapshot = snapshot_kept got.snapshot own.1.1.1;
        },
        each_kept gots gained.1 (all_of_rest (IsKept w.texts) (got_texts got) (flat_map got_texts gots) apart),
      )

  pub gains_kept : (acts : List Act) → AllByRecursion (IsGained (seen R w)) (gains_in acts) → AllByRecursion (IsKept w.texts) (step_texts acts) → AreGainsKept (seen R w) w.texts acts
  gains_kept acts gained all = each_kept (gains_in acts) gained all
