-- The world's texts stay so, as a replica says more, or stands elsewhere with a history whose texts are kept.
use Rattle.std.proofs.Common.{ℕ, List, ap}
use Rattle.zy_base.specs.Machine.{Rules}
use Rattle.zy_chain.specs.declared.entry.Entry.{Entry}
use Rattle.zy_law.proofs.GrownLemmas.{each_item}
use Rattle.zy_law.specs.Said.{IsCorrect, Moment}
use Rattle.zy_law.specs.Steps.{after_standing, grown}
use Rattle.zy_law.specs.World.{Spoken, Stand, World}
use Rattle.zy_law_normal.specs.Tied.{Agrees}
use Rattle.zy_law_views.specs.Adopted.{IsHistoryKept, Matches}
use Rattle.zy_law_views.specs.Texts.{Texts}
use Rattle.zy_law_views.specs.Steps.{IsWorldOf}

module _ {S : Type 0} (R : Rules S) where
  pub matching : (w : World) → Agrees R w → Matches R w
  matching w agrees = record { next = agrees.next; state = λ history. ap (λ (f : List Entry → _). f history) agrees.state }

  module _ (interval : ℕ) (w : World) (texts : Texts) (is : IsWorldOf R interval w texts) where
    pub world_said : (said : ℕ → List Spoken) → IsWorldOf R interval (grown w w.asked said w.past w.kept) texts
    world_said said =
        record {
          agrees = record { next = is.agrees.next; digest = is.agrees.digest; reply = is.agrees.reply; state = is.agrees.state };
          kept = record {
            links = is.kept.links;
            histories = λ t.
                let was : Moment w = record { by = t.by; correct = record { within = t.correct.within; honest = t.correct.honest }; number = t.number; stand = t.stand; stood = t.stood } in
                is.kept.histories was;
          };
        }

    pub world_stood : (r : ℕ) (b : Stand) → IsHistoryKept R interval texts b.history → IsWorldOf R interval (after_standing w r b) texts
    world_stood r b kept =
        record {
          agrees = record { next = is.agrees.next; digest = is.agrees.digest; reply = is.agrees.reply; state = is.agrees.state };
          kept = record {
            links = is.kept.links;
            histories = λ t.
                each_item w.past r b (λ q i d. IsCorrect w q → IsHistoryKept R interval texts d.history)
                (λ q i d at correct. let was : Moment w = record { by = q; correct = correct; number = i; stand = d; stood = at } in is.kept.histories was)
                (λ correct. kept) t.by t.number t.stand t.stood (record { within = t.correct.within; honest = t.correct.honest });
          };
        }
