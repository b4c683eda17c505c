use Rattle.std.specs.Prelude.{map}
use Rattle.zy_evidence.specs.Reading.{read}
use Rattle.zy_law_views.specs.Held.{mark_at}
use Rattle.zy_law_views.proofs.HonestTexts.{changes_held}
use Rattle.zy_law_views.proofs.LawfulChoice.{chosen_is, lawful_choice, never_clashes}
use Rattle.zy_law_views.proofs.ProvenReports.{new_valid}
use Rattle.zy_law_views.proofs.honest.honest_news.Goals as goal

pub returns : goal.returns
returns c =
    record {
      held = changes_held;
      valid = new_valid;
      chosen = λ w interval provider place head n lawful links is told. chosen_is w lawful links interval n is provider place head told;
      start = λ w interval provider place head n lawful links is told.
          record {
            reports = map read n.changes;
            valid = new_valid w interval n is;
            choice = lawful_choice w lawful links interval n is provider (mark_at place head) (chosen_is w lawful links interval n is provider place head told);
          };
      no_clash = λ w interval first second n lawful links is told. never_clashes w lawful links interval n is first second told;
    }
