-- What a replica keeps that begins a view is where a proven checkpoint is: its own one, or the provider's.
use Rattle.std.proofs.Common.{◌≡◌, ℕ, ◌<◌, ◌≤◌, List, ap, ◌∙◌, arith}
use Rattle.zy_base.specs.Machine.{Rules}
use Rattle.zy_base.specs.declared.ids.View.{View}
use Rattle.zy_chain.specs.Stretch.{Mark}
use Rattle.zy_chain.specs.declared.entry.Entry.{Entry}
use Rattle.zy_change.specs.declared.kept.Chosen.{Chosen}
use Rattle.zy_choose.specs.Marks.{link}
use Rattle.zy_exec.specs.Kept.{Kept}
use Rattle.zy_law.proofs.QuorumLemmas.{All_at}
use Rattle.zy_law.specs.Lawful.{IsLawful}
use Rattle.zy_law.specs.World.{World}
use Rattle.zy_parts.specs.declared.reports.Change.{Change}
use Rattle.zy_parts.specs.declared.signed.Signed.{Signed}
use Rattle.zy_vframes.specs.declared.frame.ViewCert.{ViewCert}
use Rattle.zy_law_views.specs.Held.{IsProvidedBy, mark_at}
use Rattle.zy_law_views.specs.Texts.{AreLinks, Texts}
use Rattle.zy_law_views.specs.Tied.{Core, IsBeginning, IsGrounded, began_with, check_in}
use Rattle.zy_law_views.proofs.AdoptedLists.{provider_formed, provider_held}
use Rattle.zy_law_views.proofs.RunningOn.{end_in_range, entries_of_clients, few_entries}

module _ {S : Type 0} (R : Rules S) (interval : ℕ) (w : World) (lawful : IsLawful w) (links : w.next ≡ link) (texts : Texts) (known : AreLinks w texts) (c : Core S) (cert : ViewCert) (chosen : Chosen)
    (k : Kept S) (list : List Entry) (is : IsBeginning R interval w c cert chosen k list) (p : Signed Change) (given : IsProvidedBy w interval cert.new.stmt (mark_at chosen.place chosen.head) p) where
  abbrev m : Mark
  m = mark_at chosen.place chosen.head

  -- its own stable checkpoint, above the report's
  pub grounded_own : IsGrounded interval w c → k.base.place ≡ c.kept.base.place → k.base.head ≡ c.kept.base.head → p.stmt.told.stable_place.0 ≤ k.base.place
      → IsGrounded interval w (began_with cert chosen k c.stable c.proof c)
  grounded_own own place head above =
      let proven = own.proven in
      record {
        place = place ∙ own.place;
        head = head ∙ own.head;
        view = omega (arith, own.view, is.later);
        multiple = own.multiple;
        proven = record {
          first = λ none. let first = proven.first none in record { view = first.view; head = first.head; unproven = first.unproven };
          later = λ some. let later = proven.later some in record { certificate = later.certificate; state = later.state };
        };
        empty = own.empty;
        held = own.held;
        few = few_entries w lawful links interval cert.new.stmt m p given R texts known k list is.list is.stands above;
        clients = entries_of_clients w lawful links interval cert.new.stmt m p given R texts known k list is.list is.stands above;
        end = end_in_range w lawful links interval cert.new.stmt m p given R texts known k list is.list is.stands above;
      }

  -- the report's
  pub grounded_given : 0 < p.stmt.told.stable_place.0 → k.base.place ≡ p.stmt.told.stable_place.0 → k.base.head ≡ p.stmt.told.stable_head
      → IsGrounded interval w (began_with cert chosen k (check_in p.stmt.told) p.stmt.told.checks c)
  grounded_given some place head =
      let formed = provider_formed w lawful links interval cert.new.stmt m p given in
      let proven = formed.stable in
      let of_view : p.stmt.view ≡ cert.new.stmt.view = All_at (λ x. x.stmt.view ≡ cert.new.stmt.view) cert.new.stmt.changes given.provider p given.there given.proper.of_view in
      record {
        place = place;
        head = head;
        view = omega (arith, formed.itself.stable.view, formed.last, ap (λ (v : View). v.0) of_view);
        multiple = formed.itself.stable.multiple;
        proven = record {
          first = λ none. let first = proven.first none in record { view = first.view; head = first.head; unproven = first.unproven };
          later = λ some. let later = proven.later some in record { certificate = later.certificate; state = later.state };
        };
        empty = λ none. absurd (omega (arith, some, none));
        held = (provider_held w lawful links interval cert.new.stmt m p given).proofs.checks;
        few = few_entries w lawful links interval cert.new.stmt m p given R texts known k list is.list is.stands (omega (arith, place));
        clients = entries_of_clients w lawful links interval cert.new.stmt m p given R texts known k list is.list is.stands (omega (arith, place));
        end = end_in_range w lawful links interval cert.new.stmt m p given R texts known k list is.list is.stands (omega (arith, place));
      }
