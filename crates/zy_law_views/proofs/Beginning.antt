-- A tied replica may stand in a later view with the history that the view's certificate confirms, and is tied then.
use Rattle.std.proofs.Common.{◌≡◌, ℕ, nat_le, Bool, true, false, cond, inr, List, length, fold, Option, Some, None, refl, sym, ap, ◌∙◌, subst, arith}
use Rattle.std.specs.Prelude.{slice_index_or}
use Rattle.std.proofs.lemmas.List.{take_all}
use Rattle.zy_base.specs.Machine.{Rules}
use Rattle.zy_chain.specs.Heads.{empty_head}
use Rattle.zy_chain.specs.Stretch.{Mark}
use Rattle.zy_chain.specs.declared.entry.Entry.{Entry}
use Rattle.zy_change.proofs.IndexLemmas.{read_map}
use Rattle.zy_change.specs.Views.{began_past, change_past}
use Rattle.zy_change.specs.declared.kept.Chosen.{Chosen}
use Rattle.zy_exec.specs.Kept.{Kept}
use Rattle.zy_law.proofs.HistoryLemmas.{mark_is}
use Rattle.zy_law.specs.Histories.{Passes, mark_of_all}
use Rattle.zy_law.specs.Lawful.{IsLawful}
use Rattle.zy_law.specs.Lists.{IsListOf}
use Rattle.zy_law.specs.Said.{IsBacked, IsCorrect}
use Rattle.zy_law.specs.Steps.{MayStand, after_standing}
use Rattle.zy_law.specs.World.{Stand, Statement, World}
use Rattle.zy_parts.specs.declared.reports.Began.{Began}
use Rattle.zy_parts.specs.declared.reports.Change.{Change}
use Rattle.zy_parts.specs.declared.signed.Signed.{Signed}
use Rattle.zy_parts.specs.declared.statements.Check.{Check}
use Rattle.zy_vframes.specs.declared.frame.ViewCert.{ViewCert}
use Rattle.zy_law_views.specs.Held.{mark_at}
use Rattle.zy_law_views.specs.Tied.{Core, IsBeginning, IsGrounded, IsTied, began_with}
use Rattle.zy_law_views.specs.Told.{began_told}
use Rattle.zy_law_views.proofs.Backing.{cert_backed}
use Rattle.zy_law_views.proofs.OwnReport.{last_below}
use Rattle.zy_law_views.proofs.ProvenReports.{began_cert}
use Rattle.zy_law_views.proofs.TiedGrown.{grounded_stood, hearing_stood, one_longer, parts_stood, stood_last}

-- what is kept past a view was kept before
change_before : (view : ℕ) (o : Option (Signed Change)) (q : Signed Change) → change_past view o ≡ Some q → o ≡ Some q
change_before view None q is = absurd cc
change_before view (Some c) q is = by (nat_le c.stmt.view.0 view) is
  where
    by : (told : Bool) → cond told None (Some c) ≡ Some q → Some c ≡ Some q
    by true is = absurd cc
    by false is = is

began_before : (view : ℕ) (o : Option (Signed Began)) (q : Signed Began) → began_past view o ≡ Some q → o ≡ Some q
began_before view None q is = absurd cc
began_before view (Some b) q is = by (nat_le b.stmt.view.0 view) is
  where
    by : (told : Bool) → cond told None (Some b) ≡ Some q → Some b ≡ Some q
    by true is = absurd cc
    by false is = is

-- the mark of a mark's list is the mark
pub list_mark : (w : World) (m : Mark) (list : List Entry) → IsListOf w m list → mark_of_all w.next list ≡ m
list_mark w m list is = mark_is (mark_of_all w.next list) m is.long is.head

pub list_passes : (w : World) (m : Mark) (list : List Entry) → IsListOf w m list → Passes w.next list m
list_passes w m list is =
    record {
      within = omega (arith, is.long);
      head = ap (λ (l : List Entry). fold w.next empty_head l) (take_all m.place list (omega (arith, is.long))) ∙ is.head;
    }

module _ {S : Type 0} (R : Rules S) (interval : ℕ) (w : World) (lawful : IsLawful w) (r : ℕ) (correct : IsCorrect w r) (c : Core S) (history : List Entry)
    (tied : IsTied R interval w r c history) (cert : ViewCert) (chosen : Chosen) (kept : Kept S) (next : List Entry) (is : IsBeginning R interval w c cert chosen kept next) where
  abbrev m : Mark
  m = mark_at chosen.place chosen.head

  abbrev stand : Stand
  stand = record { view = cert.new.stmt.view.0; history = next }

  view_backed : IsBacked w w.counts.cert (Statement.Began cert.new.stmt.view.0 m)
  view_backed =
      cert_backed w began_told w.counts.cert (Statement.Began cert.new.stmt.view.0 m) cert.begans
      (began_cert w w.counts.cert cert.begans (cert.new.stmt.view, chosen.place, chosen.head) is.begans.certificate is.begans.held)

  pub may_begin : MayStand w r stand
  may_begin =
      record {
        last = record { view = c.views.last_view.0; history = history };
        number = tied.standing.number;
        stood = tied.standing.stood;
        now = tied.standing.last;
        growth = inr is.later;
        asked_for = λ same. absurd (omega (arith, is.later, same));
        begun = λ less. subst (λ (k : Mark). IsBacked w w.counts.cert (Statement.Began cert.new.stmt.view.0 k)) (sym (list_mark w m next is.list)) view_backed;
        texts = is.list.texts;
        no_return = λ said x view report says what. omega (arith, tied.quiet.left said x view report says what, is.own);
        ordered = λ said x k request says what. absurd (omega (arith, tied.quiet.ordered said x cert.new.stmt.view.0 k request says what, is.later));
      }

  -- ---- and then

  module _ (stable : Check) (proof : List (Signed Check)) (grounded : IsGrounded interval w (began_with cert chosen kept stable proof c)) where
    abbrev begun : Core S
    begun = began_with cert chosen kept stable proof c

    pub tied_begun : IsTied R interval (after_standing w r stand) r begun next
    tied_begun =
        let heard = hearing_stood w r stand interval c.views tied.hearing in
        let low = last_below c.views.last_view.0 c.views.mode tied.quiet.ahead in
        record {
          spaced = tied.spaced;
          standing = record {
            me = tied.standing.me;
            counts = tied.standing.counts;
            number = length (w.past r);
            stood = stood_last w r stand;
            last = one_longer w r stand;
            stands = is.stands;
          };
          quiet = record {
            ahead = refl;
            gone = tt;
            left = λ number x view report says what. omega (arith, tied.quiet.left number x view report says what, is.own);
            confirmed = λ number x view k says what. omega (arith, tied.quiet.confirmed number x view k says what, is.own);
            once = λ number x k says what. tt;
            gave = λ number x view reports says what. omega (arith, tied.quiet.gave number x view reports says what, is.own);
            gave_once = λ number x reports says what. tt;
            voted = λ number x view k says vote. omega (arith, tied.quiet.voted number x view k says vote, is.later);
            ordered = λ number x view k request says what. omega (arith, tied.quiet.ordered number x view k request says what, is.later);
          };
          grounded = grounded_stood w r stand R interval begun grounded;
          begun = record {
            began = record { first = λ none. absurd (omega (arith, is.later, none)); later = λ some. is.begans.certificate };
            held = parts_stood w r stand began_told cert.begans is.begans.held;
            passes = list_passes w m next is.list;
            commit = tt;
            covered = λ number x k says vote. absurd (omega (arith, tied.quiet.voted number x cert.new.stmt.view.0 k says vote, is.later));
          };
          hearing = record {
            changes = λ id q at. heard.changes id q (change_before cert.new.stmt.view.0 (slice_index_or c.views.changes id None) q (sym (read_map (change_past cert.new.stmt.view.0) refl c.views.changes id) ∙ at));
            begans = λ id q at. heard.begans id q (began_before cert.new.stmt.view.0 (slice_index_or c.views.begans id None) q (sym (read_map (began_past cert.new.stmt.view.0) refl c.views.begans id) ∙ at));
            accepted = tt;
            waiting = tt;
          };
        }
