-- A tied replica that leaves for a view of which it is the primary, and accepted no new view for it, may give a proper one, and is tied
-- then, with what it gave as what it accepted.
use Rattle.std.proofs.Common.{◌≡◌, ℕ, ◌%◌, ◌≤◌, false, List, map, Some, refl, sym, ap, ◌∙◌, subst, arith}
use Rattle.zy_base.specs.Machine.{Rules}
use Rattle.zy_base.specs.Step.{view_of}
use Rattle.zy_base.specs.declared.step.Mode.{Mode}
use Rattle.zy_base.specs.declared.step.Mode.TheVariants.{Leaving}
use Rattle.zy_chain.specs.Stretch.{Mark}
use Rattle.zy_chain.specs.declared.entry.Entry.{Entry}
use Rattle.zy_change.specs.Views.{is_accepted, own_view}
use Rattle.zy_change.specs.declared.kept.Accepted.{Accepted}
use Rattle.zy_choose.specs.Marks.{link}
use Rattle.zy_choose.specs.Reports.{PlainReport}
use Rattle.zy_evidence.specs.Reading.{read}
use Rattle.zy_law.specs.Lawful.{IsLawful, IsVote}
use Rattle.zy_law.specs.Said.{IsCorrect, Says}
use Rattle.zy_law.specs.Steps.{MaySay, after_saying}
use Rattle.zy_law.specs.World.{Spoken, Statement, World}
use Rattle.zy_law_views.specs.Tied.{Core, IsChosenNew, IsGivenAs, IsKeptNew, IsTied, given_with, said_now}
use Rattle.zy_law_views.specs.Told.{new_told}
use Rattle.zy_law_views.proofs.Confirming.{none_confirmed, none_given}
use Rattle.zy_law_views.proofs.ProvenReports.{new_valid, reports_in_order}
use Rattle.zy_law_views.proofs.TiedGrown.{begun_said, chosen_said, gone_said, grounded_said, hearing_said, own_said, standing_said}

module _ {S : Type 0} (R : Rules S) (interval : ℕ) (w : World) (lawful : IsLawful w) (links : w.next ≡ link) (r : ℕ) (correct : IsCorrect w r) (c : Core S) (history : List Entry)
    (tied : IsTied R interval w r c history) (a : Accepted) (leaving : c.views.mode ≡ Leaving a.new.stmt.view) (none : is_accepted a.new.stmt.view.0 c.views.accepted ≡ false)
    (leads : a.new.stmt.view.0 % w.counts.n ≡ r) (is : IsChosenNew interval w a.new.stmt a.chosen) where
  abbrev give : Spoken
  give = said_now w r (new_told a.new.stmt)

  in_view : own_view c.views ≡ a.new.stmt.view.0
  in_view = ap (λ (mode : Mode). (view_of mode).0) leaving

  pub may_give : MaySay w r give
  may_give =
      record {
        now = omega (arith, tied.standing.last);
        silence = λ number y other spoken report says what seen. absurd cc;
        told = record {
          primary = leads;
          formed = record { valid = new_valid w interval a.new.stmt is.proper; in_order = reports_in_order w links interval tied.spaced a.new.stmt is.proper };
          first = none_given R interval w r c history tied a leaving none;
        };
      }

  -- ---- and then

  abbrev after : World
  after = after_saying w r give

  -- still nothing is confirmed of the view, and nothing is given for it but this
  pub unconfirmed : (number : ℕ) (y : Spoken) (k : Mark) → Says after r number y → y.what ≡ Statement.Began a.new.stmt.view.0 k → ⊥
  unconfirmed number y k says what =
      own_said w r give (λ z. z.what ≡ Statement.Began a.new.stmt.view.0 k → ⊥) (λ i z at is. none_confirmed R interval w r c history tied a leaving none i z k at is) (λ is. cc) number y says what

  pub given_this : (number : ℕ) (y : Spoken) (reports : List PlainReport) → Says after r number y → y.what ≡ Statement.New a.new.stmt.view.0 reports → IsKeptNew (Some a) a.new.stmt.view.0 reports
  given_this number y reports says what =
      own_said w r give (λ z. z.what ≡ Statement.New a.new.stmt.view.0 reports → IsKeptNew (Some a) a.new.stmt.view.0 reports)
      (λ i z at is. absurd (none_given R interval w r c history tied a leaving none i z reports at is))
      (λ is. let same : map read a.new.stmt.changes ≡ reports = cc in record { own = a; is = refl; of_view = refl; reports_are = same })
      number y says what

  given_as : (reports : List PlainReport) → IsKeptNew (Some a) a.new.stmt.view.0 reports → IsGivenAs c.views.mode (Some a) reports
  given_as reports kept = subst (λ (mode : Mode). IsGivenAs mode (Some a) reports) (sym leaving) kept

  pub tied_given : IsTied R interval after r (given_with a c) history
  tied_given =
      let standing = standing_said w r give R interval c history tied.standing in
      let grounded = grounded_said w r give R interval c history tied.grounded in
      let begun = begun_said w r give R interval c history (λ k vote. absurd vote) tied.begun in
      let heard = hearing_said w r give interval c.views tied.hearing in
      record {
        spaced = tied.spaced;
        standing = record {
          me = standing.me;
          counts = standing.counts;
          number = standing.number;
          stood = standing.stood;
          last = standing.last;
          stands = standing.stands;
        };
        quiet = record {
          ahead = tied.quiet.ahead;
          gone = gone_said w r give c.views.mode tied.quiet.gone;
          left = λ number x other report says what.
              own_said w r give (λ z. z.what ≡ Statement.Change other report → other ≤ own_view c.views)
              (λ i z at is. tied.quiet.left i z other report at is) (λ is. absurd cc) number x says what;
          confirmed = λ number x other k says what.
              own_said w r give (λ z. z.what ≡ Statement.Began other k → other ≤ own_view c.views)
              (λ i z at is. tied.quiet.confirmed i z other k at is) (λ is. absurd cc) number x says what;
          once = λ number x k says what. absurd (unconfirmed number x k says (what ∙ ap (λ (v : ℕ). Statement.Began v k) in_view));
          gave = λ number x other reports says what.
              own_said w r give (λ z. z.what ≡ Statement.New other reports → other ≤ own_view c.views)
              (λ i z at is. tied.quiet.gave i z other reports at is) (λ is. let same : a.new.stmt.view.0 ≡ other = cc in omega (arith, in_view)) number x says what;
          gave_once = λ number x reports says what. given_as reports (given_this number x reports says (what ∙ ap (λ (v : ℕ). Statement.New v reports) in_view));
          voted = λ number x other k says vote.
              own_said w r give (λ z. IsVote other k z.what → other ≤ c.views.last_view.0)
              (λ i z at is. tied.quiet.voted i z other k at is) (λ is. absurd is) number x says vote;
          ordered = λ number x other k request says what.
              own_said w r give (λ z. z.what ≡ Statement.Order other k request → other ≤ c.views.last_view.0)
              (λ i z at is. tied.quiet.ordered i z other k request at is) (λ is. absurd cc) number x says what;
        };
        grounded = record {
          place = grounded.place;
          head = grounded.head;
          view = grounded.view;
          multiple = grounded.multiple;
          proven = grounded.proven;
          empty = grounded.empty;
          held = grounded.held;
          few = grounded.few;
          clients = grounded.clients;
          end = grounded.end;
        };
        begun = record {
          began = begun.began;
          held = begun.held;
          passes = begun.passes;
          commit = begun.commit;
          covered = begun.covered;
        };
        hearing = record {
          changes = heard.changes;
          begans = heard.begans;
          accepted = record { leaving = leaving; new = chosen_said w r give interval a.new.stmt a.chosen is };
          waiting = heard.waiting;
        };
      }
