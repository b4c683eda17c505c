-- A tied replica that leaves for a view, and accepted no new view for it, may confirm the choice of a proper one, and is tied then.
use Rattle.std.proofs.Common.{◌≡◌, ℕ, ◌≤◌, nat_eq, Bool, true, false, cond, not, ◌&&◌, inl, inr, List, map, Option, Some, None, refl, sym, ap, ◌∙◌, subst, arith, eq-eqb}
use Rattle.std.specs.Prelude.{slice_index_or}
use Rattle.zy_base.specs.Machine.{Rules}
use Rattle.zy_base.specs.Step.{view_of}
use Rattle.zy_base.specs.declared.ids.Party.TheVariants.{Replica}
use Rattle.zy_base.specs.declared.ids.ReplicaId.{ReplicaId}
use Rattle.zy_base.specs.declared.ids.View.{View}
use Rattle.zy_base.specs.declared.step.Mode.{Mode}
use Rattle.zy_base.specs.declared.step.Mode.TheVariants.{Leaving}
use Rattle.zy_chain.specs.Stretch.{Mark}
use Rattle.zy_chain.specs.declared.entry.Entry.{Entry}
use Rattle.zy_cert.specs.Equal.{same_began}
use Rattle.zy_change.proofs.FitLemmas.{kept_or_filled}
use Rattle.zy_change.proofs.IndexLemmas.{read_map}
use Rattle.zy_change.specs.Views.{began_for, is_accepted, own_view, unless_other, with_new, without_others}
use Rattle.zy_change.specs.declared.kept.Accepted.{Accepted}
use Rattle.zy_change.specs.declared.kept.Chosen.{Chosen}
use Rattle.zy_choose.specs.Marks.{link}
use Rattle.zy_choose.specs.Reports.{PlainReport}
use Rattle.zy_evidence.specs.Reading.{read}
use Rattle.zy_law.specs.Formed.{IsFormedStart}
use Rattle.zy_law.specs.Lawful.{IsChosenStart, IsLawful, IsVote}
use Rattle.zy_law.specs.Said.{IsCorrect, IsVouched, Says}
use Rattle.zy_law.specs.Steps.{MaySay, after_saying}
use Rattle.zy_law.specs.World.{Spoken, Statement, World}
use Rattle.zy_parts.specs.declared.reports.Began.{Began}
use Rattle.zy_parts.specs.declared.reports.New.{New}
use Rattle.zy_parts.specs.declared.signed.Signed.{Signed}
use Rattle.zy_law_views.specs.Held.{IsVouchedBy, mark_at}
use Rattle.zy_law_views.specs.Tied.{Core, IsAcceptedAs, IsChosenNew, IsConfirmedAs, IsGivenAs, IsKeptBegan, IsKeptNew, IsTied, confirmed_with, said_now}
use Rattle.zy_law_views.specs.Told.{began_told}
use Rattle.zy_law_views.proofs.LawfulChoice.{lawful_choice}
use Rattle.zy_law_views.proofs.ProvenReports.{new_valid, reports_in_order}
use Rattle.zy_law_views.proofs.TiedGrown.{begun_said, chosen_said, gone_said, grounded_said, has_said_last, hearing_said, own_said, standing_said}

-- what is chosen out of a proper new view is a lawful start of it
pub chosen_start : (w : World) → IsLawful w → w.next ≡ link → (interval : ℕ) (n : New) (chosen : Chosen) → IsChosenNew interval w n chosen → IsChosenStart w n.view.0 (mark_at chosen.place chosen.head)
chosen_start w lawful links interval n chosen is =
    record {
      reports = map read n.changes;
      valid = new_valid w interval n is.proper;
      choice = lawful_choice w lawful links interval n is.proper chosen.provider (mark_at chosen.place chosen.head) is.choice;
    }

-- and its reports are in order
pub formed_start : (w : World) → IsLawful w → w.next ≡ link → (interval : ℕ) → w.interval ≡ interval → (n : New) (chosen : Chosen) → IsChosenNew interval w n chosen
    → IsFormedStart w n.view.0 (mark_at chosen.place chosen.head)
unfolding chosen_start
formed_start w lawful links interval spaced n chosen is =
    record { start = chosen_start w lawful links interval n chosen is; in_order = reports_in_order w links interval spaced n is.proper }

accepted_told : (accepted : Option Accepted) (view : ℕ) (m : Mark) → IsAcceptedAs accepted view m → is_accepted view accepted ≡ false → ⊥
accepted_told accepted view m is none =
    let told : is_accepted view accepted ≡ true = ap (is_accepted view) is.is ∙ eq-eqb is.own.new.stmt.view.0 view is.of_view in
    absurd cc

given_told : (accepted : Option Accepted) (view : ℕ) (reports : List PlainReport) → IsKeptNew accepted view reports → is_accepted view accepted ≡ false → ⊥
given_told accepted view reports is none =
    let told : is_accepted view accepted ≡ true = ap (is_accepted view) is.is ∙ eq-eqb is.own.new.stmt.view.0 view is.of_view in
    absurd cc

-- what is kept of confirmations was kept before
kept_before : (own : Began) (o : Option (Signed Began)) (q : Signed Began) → unless_other own o ≡ Some q → o ≡ Some q
kept_before own None q is = absurd cc
kept_before own (Some b) q is = by (nat_eq b.stmt.view.0 own.view.0 && not (same_began b.stmt own)) is
  where
    by : (told : Bool) → cond told None (Some b) ≡ Some q → Some b ≡ Some q
    by true is = absurd cc
    by false is = is

module _ {S : Type 0} (R : Rules S) (interval : ℕ) (w : World) (r : ℕ) (c : Core S) (history : List Entry) (tied : IsTied R interval w r c history) (a : Accepted)
    (leaving : c.views.mode ≡ Leaving a.new.stmt.view) where
  in_view : own_view c.views ≡ a.new.stmt.view.0
  in_view = ap (λ (mode : Mode). (view_of mode).0) leaving

  -- where it accepted none, it confirmed nothing of the view
  pub none_confirmed : is_accepted a.new.stmt.view.0 c.views.accepted ≡ false → (number : ℕ) (y : Spoken) (k : Mark) → Says w r number y → y.what ≡ Statement.Began a.new.stmt.view.0 k → ⊥
  none_confirmed none number y k says what =
      let own : y.what ≡ Statement.Began (own_view c.views) k = what ∙ ap (λ (v : ℕ). Statement.Began v k) (sym in_view) in
      let accepted : IsAcceptedAs c.views.accepted a.new.stmt.view.0 k = subst (λ (mode : Mode). IsConfirmedAs mode c.views.accepted k) leaving (tied.quiet.once number y k says own) in
      accepted_told c.views.accepted a.new.stmt.view.0 k accepted none

  -- and gave nothing for it
  pub none_given : is_accepted a.new.stmt.view.0 c.views.accepted ≡ false → (number : ℕ) (y : Spoken) (reports : List PlainReport) → Says w r number y → y.what ≡ Statement.New a.new.stmt.view.0 reports → ⊥
  none_given none number y reports says what =
      let own : y.what ≡ Statement.New (own_view c.views) reports = what ∙ ap (λ (v : ℕ). Statement.New v reports) (sym in_view) in
      let kept : IsKeptNew c.views.accepted a.new.stmt.view.0 reports = subst (λ (mode : Mode). IsGivenAs mode c.views.accepted reports) leaving (tied.quiet.gave_once number y reports says own) in
      given_told c.views.accepted a.new.stmt.view.0 reports kept none

-- where it confirmed nothing of the view, and gave nothing for it but this
module _ {S : Type 0} (R : Rules S) (interval : ℕ) (w : World) (lawful : IsLawful w) (links : w.next ≡ link) (r : ℕ) (correct : IsCorrect w r) (c : Core S) (history : List Entry)
    (tied : IsTied R interval w r c history) (a : Accepted) (leaving : c.views.mode ≡ Leaving a.new.stmt.view)
    (none_said : (number : ℕ) (y : Spoken) (k : Mark) → Says w r number y → y.what ≡ Statement.Began a.new.stmt.view.0 k → ⊥)
    (given : (number : ℕ) (y : Spoken) (reports : List PlainReport) → Says w r number y → y.what ≡ Statement.New a.new.stmt.view.0 reports → IsKeptNew (Some a) a.new.stmt.view.0 reports)
    (is : IsChosenNew interval w a.new.stmt a.chosen) where
  abbrev view : View
  view = a.new.stmt.view

  abbrev m : Mark
  m = mark_at a.chosen.place a.chosen.head

  abbrev confirm : Spoken
  confirm = said_now w r (began_told (began_for a.new.stmt.view a.chosen))

  now_in : own_view c.views ≡ view.0
  now_in = ap (λ (mode : Mode). (view_of mode).0) leaving

  pub may_confirm_as : MaySay w r confirm
  may_confirm_as =
      record {
        now = omega (arith, tied.standing.last);
        silence = λ number y other spoken report says what seen.
            let same : view.0 ≡ spoken = cc in
            omega (arith, tied.quiet.left number y other report says what, now_in);
        told = record {
          chosen = formed_start w lawful links interval tied.spaced a.new.stmt a.chosen is;
          first = λ number y k says what. absurd (none_said number y k says what);
        };
      }

  -- ---- and then

  abbrev after : World
  after = after_saying w r confirm

  module _ (sig : List ℕ) where
    abbrev own : Signed Began
    own = record { by = Replica c.views.me; stmt = began_for a.new.stmt.view a.chosen; sig = sig }

    abbrev confirmed : Core S
    confirmed = record c { views = with_new a own c.views }

    own_vouched : (id : ReplicaId) → id.0 ≡ r → IsVouchedBy after (began_told own.stmt) (Replica id)
    own_vouched id is = subst (λ (q : ℕ). IsVouched after (began_told own.stmt) q) (sym is) (record { within = correct.within; said = inr (has_said_last w r confirm) })

    own_kept : IsKeptBegan after c.views.me.0 own
    own_kept = record { by = refl; held = own_vouched c.views.me tied.standing.me }

    new_once : (k : Mark) → m ≡ k → IsConfirmedAs c.views.mode (Some a) k
    new_once k same =
        subst (λ (mode : Mode). IsConfirmedAs mode (Some a) k) (sym leaving) (record { own = a; is = refl; of_view = refl; chosen = same })

    kept_as : (reports : List PlainReport) → IsKeptNew (Some a) view.0 reports → IsGivenAs c.views.mode (Some a) reports
    kept_as reports kept = subst (λ (mode : Mode). IsGivenAs mode (Some a) reports) (sym leaving) kept

    pub tied_confirmed_as : IsTied R interval after r confirmed history
    tied_confirmed_as =
        let standing = standing_said w r confirm R interval c history tied.standing in
        let grounded = grounded_said w r confirm R interval c history tied.grounded in
        let begun = begun_said w r confirm R interval c history (λ k vote. absurd vote) tied.begun in
        let heard = hearing_said w r confirm interval c.views tied.hearing in
        record {
          spaced = tied.spaced;
          standing = record {
            me = standing.me;
            counts = standing.counts;
            number = standing.number;
            stood = standing.stood;
            last = standing.last;
            stands = standing.stands;
          };
          quiet = record {
            ahead = tied.quiet.ahead;
            gone = gone_said w r confirm c.views.mode tied.quiet.gone;
            left = λ number x other report says what.
                own_said w r confirm (λ z. z.what ≡ Statement.Change other report → other ≤ own_view c.views)
                (λ i z at is. tied.quiet.left i z other report at is) (λ is. absurd cc) number x says what;
            confirmed = λ number x other k says what.
                own_said w r confirm (λ z. z.what ≡ Statement.Began other k → other ≤ own_view c.views)
                (λ i z at is. tied.quiet.confirmed i z other k at is) (λ is. let same : view.0 ≡ other = cc in omega (arith, now_in)) number x says what;
            once = λ number x k says what.
                own_said w r confirm (λ z. z.what ≡ Statement.Began (own_view c.views) k → IsConfirmedAs c.views.mode (Some a) k)
                (λ i z at is. absurd (none_said i z k at (is ∙ ap (λ (v : ℕ). Statement.Began v k) now_in))) (λ is. let same : m ≡ k = cc in new_once k same) number x says what;
            gave = λ number x other reports says what.
                own_said w r confirm (λ z. z.what ≡ Statement.New other reports → other ≤ own_view c.views)
                (λ i z at is. tied.quiet.gave i z other reports at is) (λ is. absurd cc) number x says what;
            gave_once = λ number x reports says what.
                own_said w r confirm (λ z. z.what ≡ Statement.New (own_view c.views) reports → IsGivenAs c.views.mode (Some a) reports)
                (λ i z at is. kept_as reports (given i z reports at (is ∙ ap (λ (v : ℕ). Statement.New v reports) now_in))) (λ is. absurd cc) number x says what;
            voted = λ number x other k says vote.
                own_said w r confirm (λ z. IsVote other k z.what → other ≤ c.views.last_view.0)
                (λ i z at is. tied.quiet.voted i z other k at is) (λ is. absurd is) number x says vote;
            ordered = λ number x other k request says what.
                own_said w r confirm (λ z. z.what ≡ Statement.Order other k request → other ≤ c.views.last_view.0)
                (λ i z at is. tied.quiet.ordered i z other k request at is) (λ is. absurd cc) number x says what;
          };
          grounded = record {
            place = grounded.place;
            head = grounded.head;
            view = grounded.view;
            multiple = grounded.multiple;
            proven = grounded.proven;
            empty = grounded.empty;
            held = grounded.held;
            few = grounded.few;
            clients = grounded.clients;
            end = grounded.end;
          };
          begun = record {
            began = begun.began;
            held = begun.held;
            passes = begun.passes;
            commit = begun.commit;
            covered = begun.covered;
          };
          hearing = record {
            changes = heard.changes;
            begans = λ id q at.
                elim (kept_or_filled (without_others own.stmt c.views.begans) c.views.me.0 id own q at) [
                  | inl both ↦ subst (λ (n : ℕ). IsKeptBegan after n q) (sym both.0) (subst (λ (x : Signed Began). IsKeptBegan after c.views.me.0 x) (sym both.1) own_kept)
                  | inr other ↦ heard.begans id q (kept_before own.stmt (slice_index_or c.views.begans id None) q (sym (read_map (unless_other own.stmt) refl c.views.begans id) ∙ other))
                ];
            accepted = record { leaving = leaving; new = chosen_said w r confirm interval a.new.stmt a.chosen is };
            waiting = heard.waiting;
          };
        }

-- so where it accepted none
module _ {S : Type 0} (R : Rules S) (interval : ℕ) (w : World) (lawful : IsLawful w) (links : w.next ≡ link) (r : ℕ) (correct : IsCorrect w r) (c : Core S) (history : List Entry)
    (tied : IsTied R interval w r c history) (a : Accepted) (leaving : c.views.mode ≡ Leaving a.new.stmt.view) (none : is_accepted a.new.stmt.view.0 c.views.accepted ≡ false)
    (is : IsChosenNew interval w a.new.stmt a.chosen) where
  none_before : (number : ℕ) (y : Spoken) (k : Mark) → Says w r number y → y.what ≡ Statement.Began a.new.stmt.view.0 k → ⊥
  none_before = none_confirmed R interval w r c history tied a leaving none

  given_before : (number : ℕ) (y : Spoken) (reports : List PlainReport) → Says w r number y → y.what ≡ Statement.New a.new.stmt.view.0 reports → IsKeptNew (Some a) a.new.stmt.view.0 reports
  given_before number y reports says what = absurd (none_given R interval w r c history tied a leaving none number y reports says what)

  pub may_confirm : MaySay w r (said_now w r (began_told (began_for a.new.stmt.view a.chosen)))
  may_confirm = may_confirm_as R interval w lawful links r correct c history tied a leaving none_before given_before is

  pub tied_confirmed : (sig : List ℕ) → IsTied R interval (after_saying w r (said_now w r (began_told (began_for a.new.stmt.view a.chosen)))) r (confirmed_with a sig c) history
  tied_confirmed sig = tied_confirmed_as R interval w lawful links r correct c history tied a leaving none_before given_before is sig
