-- What a tied replica says in its view, and that it is tied then.
use Rattle.std.proofs.Common.{◌≡◌, ℕ, ◌-◌, ◌%◌, ◌<◌, ◌≤◌, List, length, take, Some, sym, ap, ◌∙◌, subst, arith}
use Rattle.std.proofs.lemmas.List.{length-append}
use Rattle.std.proofs.lemmas.Option.{slice_get_within}
use Rattle.zy_base.specs.Machine.{Rules}
use Rattle.zy_base.specs.Step.{view_of}
use Rattle.zy_base.specs.declared.ids.Digest.{Digest}
use Rattle.zy_base.specs.declared.ids.View.{View}
use Rattle.zy_base.specs.declared.step.Mode.{Mode}
use Rattle.zy_base.specs.declared.step.Mode.TheVariants.{Active}
use Rattle.zy_chain.specs.Stretch.{Mark}
use Rattle.zy_chain.specs.declared.entry.Entry.{Entry}
use Rattle.zy_change.specs.Views.{own_view}
use Rattle.zy_choose.specs.Reports.{PlainReport}
use Rattle.zy_law.proofs.PastLemmas.{later_front}
use Rattle.zy_law.specs.Fixed.{IsCertified}
use Rattle.zy_law.specs.Histories.{Passes}
use Rattle.zy_law.specs.Lawful.{IsLawful, IsTrueAnswer, IsVote, StoodAt}
use Rattle.zy_law.specs.Said.{IsCorrect, Says, Stood}
use Rattle.zy_law.specs.Steps.{after_saying}
use Rattle.zy_law.specs.World.{Answer, Spoken, Stand, Statement, World}
use Rattle.zy_law_views.specs.Tied.{AreOrdersUpTo, Core, IsAhead, IsConfirmedAs, IsFarEnough, IsGivenAs, IsTied, SaysLawfully, said_now}
use Rattle.zy_law_views.proofs.TiedGrown.{begun_said, gone_said, grounded_said, hearing_said, own_said, standing_said}

module _ {S : Type 0} (R : Rules S) (interval : ℕ) (w : World) (lawful : IsLawful w) (r : ℕ) (correct : IsCorrect w r) (c : Core S) (history : List Entry) (tied : IsTied R interval w r c history) where
  -- ---- the tie after a statement that neither leaves nor confirms

  record IsPlain (s : Statement) : Type 0 where
    leaves : (view : ℕ) (report : PlainReport) → s ≡ Statement.Change view report → ⊥
    confirms : (view : ℕ) (m : Mark) → s ≡ Statement.Began view m → ⊥
    gives : (view : ℕ) (reports : List PlainReport) → s ≡ Statement.New view reports → ⊥
    votes : (view : ℕ) (m : Mark) → IsVote view m s → view ≤ c.views.last_view.0
    covered : (m : Mark) → IsVote c.views.last_view.0 m s → IsFarEnough c.views.specs m.place
    orders : (view : ℕ) (m : Mark) (request : Digest) → s ≡ Statement.Order view m request → view ≤ c.views.last_view.0

  tied_plain : (s : Statement) → IsPlain s → IsTied R interval (after_saying w r (said_now w r s)) r c history
  tied_plain s plain =
      let x : Spoken = said_now w r s in
      record {
        spaced = tied.spaced;
        standing = standing_said w r x R interval c history tied.standing;
        quiet = record {
          ahead = tied.quiet.ahead;
          gone = gone_said w r x c.views.mode tied.quiet.gone;
          left = λ number y view report says what.
              own_said w r x (λ z. z.what ≡ Statement.Change view report → view ≤ own_view c.views) (λ i z at is. tied.quiet.left i z view report at is)
              (λ is. absurd (plain.leaves view report is)) number y says what;
          confirmed = λ number y view m says what.
              own_said w r x (λ z. z.what ≡ Statement.Began view m → view ≤ own_view c.views) (λ i z at is. tied.quiet.confirmed i z view m at is)
              (λ is. absurd (plain.confirms view m is)) number y says what;
          once = λ number y m says what.
              own_said w r x (λ z. z.what ≡ Statement.Began (own_view c.views) m → IsConfirmedAs c.views.mode c.views.accepted m) (λ i z at is. tied.quiet.once i z m at is)
              (λ is. absurd (plain.confirms (own_view c.views) m is)) number y says what;
          gave = λ number y view reports says what.
              own_said w r x (λ z. z.what ≡ Statement.New view reports → view ≤ own_view c.views) (λ i z at is. tied.quiet.gave i z view reports at is)
              (λ is. absurd (plain.gives view reports is)) number y says what;
          gave_once = λ number y reports says what.
              own_said w r x (λ z. z.what ≡ Statement.New (own_view c.views) reports → IsGivenAs c.views.mode c.views.accepted reports) (λ i z at is. tied.quiet.gave_once i z reports at is)
              (λ is. absurd (plain.gives (own_view c.views) reports is)) number y says what;
          voted = λ number y view m says vote.
              own_said w r x (λ z. IsVote view m z.what → view ≤ c.views.last_view.0) (λ i z at is. tied.quiet.voted i z view m at is)
              (λ is. plain.votes view m is) number y says vote;
          ordered = λ number y view m request says what.
              own_said w r x (λ z. z.what ≡ Statement.Order view m request → view ≤ c.views.last_view.0) (λ i z at is. tied.quiet.ordered i z view m request at is)
              (λ is. plain.orders view m request is) number y says what;
        };
        grounded = grounded_said w r x R interval c history tied.grounded;
        begun = begun_said w r x R interval c history plain.covered tied.begun;
        hearing = hearing_said w r x interval c.views tied.hearing;
      }

  -- what is said when it leaves or is active alike
  pub says_other : SaysLawfully R interval w r c history Statement.Other
  says_other =
      record {
        may = record { now = omega (arith, tied.standing.last); silence = λ number y other spoken report says what seen. absurd cc; told = tt };
        tied = tied_plain Statement.Other (record {
          leaves = λ view report is. cc;
          confirms = λ view m is. cc;
          gives = λ view reports is. cc;
          votes = λ view m vote. absurd vote;
          covered = λ m vote. absurd vote;
          orders = λ view m request is. absurd cc;
        });
      }

  -- ---- what is said while active

  module _ (view : View) (active : c.views.mode ≡ Active view) where
    own_is : own_view c.views ≡ view.0
    own_is = ap (λ (mode : Mode). (view_of mode).0) active

    last_is : view.0 ≡ c.views.last_view.0
    last_is = subst (λ (mode : Mode). IsAhead c.views.last_view.0 mode) active tied.quiet.ahead

    silent : (number : ℕ) (y : Spoken) (other spoken : ℕ) (report : PlainReport) → Says w r number y → y.what ≡ Statement.Change other report → Some view.0 ≡ Some spoken → other ≤ spoken
    silent number y other spoken report says what seen =
        let same : view.0 ≡ spoken = cc in
        omega (arith, tied.quiet.left number y other report says what, own_is)

    now : tied.standing.number ≡ length (w.past r) - 1
    now = omega (arith, tied.standing.last)

    abbrev here : Stand
    here = record { view = c.views.last_view.0; history = history }

    stood_here : (m : Mark) → Passes w.next history m → StoodAt w r (length (w.past r) - 1) view.0 m
    stood_here m passes =
        record {
          stand = here;
          stood = subst (λ (n : ℕ). Stood w r n here) now tied.standing.stood;
          view_is = sym last_is;
          passes = passes;
        }

    pub says_response : (m : Mark) (a : Answer) → Passes w.next history m → IsTrueAnswer w history m a → SaysLawfully R interval w r c history (Statement.Spec view.0 m a)
    unfolding stood_here
    says_response m a passes answer =
        record {
          may = record { now = omega (arith, tied.standing.last); silence = silent; told = record { at = stood_here m passes; answer = answer } };
          tied = tied_plain (Statement.Spec view.0 m a) (record {
            leaves = λ view report is. cc;
            confirms = λ view m is. cc;
            gives = λ view reports is. cc;
            votes = λ view m vote. absurd vote;
            covered = λ m vote. absurd vote;
            orders = λ view m request is. absurd cc;
          });
        }

    pub says_commit : (m : Mark) → Passes w.next history m → IsCertified w view.0 m → IsFarEnough c.views.specs m.place → SaysLawfully R interval w r c history (Statement.Local view.0 m)
    says_commit m passes certified far =
        record {
          may = record { now = omega (arith, tied.standing.last); silence = silent; told = record { at = stood_here m passes; certified = certified } };
          tied = tied_plain (Statement.Local view.0 m) (record {
            leaves = λ view report is. cc;
            confirms = λ view m is. cc;
            gives = λ view reports is. cc;
            votes = λ other k vote. omega (arith, vote.0, last_is);
            covered = λ k vote. subst (λ (x : Mark). IsFarEnough c.views.specs x.place) vote.1 far;
            orders = λ view m request is. absurd cc;
          });
        }

    pub says_checkpoint : (m : Mark) (state : Digest) → Passes w.next history m → IsCertified w view.0 m → IsFarEnough c.views.specs m.place → w.state (take m.place history) ≡ state
        → SaysLawfully R interval w r c history (Statement.Check view.0 m state)
    unfolding stood_here
    says_checkpoint m state passes certified far snapshot =
        record {
          may = record {
            now = omega (arith, tied.standing.last);
            silence = silent;
            told = record { vote = record { at = stood_here m passes; certified = certified }; snapshot = snapshot };
          };
          tied = tied_plain (Statement.Check view.0 m state) (record {
            leaves = λ view report is. cc;
            confirms = λ view m is. cc;
            gives = λ view reports is. cc;
            votes = λ other k vote. omega (arith, vote.0, last_is);
            covered = λ k vote. subst (λ (x : Mark). IsFarEnough c.views.specs x.place) vote.1 far;
            orders = λ view m request is. absurd cc;
          });
        }

    -- each stand in the view is at most as long as the history
    short_stand : (at : ℕ) (b : Stand) → Stood w r at b → b.view ≡ view.0 → length b.history ≤ length history
    short_stand at b stood same =
        let early : at ≤ tied.standing.number = omega (arith, slice_get_within (w.past r) at b stood, tied.standing.last) in
        let front = later_front w lawful r at tied.standing.number b here correct early stood tied.standing.stood (same ∙ last_is) in
        omega (arith, length-append b.history front.0, ap (λ (l : List Entry). length l) front.1)

    pub says_order : (m : Mark) (request : Digest) → view.0 % w.counts.n ≡ r → AreOrdersUpTo w r view.0 (length history) → length history < m.place
        → SaysLawfully R interval w r c history (Statement.Order view.0 m request)
    says_order m request primary up_to past =
        record {
          may = record {
            now = omega (arith, tied.standing.last);
            silence = silent;
            told = record {
              primary = primary;
              place = omega arith;
              first = λ number y k second says what same. absurd (omega (arith, up_to number y k second says what));
              entries = λ at b stood same long. absurd (omega (arith, short_stand at b stood same));
            };
          };
          tied = tied_plain (Statement.Order view.0 m request) (record {
            leaves = λ view report is. cc;
            confirms = λ view m is. cc;
            gives = λ view reports is. cc;
            votes = λ view m vote. absurd vote;
            covered = λ m vote. absurd vote;
            orders = λ other k second is. let same : view.0 ≡ other = cc in omega (arith, last_is);
          });
        }

    pub orders_more : (m : Mark) (request : Digest) → AreOrdersUpTo w r view.0 (length history) → length history < m.place
        → AreOrdersUpTo (after_saying w r (said_now w r (Statement.Order view.0 m request))) r view.0 m.place
    orders_more m request up_to past number y k second says what =
        own_said w r (said_now w r (Statement.Order view.0 m request)) (λ z. z.what ≡ Statement.Order view.0 k second → k.place ≤ m.place)
        (λ i z at is. omega (arith, up_to i z k second at is)) (λ is. let same : m ≡ k = cc in omega (arith, ap (λ (x : Mark). x.place) same)) number y says what
