-- A replica on its way through a row in which it leaves its view: what it says so far is allowed, and it is tied then.
use Rattle.std.proofs.Common.{◌≡◌, ℕ, ◌-◌, ◌%◌, ◌^◌, ◌<◌, nat_lt, Bool, true, false, cond, not, List, [], ◌∷◌, ◌++◌, length, map, Some, Ok, Err, refl, sym, ap, ◌∙◌, subst, arith}
use Rattle.std.proofs.lemmas.Bool.{and_parts, eqb-true, not-true}
use Rattle.zy_base.specs.Machine.{Rules}
use Rattle.zy_base.specs.declared.cause.Cause.{Cause}
use Rattle.zy_base.specs.declared.cause.Cause.TheVariants as causes
use Rattle.zy_base.specs.declared.counts.Counts.{Counts}
use Rattle.zy_base.specs.declared.ids.Party.{Party}
use Rattle.zy_base.specs.declared.ids.Party.TheVariants.{Replica}
use Rattle.zy_base.specs.declared.ids.View.{View}
use Rattle.zy_base.specs.declared.step.Answer.TheVariants.{Taken}
use Rattle.zy_base.specs.declared.step.Mode.TheVariants.{Leaving}
use Rattle.zy_chain.specs.Stretch.{Mark}
use Rattle.zy_chain.specs.declared.entry.Entry.{Entry}
use Rattle.zy_change.specs.Choosing.{choice_of}
use Rattle.zy_change.specs.Owing.{change_to, choice_in, hated_by_many, is_gathering, new_of, next_view}
use Rattle.zy_change.specs.Views.{Views, began_for, is_accepted, is_hated_by, leads, left, own_view, with_change, with_hate, with_new}
use Rattle.zy_change.specs.declared.kept.Accepted.{Accepted}
use Rattle.zy_change.specs.declared.kept.Chosen.{Chosen}
use Rattle.zy_choose.specs.Marks.{link}
use Rattle.zy_choose.specs.Reports.{PlainReport}
use Rattle.zy_choose.specs.declared.choice.Choice.{Choice}
use Rattle.zy_choose.specs.declared.choice.Choice.TheVariants as choices
use Rattle.zy_evidence.specs.Reading.{read}
use Rattle.zy_exec.specs.Kept.{last_place}
use Rattle.zy_law.proofs.StepsLawful.{saying_lawful}
use Rattle.zy_law.specs.Lawful.{IsLawful}
use Rattle.zy_law.specs.Said.{IsCorrect, Says}
use Rattle.zy_law.specs.Steps.{MaySay, after_saying, grown, with_last}
use Rattle.zy_law.specs.World.{Spoken, Statement, World}
use Rattle.zy_law_normal.proofs.Goes.{gains_in-append}
use Rattle.zy_law_normal.specs.Acts.{spoken_at, statement_by}
use Rattle.zy_parts.specs.Numbers as numbers
use Rattle.zy_parts.specs.Reports.{began_fields}
use Rattle.zy_parts.specs.declared.reports.New.{New}
use Rattle.zy_parts.specs.declared.signed.Signed.{Signed}
use Rattle.zy_parts.specs.declared.statements.Hate.{Hate}
use Rattle.zy_seal.specs.Sealing.{sealed_by}
use Rattle.zy_table.specs.Deeds.{Going, begin, ends, gains_in, refused}
use Rattle.zy_table.specs.declared.deeds.Got.{Got}
use Rattle.zy_table.specs.Hates.{hate, hate_counted, with_hate_of}
use Rattle.zy_table.specs.Leaving.{left_with as left_with_table, Attempt, accept, collect, concluded, give_new, given, goes, is_overspent, leave, leave_alone, sealed_change, sealed_new}
use Rattle.zy_table.specs.State as table
use Rattle.zy_table.specs.State.{State}
use Rattle.zy_table.specs.declared.deeds.Act.{Act}
use Rattle.zy_table.specs.declared.deeds.Act.TheVariants.{Says as SaysIt}
use Rattle.zy_table.specs.declared.deeds.Body.TheVariants as bodies
use Rattle.zy_table.specs.declared.deeds.Remark.{Remark}
use Rattle.zy_law_views.proofs.Confirming.{may_confirm_as, none_confirmed, none_given, tied_confirmed_as}
use Rattle.zy_law_views.proofs.Giving.{given_this, may_give, tied_given, unconfirmed}
use Rattle.zy_law_views.proofs.LawfulChoice.{chosen_is, never_clashes}
use Rattle.zy_law_views.proofs.LeavingViews.{may_leave, tied_gone}
use Rattle.zy_law_views.proofs.TieKept.{tied_heard}
use Rattle.zy_law_views.proofs.TiedGrown.{chosen_said}
use Rattle.zy_law_views.specs.Held.{IsProperNew}
use Rattle.zy_law_views.specs.Tied.{IsChosenNew, IsHearing, IsKeptNew, IsTied, said_now, told_by, with_heard}
use Rattle.zy_law_views.specs.Told.{began_told, change_told, new_told}
use Rattle.zy_law_views.proofs.AtWork.{work_shorter, works_said}
use Rattle.zy_law_views.proofs.Gathered.{gathered_proper}
use Rattle.zy_law_views.proofs.Led.{LeadsTo, leads_nowhere, leads_on, leads_saying}
use Rattle.zy_law_views.specs.Cores.{core_of}
use Rattle.zy_law_views.specs.Rows.{IsLawfulRow, IsReady, blames}
use Rattle.zy_law_views.specs.Work.{IsAtWork, workplace_of}

pub left_mode : {S : Type 0} (R : Rules S) (view : View) (g : Going S) → (leave_alone R view g).state.views.mode ≡ Leaving view
unfolding leave_alone
left_mode R view g = refl

module _ {S : Type 0} (R : Rules S) (interval : ℕ) (w : World) (r : ℕ) (s : State S) (history : List Entry) (ready : IsReady R interval w r s history) where
  pub record IsOnWay (g : Going S) : Type 0 where
    pub world : World
    pub lead : LeadsTo w r (table.own_view s) (length (w.past r) - 1) history g.deeds.acts world (table.own_view s) (length (w.past r) - 1) history
    -- it stands where it stood, and so do others; only it said more
    pub told : ℕ → List Spoken
    pub world_is : world ≡ grown w w.asked told w.past w.kept
    pub now : length (world.past r) - 1 ≡ length (w.past r) - 1
    pub lawful : IsLawful world
    pub links : world.next ≡ link
    pub correct : IsCorrect world r
    pub tied : IsTied R interval world r (core_of g.state) history
    pub signer : g.state.sealer.me ≡ Replica g.state.views.me
    pub interval_is : g.state.views.interval ≡ interval
    -- it executed nothing
    pub idle : gains_in g.deeds.acts ≡ []
    -- where it could work on before, it still can
    pub works : IsAtWork interval w r s → IsAtWork interval world r g.state

  pub at_begin : IsOnWay (begin s)
  at_begin =
      record {
        world = w;
        lead = leads_nowhere w r (table.own_view s) (length (w.past r) - 1) history;
        told = w.said;
        world_is = refl;
        now = refl;
        lawful = ready.lawful;
        links = ready.links;
        correct = ready.correct;
        tied = ready.tied;
        signer = ready.signer;
        interval_is = ready.interval_is;
        idle = refl;
        works = λ work. work;
      }

  pub begin_world : at_begin.world ≡ w
  unfolding at_begin
  begin_world = refl

  -- one statement more
  module _ (g : Going S) (way : IsOnWay g) (remark : Remark) where
    abbrev spoken : Spoken
    spoken = said_now way.world r (statement_by r remark.body)

    same_spoken : spoken ≡ spoken_at r (length (w.past r) - 1) remark
    same_spoken = ap (λ (n : ℕ). record { what = statement_by r remark.body; when = n }) way.now

    lead_more : MaySay way.world r spoken → LeadsTo w r (table.own_view s) (length (w.past r) - 1) history (g.deeds.acts ++ SaysIt remark ∷ []) (after_saying way.world r spoken) (table.own_view s) (length (w.past r) - 1) history
    lead_more may =
        let number = length (w.past r) - 1 in
        let view = table.own_view s in
        leads_on w r view number history g.deeds.acts (SaysIt remark ∷ []) way.world (after_saying way.world r spoken) view view number number history history way.lead
        (subst (λ (x : Spoken). LeadsTo way.world r view number history (SaysIt remark ∷ []) (after_saying way.world r x) view number history) (sym same_spoken)
        (leads_saying way.world r view number history remark (subst (λ (x : Spoken). MaySay way.world r x) same_spoken may)))

    pub said_more : (next : Going S) → next.deeds.acts ≡ g.deeds.acts ++ SaysIt remark ∷ [] → MaySay way.world r spoken → IsTied R interval (after_saying way.world r spoken) r (core_of next.state) history
        → next.state.sealer.me ≡ Replica next.state.views.me → next.state.views.interval ≡ interval
        → (IsAtWork interval way.world r g.state → IsAtWork interval (after_saying way.world r spoken) r next.state) → IsOnWay next
    said_more next acts may tied signer interval_is works =
        record {
          world = after_saying way.world r spoken;
          lead =
              subst (λ (l : List Act). LeadsTo w r (table.own_view s) (length (w.past r) - 1) history l (after_saying way.world r spoken) (table.own_view s) (length (w.past r) - 1) history) (sym acts)
              (lead_more may);
          told = with_last way.told r spoken;
          world_is = ap (λ (u : World). after_saying u r spoken) way.world_is;
          now = way.now;
          lawful = saying_lawful way.world way.lawful r spoken may;
          links = way.links;
          correct = record { within = way.correct.within; honest = way.correct.honest };
          tied = tied;
          signer = signer;
          interval_is = interval_is;
          idle = ap gains_in acts ∙ gains_in-append g.deeds.acts (SaysIt remark ∷ []) ∙ ap (λ (l : List Got). l ++ []) way.idle;
          works = λ work. works (way.works work);
        }

  -- ---- a leave

  module _ (g : Going S) (way : IsOnWay g) (view : View) where
    pub leave_on : own_view g.state.views < view.0 → IsOnWay (leave_alone R view g)
    unfolding leave_alone
    leave_on above =
        let c = core_of g.state in
        let change = sealed_change g.state view in
        let may = may_leave R interval way.world way.lawful way.links r way.correct c history way.tied view above in
        let gone = tied_gone R interval way.world way.lawful way.links r way.correct c history way.tied view above change.sig in
        said_more g way (record { body = bodies.Change change.stmt; stood = table.stood_of R (left_with_table view change g.state) }) (leave_alone R view g) refl may
        (subst (λ (by : Party). IsTied R interval (after_saying way.world r (said_now way.world r (change_told r (change_to view (told_by c))))) r
        (record c { views = left view (with_change (record { by = by; stmt = change.stmt; sig = change.sig }) c.views) }) history) (sym way.signer) gone)
        way.signer way.interval_is
        (λ work. work_shorter interval _ r _ (last_place g.state.kept - g.state.orders.base) (workplace_of g.state) (works_said interval way.world r _ g.state (λ v m request told. absurd cc) work))

    -- the world after it
    pub leave_says : (above : own_view g.state.views < view.0) → (leave_on above).world ≡ after_saying way.world r (said_now way.world r (change_told r (change_to view (told_by (core_of g.state)))))
    unfolding leave_on said_more
    leave_says above = refl

  -- a new view is confirmed, where nothing was confirmed of it, and nothing was given for it but this
  accept_as : (g : Going S) (way : IsOnWay g) (a : Accepted) → g.state.views.mode ≡ Leaving a.new.stmt.view
      → ((number : ℕ) (y : Spoken) (k : Mark) → Says way.world r number y → y.what ≡ Statement.Began a.new.stmt.view.0 k → ⊥)
      → ((number : ℕ) (y : Spoken) (reports : List PlainReport) → Says way.world r number y → y.what ≡ Statement.New a.new.stmt.view.0 reports → IsKeptNew (Some a) a.new.stmt.view.0 reports)
      → IsChosenNew interval way.world a.new.stmt a.chosen → IsOnWay (accept R a g)
  unfolding accept
  accept_as g way a leaving unconfirmed this is =
      let c = core_of g.state in
      let began = sealed_by numbers.began began_fields g.state.sealer (began_for a.new.stmt.view a.chosen) in
      let may = may_confirm_as R interval way.world way.lawful way.links r way.correct c history way.tied a leaving unconfirmed this is in
      let tied = tied_confirmed_as R interval way.world way.lawful way.links r way.correct c history way.tied a leaving unconfirmed this is began.sig in
      said_more g way (record { body = bodies.Began began.stmt; stood = table.stood_of R g.state }) (accept R a g) refl may
      (subst (λ (by : Party). IsTied R interval (after_saying way.world r (said_now way.world r (began_told (began_for a.new.stmt.view a.chosen)))) r
      (record c { views = with_new a (record { by = by; stmt = began.stmt; sig = began.sig }) c.views }) history) (sym way.signer) tied)
      way.signer way.interval_is (works_said interval way.world r _ g.state (λ v m request told. absurd cc))

  pub accept_on : (g : Going S) (way : IsOnWay g) (a : Accepted) → g.state.views.mode ≡ Leaving a.new.stmt.view → is_accepted a.new.stmt.view.0 g.state.views.accepted ≡ false
      → IsChosenNew interval way.world a.new.stmt a.chosen → IsOnWay (accept R a g)
  accept_on g way a leaving none is =
      accept_as g way a leaving (none_confirmed R interval way.world r (core_of g.state) history way.tied a leaving none)
      (λ number y reports says what. absurd (none_given R interval way.world r (core_of g.state) history way.tied a leaving none number y reports says what)) is

  -- ---- the reports are given

  module _ (g : Going S) (way : IsOnWay g) (a : Accepted) (leaving : g.state.views.mode ≡ Leaving a.new.stmt.view) (none : is_accepted a.new.stmt.view.0 g.state.views.accepted ≡ false)
      (leads_it : a.new.stmt.view.0 % way.world.counts.n ≡ r) (is : IsChosenNew interval way.world a.new.stmt a.chosen) where
    abbrev give : Spoken
    give = said_now way.world r (new_told a.new.stmt)

    -- it keeps what it gave
    abbrev keeping : Going S
    keeping = record (give_new R a.new g) { state = record (give_new R a.new g).state { views = record (give_new R a.new g).state.views { accepted = Some a } } }

    give_on : IsOnWay keeping
    unfolding give_new
    give_on =
        said_more g way (record { body = bodies.New a.new.stmt; stood = table.stood_of R g.state }) keeping refl
        (may_give R interval way.world way.lawful way.links r way.correct (core_of g.state) history way.tied a leaving none leads_it is)
        (tied_given R interval way.world way.lawful way.links r way.correct (core_of g.state) history way.tied a leaving none leads_it is)
        way.signer way.interval_is (works_said interval way.world r _ g.state (λ v m request told. absurd cc))

    accept_given : IsOnWay (accept R a (give_new R a.new g))
    unfolding give_new give_on said_more accept
    accept_given =
        accept_as keeping give_on a leaving
        (unconfirmed R interval way.world way.lawful way.links r way.correct (core_of g.state) history way.tied a leaving none leads_it is)
        (given_this R interval way.world way.lawful way.links r way.correct (core_of g.state) history way.tied a leaving none leads_it is)
        (chosen_said way.world r give interval a.new.stmt a.chosen is)

  -- ---- an attempt

  abbrev pub IsLawfulAttempt : Attempt S → Type 0
  IsLawfulAttempt (Ok end) = IsOnWay end.1
  IsLawfulAttempt (Err cause) = blames cause ≡ false

  module _ (view : View) where
    -- what is chosen out of the reports that it gathers
    given_on : (g : Going S) (way : IsOnWay g) → g.state.views.mode ≡ Leaving view → is_gathering g.state.views view.0 ≡ true → (choice : Choice) → choice_in g.state.views view.0 ≡ choice
        → IsLawfulAttempt (given R view choice g)
    given_on g way leaving gathers choice told = by choice told
      where
        v : Views
        v = g.state.views

        n : New
        n = new_of v view

        leads_it : view.0 % way.world.counts.n ≡ r
        leads_it =
            let both = and_parts (leads g.state.views view.0) _ gathers in
            ap (λ (k : Counts). view.0 % k.n) (sym way.tied.standing.counts) ∙ eqb-true (view.0 % g.state.views.counts.n) g.state.views.me.0 both.0 ∙ way.tied.standing.me

        parts : (is_accepted view.0 g.state.views.accepted ≡ false) × IsProperNew way.world interval (new_of g.state.views view)
        parts =
            let both = and_parts (leads g.state.views view.0) _ gathers in
            let rest = and_parts (not (is_accepted view.0 g.state.views.accepted)) _ both.1 in
            (not-true (is_accepted view.0 g.state.views.accepted) rest.0, gathered_proper interval way.world g.state.views view way.tied.hearing way.tied.standing.counts rest.1)

        out : (choice : Choice) → choice_in g.state.views view.0 ≡ choice → choice_of way.world.counts.agree (map read (new_of g.state.views view).changes) ≡ choice
        out choice told = ap (λ (k : Counts). choice_of k.agree (map read (new_of g.state.views view).changes)) (sym way.tied.standing.counts) ∙ told

        by : (choice : Choice) → choice_in g.state.views view.0 ≡ choice → IsLawfulAttempt (given R view choice g)
        by (choices.AnchorClash first second) told = absurd (never_clashes way.world way.lawful way.links interval n parts.1 first second (out (choices.AnchorClash first second) told))
        by (choices.Chosen provider place head) told =
            let chosen : Chosen = record { provider = provider; place = place; head = head } in
            let is : IsChosenNew interval way.world n chosen =
            record { proper = parts.1; choice = chosen_is way.world way.lawful way.links interval n parts.1 provider place head (out (choices.Chosen provider place head) told) } in
            accept_given g way (record { new = sealed_new g.state view; chosen = chosen }) leaving parts.0 leads_it is

    pub collect_on : (g : Going S) (way : IsOnWay g) → g.state.views.mode ≡ Leaving view → IsLawfulAttempt (collect R view g)
    collect_on g way leaving = by (is_gathering g.state.views view.0) refl
      where
        by : (b : Bool) → is_gathering g.state.views view.0 ≡ b → IsLawfulAttempt (cond b (given R view (choice_in g.state.views view.0) g) (goes Taken g))
        by true gathers = given_on g way leaving gathers (choice_in g.state.views view.0) refl
        by false gathers = way

    pub leave_row : (g : Going S) (way : IsOnWay g) → own_view g.state.views < view.0 → IsLawfulAttempt (leave R view g)
    unfolding leave
    leave_row g way above = by (nat_lt view.0 (2 ^ 62))
      where
        gone : IsOnWay (leave_alone R view g)
        gone = leave_on g way view above

        by : (b : Bool) → IsLawfulAttempt (cond b (collect R view (leave_alone R view g)) (Err causes.NewerView))
        by true = collect_on (leave_alone R view g) gone (left_mode R view g)
        by false = refl

  -- ---- a row's outcome

  refused_row : (cause : Cause) → IsLawfulRow R interval w r s history (refused cause s)
  refused_row cause = record { may = tt; tied = ready.tied }

  pub concluded_row : (attempt : Attempt S) → IsLawfulAttempt attempt → IsLawfulRow R interval w r s history (concluded s attempt)
  concluded_row (Err cause) lawful = refused_row cause
  concluded_row (Ok end) way = by (is_overspent end.1.state.sealer)
    where
      by : (b : Bool) → IsLawfulRow R interval w r s history (cond b (refused causes.KeySpent s) (ends end.0 end.1))
      by true = refused_row causes.KeySpent
      by false = record { may = way.lead.may; tied = subst (λ (u : World). IsTied R interval u r (core_of end.1.state) history) (sym way.lead.world) way.tied }

  -- a hate more is counted
  pub hated_more : (g : Going S) → IsOnWay g → (by : Party) → IsOnWay (with_hate_of by g)
  hated_more g way by =
      let v = g.state.views in
      let hearing = way.tied.hearing in
      let heard : IsHearing interval way.world (with_heard v.changes v.begans (with_hate by v).hated v.waiting (core_of g.state)).views =
      record { changes = hearing.changes; begans = hearing.begans; accepted = hearing.accepted; waiting = hearing.waiting } in
      record {
        world = way.world;
        lead = way.lead;
        told = way.told;
        world_is = way.world_is;
        now = way.now;
        lawful = way.lawful;
        links = way.links;
        correct = way.correct;
        tied = tied_heard R interval way.world way.lawful r way.correct (core_of g.state) history way.tied v.changes v.begans (with_hate by v).hated v.waiting heard;
        signer = way.signer;
        interval_is = way.interval_is;
        idle = way.idle;
        works = way.works;
      }

  pub counted : (g : Going S) → IsOnWay g → IsLawfulAttempt (hate_counted R g)
  counted g way = by (hated_by_many g.state.views)
    where
      next : IsLawfulAttempt (leave R (next_view g.state.views) g)
      next = leave_row (next_view g.state.views) g way (omega arith)

      by : (b : Bool) → IsLawfulAttempt (cond b (leave R (next_view g.state.views) g) (goes Taken g))
      by true = next
      by false = way

  pub hate_attempt : (vote : Signed Hate) → IsLawfulAttempt (hate R s vote)
  unfolding hate
  hate_attempt vote = by (nat_lt vote.stmt.view.0 (table.own_view s)) (nat_lt (table.own_view s) vote.stmt.view.0) (is_hated_by s.views vote.by)
    where
      rest : IsLawfulAttempt (hate_counted R (with_hate_of vote.by (begin s)))
      rest = counted (with_hate_of vote.by (begin s)) (hated_more (begin s) at_begin vote.by)

      by : (old newer repeated : Bool) → IsLawfulAttempt (cond old (Err causes.OldView) (cond newer (Err causes.NewerView) (cond repeated (Err causes.Repeat) (hate_counted R (with_hate_of vote.by (begin s))))))
      by true newer repeated = refl
      by false true repeated = refl
      by false false true = refl
      by false false false = rest

  pub hate_lawful : (vote : Signed Hate) → IsLawfulRow R interval w r s history (concluded s (hate R s vote))
  hate_lawful vote = concluded_row (hate R s vote) (hate_attempt vote)

  pub leave_lawful : (view : View) → own_view s.views < view.0 → IsLawfulRow R interval w r s history (concluded s (leave R view (begin s)))
  leave_lawful view above = concluded_row (leave R view (begin s)) (leave_row view (begin s) at_begin above)
