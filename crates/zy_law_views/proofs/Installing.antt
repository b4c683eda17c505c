-- A snapshot comes for which a certificate waits: what it shows is installed, and the choice is adopted from there, as one act.
use Rattle.std.proofs.Common.{◌≡◌, ℕ, ◌-◌, ◌^◌, ◌<◌, ◌≤◌, nat_eq, nat_lt, Bool, true, false, cond, List, [], ◌++◌, length, map, take, drop, Option, Some, None, Ok, Err, refl, sym, ap, ◌∙◌, subst, arith}
use Rattle.std.specs.Prelude.{All, IfSome, Result, if◌then◌else◌, option_map, slice_get, unwrap_or}
use Rattle.std.proofs.Math.Seq.{drop-nil, take-nil}
use Rattle.std.proofs.lemmas.Bool.{eqb-true, le-leb, le-ltb, ltb-true}
use Rattle.std.proofs.lemmas.List.{take_all}
use Rattle.std.proofs.lemmas.Option.{same_Some}
use Rattle.zy_base.specs.Machine.{Rules}
use Rattle.zy_base.specs.declared.cause.Cause.TheVariants as causes
use Rattle.zy_base.specs.declared.ids.Digest.{Digest}
use Rattle.zy_base.specs.declared.ids.Place.{Place}
use Rattle.zy_chain.specs.Stretch.{Stretch, head_in}
use Rattle.zy_chain.specs.declared.entry.Entry.{Entry}
use Rattle.zy_evidence.specs.Reading.{stretch_of}
use Rattle.zy_exec.proofs.ReplayLemmas.{along-nil}
use Rattle.zy_exec.specs.Kept as kept
use Rattle.zy_exec.specs.Installed.{IsInstalled, IsRunnable, IsShown}
use Rattle.zy_exec.specs.Kept.{Kept, StandsFor, settled}
use Rattle.zy_chain.specs.Heads.{head_of}
use Rattle.zy_exec.specs.Replay.{Point, along, origin}
use Rattle.zy_exec.specs.Snapshot.{snapshot_fields, snapshot_of}
use Rattle.zy_wire.specs.Spelling.{whole}
use Rattle.zy_parts.specs.declared.reports.Told.{Told}
use Rattle.zy_parts.specs.declared.statements.Check.{Check}
use Rattle.zy_table.specs.Adopting.{common_up_to, common_with, entries_between, taken_over, verdict_beside, verdict_of}
use Rattle.zy_table.specs.declared.deeds.Verdict.{Verdict}
use Rattle.zy_table.specs.declared.deeds.Verdict.TheVariants.{Refuse, Take}
use Rattle.zy_law_views.proofs.RunningOn.{has_at}
use Rattle.zy_law_views.specs.Adopted.{HaveBoth, with_entries}
use Rattle.zy_law_views.specs.Tied.{check_in}
use Rattle.zy_law_views.proofs.CommonPlaces.{common_shared, head_at_base, same_itself}
use Rattle.zy_base.specs.Step.{view_of}
use Rattle.zy_base.specs.declared.cause.Cause.{Cause}
use Rattle.zy_base.specs.declared.step.Answer.TheVariants.{Taken}
use Rattle.zy_base.specs.declared.step.Mode.{Mode}
use Rattle.zy_cert.specs.Equal.{digest-equal, same_digest}
use Rattle.zy_change.specs.Views.{own_view}
use Rattle.zy_check.specs.States.{state_cause}
use Rattle.zy_change.specs.declared.kept.Waiting.{Waiting}
use Rattle.zy_evidence.specs.WellFormed.{IsWellFormedChange}
use Rattle.zy_exec.specs.Reading.{is_rising}
use Rattle.zy_exec.specs.Showing.{point_in, point_of, slots_of}
use Rattle.zy_exec.specs.declared.row.Row.{Row}
use Rattle.zy_base.specs.declared.frame_fault.FrameFault.{FrameFault}
use Rattle.zy_law.proofs.QuorumLemmas.{All_at}
use Rattle.zy_law.specs.Steps.{MayStand, after_standing}
use Rattle.zy_law.specs.World.{World}
use Rattle.zy_law_normal.specs.Acts.{adopted_history}
use Rattle.zy_parts.specs.declared.reports.Change.{Change}
use Rattle.zy_parts.specs.declared.reports.Fetch.{Fetch}
use Rattle.zy_parts.specs.declared.signed.Signed.{Signed}
use Rattle.zy_table.specs.Adopting.{checkpoints_between, gots_of}
use Rattle.zy_table.specs.Beginning.{active_by, adopt, adopt_as, adopt_from, begin_view, begun, finished, take_up, wanted_of}
use Rattle.zy_table.specs.Deeds.{Going, begin, ends, refused}
use Rattle.zy_table.specs.Fetching.{install, installed, state_for, state_heard, state_judged, state_transfer}
use Rattle.zy_table.specs.Gathering.{settled_at}
use Rattle.zy_table.specs.Leaving.{Attempt, concluded, goes, is_overspent}
use Rattle.zy_table.specs.State as table
use Rattle.zy_table.specs.State.{State}
use Rattle.zy_table.specs.declared.deeds.Got.{Got}
use Rattle.zy_law_views.specs.Adopted.{IsHistoryKept, StandsByBytes}
use Rattle.zy_law_views.specs.Texts.{IsKept, Texts, digest_of}
use Rattle.zy_law_views.specs.Tied.{Core, IsAhead, IsTied, IsWaitingTied, stand_in}
use Rattle.zy_law_views.proofs.BeginsWith.{IsBegunOnInstalled, begins_installed, told_low}
use Rattle.zy_law_views.proofs.Led.{leads_nowhere}
use Rattle.zy_law_views.specs.Adoptions.{IsDue}
use Rattle.zy_law_views.specs.Cores.{core_of}
use Rattle.zy_law_views.specs.Rows.{IsReady, blames}
use Rattle.zy_law_views.proofs.Adopting.{ends_lawfully, rests}
use Rattle.zy_law_views.specs.Wanted.{IsUnwanted}
use Rattle.zy_law_views.specs.Work.{workplace_of}
use Rattle.zy_law_views.proofs.AtWork.{work_begins}
use Rattle.zy_law_views.proofs.Ending.{HasBegun, IsBefore, MayBegin, ends_begun}
use Rattle.zy_law_views.proofs.Taking.{gots_are, settled_stable, over_spaced, gots_headed}
use Rattle.zy_law_views.proofs.Worlds.{matching}
use Rattle.zy_law_views.specs.Steps.{IsLawfulStep, IsWorldOf, base_read, history_from, list_awaited}

-- ---- what is kept once it is installed

abbrev pub kept_at : {S : Type 0} → ℕ → Point S → Kept S
kept_at interval point = record { interval = interval; base = point; entries = [] }

pub settled_there : {S : Type 0} (R : Rules S) (interval : ℕ) (point : Point S) → settled R point.place (kept_at interval point) ≡ kept_at interval point
settled_there {S} R interval point =
    let n = point.place - point.place in
    let k : Point S → List Entry → Kept S = λ base entries. record { interval = interval; base = base; entries = entries } in
    ap (λ (l : List Entry). k (along R point l) (drop n [])) (take-nil n) ∙ ap (λ (base : Point S). k base (drop n [])) (along-nil R point) ∙ ap (k point) (drop-nil n)

-- the report's stable checkpoint is its own: the verdict is to take up the rest
pub taken_there : {S : Type 0} (R : Rules S) (k : Kept S) (stable : Check) (told : Told) (place : Place) (head : Digest) → stable ≡ check_in told → told.stable_place.0 ≤ place.0 → verdict_of R k stable told place head ≡ Take
unfolding verdict_of
taken_there R k stable told place head same above =
    let at : stable.place.0 ≡ told.stable_place.0 = ap (λ (c : Check). c.place.0) same in
    let beside : verdict_beside stable.head (head_in (stretch_of told) stable.place.0) ≡ Take =
    ap (λ (c : Check). verdict_beside c.head (head_in (stretch_of told) c.place.0)) same
    ∙ ap (verdict_beside told.stable_head) (head_at_base (stretch_of told))
    ∙ ap (λ (b : Bool). cond b Take (Refuse (causes.BelowStable told.stable_head told.stable_head))) (same_itself told.stable_head) in
    rw (le-ltb place.0 stable.place.0 (omega arith), le-leb told.stable_place.0 stable.place.0 (omega arith)) beside

-- ---- and what is taken over then

module _ {S : Type 0} (interval : ℕ) (point : Point S) (told : Told) (place : ℕ) (at : point.place ≡ told.stable_place.0) (head : point.head ≡ told.stable_head) (above : told.stable_place.0 ≤ place) where
  abbrev own : Stretch
  own = kept.stretch_of (kept_at interval point)

  both_there : HaveBoth (stretch_of told) own told.stable_place.0 told.stable_head
  both_there = record { first = head_at_base (stretch_of told); second = ap (head_in own) (sym at) ∙ head_at_base own ∙ ap (λ (d : Digest). Some d) head }

  -- both have only that place in common
  pub common_there : common_with (stretch_of told) place (kept_at interval point) ≡ told.stable_place.0
  common_there =
      let both = common_shared place told.stable_place.0 (stretch_of told) own told.stable_head above both_there in
      let has = has_at own (common_up_to place (stretch_of told) own) both.0 both.1.second in
      omega (arith, has.above, has.below, at)

  -- above it are the report's entries
  pub entries_there : entries_between (stretch_of told) (common_with (stretch_of told) place (kept_at interval point)) place ≡ take (place - told.stable_place.0) told.entries
  entries_there =
      let none : told.stable_place.0 - told.stable_place.0 ≡ 0 = omega arith in
      let all : (place - told.stable_place.0) - 0 ≡ place - told.stable_place.0 = omega arith in
      ap (λ (c : ℕ). entries_between (stretch_of told) c place) common_there
      ∙ ap (λ (n : ℕ). take ((place - told.stable_place.0) - n) (drop n told.entries)) none
      ∙ ap (λ (n : ℕ). take n told.entries) all

  pub over_there : taken_over (stretch_of told) place (kept_at interval point) ≡ with_entries (kept_at interval point) (take (place - told.stable_place.0) told.entries)
  unfolding taken_over
  over_there =
      let k : List Entry → Kept S = λ entries. record { interval = interval; base = point; entries = entries } in
      let given = entries_between (stretch_of told) (common_with (stretch_of told) place (kept_at interval point)) place in
      ap (λ (l : List Entry). k (l ++ given)) (take-nil _) ∙ ap k entries_there

-- ---- the row

-- What these bytes show as a snapshot of a place with a head, stands there for each list whose snapshot they are.
abbrev pub IsReading : {S : Type 0} → Rules S → List ℕ → Type 0
IsReading {S} R bytes =
    (place : Place) (head : Digest) (point : Point S) (interval : ℕ) → place.0 < 2 ^ 62 → point_in R place head bytes ≡ Some point
    → (point.place ≡ place.0) × (point.head ≡ head) × StandsByBytes R (record { place = place.0; head = head }) bytes (kept_at interval point)

-- whatever bytes show is at this place, with this head
shown_there : {S : Type 0} (R : Rules S) (place : Place) (head : Digest) (bytes : List ℕ) (point : Point S) → point_in R place head bytes ≡ Some point → (point.place ≡ place.0) × (point.head ≡ head)
unfolding point_in
shown_there {S} R place head bytes point = of (whole snapshot_fields bytes)
  where
    by : (rises : Bool) (read : Option S) (rows : List Row) → (if rises then option_map (λ state. record { place = place.0; head = head; state = state; known = slots_of rows }) read else None) ≡ Some point
        → (point.place ≡ place.0) × (point.head ≡ head)
    by false read rows is = absurd cc
    by true None rows is = absurd cc
    by true (Some state) rows is = let same = same_Some _ point is in (ap (λ (p : Point S). p.place) (sym same), ap (λ (p : Point S). p.head) (sym same))

    of : (read : Result (List Row × List ℕ) FrameFault) → point_of R place head read ≡ Some point → (point.place ≡ place.0) × (point.head ≡ head)
    of (Err fault) is = absurd cc
    of (Ok parts) is = by (is_rising 0 parts.0) (R.read parts.1) parts.0 is

-- a snapshot tells neither place nor head
snapshot_there : {S : Type 0} (R : Rules S) (p : Point S) (place : ℕ) (head : Digest) → snapshot_of R (record { place = place; head = head; state = p.state; known = p.known }) ≡ snapshot_of R p
unfolding snapshot_of
snapshot_there R p place head = refl

-- So it is by the laws of snapshots: where the bytes are the snapshot of such a list, they show what the list leads to.
pub reading_of : {S : Type 0} (IsState : S → Type 0) (R : Rules S)
    → ((place : Place) (head : Digest) (p : Point S) → IsShown IsState p → point_in R place head (snapshot_of R p) ≡ Some (record { place = place.0; head = head; state = p.state; known = p.known }))
    → ((history : List Entry) → All IsRunnable history → length history < 2 ^ 62 → IsShown IsState (along R (origin R) history))
    → ((interval place : ℕ) (head : Digest) (bytes : List ℕ) (k : Kept S) (history : List Entry) → IsInstalled IsState R interval place head bytes k → All IsRunnable history → place < 2 ^ 62
    → length history ≡ place → head_of history ≡ head → snapshot_of R (along R (origin R) history) ≡ bytes → StandsFor R k history)
    → (bytes : List ℕ) → IsReading R bytes
reading_of {S} IsState R shows leads stands bytes place head point interval within shown =
    let there = shown_there R place head bytes point shown in (
      there.0,
      there.1,
      record {
        place = there.0;
        above = refl;
        stands = λ list runnable long head_is snapshot.
            let last : Point S = along R (origin R) list in
            let led : IsShown IsState last = leads list runnable (omega (arith, long, within)) in
            let again = subst (λ (b : List ℕ). point_in R place head b ≡ Some (record { place = place.0; head = head; state = last.state; known = last.known })) snapshot (shows place head last led) in
            let same = same_Some _ point (sym again ∙ shown) in
            stands interval place.0 head bytes (kept_at interval point) list
            (record {
              interval_is = refl;
              place_is = there.0;
              head_is = there.1;
              nothing_above = refl;
              shown = subst (IsShown IsState) same (record { all_clients = led.all_clients; in_range = led.in_range; is_state = led.is_state });
              spelled = ap (snapshot_of R) (sym same) ∙ snapshot_there R last place.0 head ∙ snapshot;
            }) runnable within long head_is snapshot;
      },
    )

module _ {S : Type 0} (R : Rules S) (interval : ℕ) (texts : Texts) (w : World) (r : ℕ) (s : State S) (history : List Entry) (ready : IsReady R interval w r s history) (kept : IsWorldOf R interval w texts)
    (bytes : List ℕ) (reading : IsReading R bytes) (heard_at : Place) where
  -- of what blames others there is only that the bytes that came aren't those that are wanted
  abbrev pub IsOfBytes : Attempt S → Type 0
  IsOfBytes (Ok end) = Unit {0}
  IsOfBytes (Err cause) = blames cause ≡ true → IsUnwanted s heard_at bytes cause

  -- what the row comes to is lawful, and what refuses it is of the bytes
  pub record IsGoodEnd (attempt : Attempt S) : Type 0 where
    pub step : IsLawfulStep R interval texts w r s (history_from texts s history (finished R s attempt)) (finished R s attempt)
    pub of_bytes : IsOfBytes (begun R attempt)

  refuses_it : (cause : Cause) → IsLawfulStep R interval texts w r s (history_from texts s history (refused cause s)) (refused cause s)
  refuses_it cause = record { may = tt; tied = ready.tied; world = kept; signer = ready.signer; interval_is = ready.interval_is; gained = tt; works = λ work. work }

  refuses_freely : (cause : Cause) → blames cause ≡ false → IsGoodEnd (Err cause)
  refuses_freely cause free = record { step = refuses_it cause; of_bytes = λ blamed. absurd cc }

  -- it has begun, from the list that was awaited
  takes_it : (base : List Entry) (g : Going S) → list_awaited texts s.views.waiting ≡ base → HasBegun R interval texts w r s base g → IsGoodEnd (goes Taken g)
  takes_it base g awaited is =
      let rest = sym (rests R interval texts w r s base g is Taken) in
      record {
        step = subst (λ (attempt : Attempt S). IsLawfulStep R interval texts w r s (history_from texts s history (concluded s attempt)) (concluded s attempt)) rest (by (is_overspent g.state.sealer));
        of_bytes = subst (λ (attempt : Attempt S). IsOfBytes attempt) rest tt;
      }
    where
      by : (b : Bool) → IsLawfulStep R interval texts w r s (history_from texts s history (cond b (refused causes.KeySpent s) (ends Taken g))) (cond b (refused causes.KeySpent s) (ends Taken g))
      by true = refuses_it causes.KeySpent
      by false = subst (λ (l : List Entry). IsLawfulStep R interval texts w r s l (ends Taken g)) (sym awaited) (ends_lawfully R interval texts w r s base g Taken is.end)

  module _ (x : Waiting) (tied : IsWaitingTied interval w s.views.mode x) (p : Signed Change) (there : slice_get x.cert.new.stmt.changes x.chosen.provider ≡ Some p) (digest : texts p.stmt.told.state ≡ Some bytes)
      (point : Point S) (shown : point_in R p.stmt.told.stable_place p.stmt.told.stable_head bytes ≡ Some point) where
    abbrev told : Told
    told = p.stmt.told

    abbrev place : ℕ
    place = x.chosen.place.0

    due : IsDue interval w s x.cert x.chosen p
    due =
        let ahead : s.views.last_view.0 < x.cert.new.stmt.view.0 = subst (λ (mode : Mode). IsAhead s.views.last_view.0 mode) tied.leaving ready.tied.quiet.ahead in
        let own : own_view s.views ≡ x.cert.new.stmt.view.0 = ap (λ (mode : Mode). (view_of mode).0) tied.leaving in
        record { own = omega arith; later = ahead; new = tied.new; begans = tied.begans; there = there }

    formed : IsWellFormedChange w.counts interval p
    formed = All_at (IsWellFormedChange w.counts interval) x.cert.new.stmt.changes x.chosen.provider p there tied.new.proper.well_formed

    abbrev k : Kept S
    k = kept_at s.kept.interval point

    read_there : (point.place ≡ told.stable_place.0) × (point.head ≡ told.stable_head) × StandsByBytes R (stretch_of told).base bytes k
    read_there = reading told.stable_place told.stable_head point s.kept.interval (omega (arith, formed.itself.entries.end)) shown

    above : told.stable_place.0 ≤ place
    above = told_low R interval w r s history ready (matching R w kept.agrees) texts kept.kept x.cert x.chosen p due

    on_it : IsBegunOnInstalled R interval w r s history ready (matching R w kept.agrees) texts kept.kept x.cert x.chosen p due bytes k (tied.further p there) digest read_there.2
    on_it = begins_installed R interval w r s history ready (matching R w kept.agrees) texts kept.kept x.cert x.chosen p due bytes k (tied.further p there) digest read_there.2

    -- ---- the state that has it installed

    abbrev one : State S
    one = installed R point told s

    one_kept : one.kept ≡ k
    one_kept = settled_there R s.kept.interval point

    one_stable : (one.board.stable ≡ check_in told) × (one.board.proof ≡ told.checks)
    one_stable = settled_stable w.counts interval p s.board formed (tied.further p there)

    took : adopt R x.cert x.chosen (begin one) ≡ goes Taken (take_up R x.cert x.chosen told (begin one))
    unfolding adopt
    took =
        ap (λ (o : Option (Signed Change)). adopt_from R x.cert x.chosen o (begin one)) there
        ∙ ap (λ (v : Verdict). adopt_as R x.cert x.chosen told v (begin one)) (taken_there R one.kept one.board.stable told x.chosen.place x.chosen.head one_stable.0 above)

    -- ---- and the view begins

    abbrev common : Place
    common = record { 0 = common_with (stretch_of told) place one.kept }

    abbrev gots : List Got
    gots = gots_of R (stretch_of told) place one.kept

    abbrev given : List Entry
    given = take (place - told.stable_place.0) told.entries

    list_is : on_it.base ++ given ≡ adopted_history on_it.base common gots
    list_is =
        let at : common.0 ≡ told.stable_place.0 = ap (common_with (stretch_of told) place) one_kept ∙ common_there s.kept.interval point told place read_there.0 read_there.1 above in
        let front : take common.0 on_it.base ≡ on_it.base = take_all common.0 on_it.base (omega (arith, on_it.long)) in
        let gained : map (λ (got : Got). got.entry) gots ≡ given =
        ap (λ (c : Kept S). map (λ (got : Got). got.entry) (gots_of R (stretch_of told) place c)) one_kept
        ∙ gots_are R (stretch_of told) place k
        ∙ entries_there s.kept.interval point told place read_there.0 read_there.1 above in
        ap (λ (l : List Entry). l ++ given) (sym front) ∙ ap (λ (l : List Entry). take common.0 on_it.base ++ l) (sym gained)

    over_is : with_entries k given ≡ taken_over (stretch_of told) place one.kept
    over_is = sym (ap (taken_over (stretch_of told) place) one_kept ∙ over_there s.kept.interval point told place read_there.0 read_there.1 above)

    abbrev two : State S
    two = record one { kept = taken_over (stretch_of told) place one.kept }

    may_begin : MayBegin R interval texts w r s on_it.base w x.cert.new.stmt.view common gots (active_by x.cert x.chosen two)
    may_begin =
        let t : State S = active_by x.cert x.chosen two in
        let list : List Entry = on_it.base ++ given in
        let core : Kept S → Check → List (Signed Check) → Core S = λ kept check proof. record { views = t.views; kept = kept; stable = check; proof = proof } in
        let after = after_standing w r (stand_in x.cert list) in
        let tied_now : IsTied R interval after r (core_of t) list =
        subst (λ (check : Check). IsTied R interval after r (core two.kept check one.board.proof) list) (sym one_stable.0)
        (subst (λ (proof : List (Signed Check)). IsTied R interval after r (core two.kept (check_in told) proof) list) (sym one_stable.1)
        (subst (λ (over : Kept S). IsTied R interval after r (core over (check_in told) told.checks) list) over_is on_it.begun.tied)) in
        let adopted : List Entry = adopted_history on_it.base common gots in
        let tied_then : IsTied R interval (after_standing w r (stand_in x.cert adopted)) r (core_of t) adopted =
        subst (λ (l : List Entry). IsTied R interval (after_standing w r (stand_in x.cert l)) r (core_of t) l) list_is tied_now in
        record {
          may = subst (λ (l : List Entry). MayStand w r (stand_in x.cert l)) list_is on_it.begun.may;
          tied = tied_then;
          heads = gots_headed R (stretch_of told) place one.kept;
          works = λ work.
              work_begins R interval w r _ (stand_in x.cert adopted) (workplace_of s) t adopted work tied_then refl refl (over_spaced R (stretch_of told) place one.kept) refl refl refl
              (λ number x m request says what. let low = ready.tied.quiet.ordered number x _ m request says what in let past = due.later in omega arith);
          kept = subst (λ (l : List Entry). IsHistoryKept R interval texts l) list_is on_it.kept_too;
          active = refl;
          signer = ready.signer;
          interval_is = ready.interval_is;
        }

    begins_by : (b : Bool) → nat_lt one.board.stable.place.0 told.stable_place.0 ≡ b
        → MayBegin R interval texts w r s on_it.base w x.cert.new.stmt.view common gots (active_by x.cert x.chosen (cond b (settled_at R told.stable_place.0 told.checks two) two))
    begins_by true past = let further = ltb-true _ _ past in let same = ap (λ (c : Check). c.place.0) one_stable.0 in absurd (omega arith)
    begins_by false low = may_begin

    before : IsBefore R interval texts w r s on_it.base [] w
    before =
        record {
          lead = leads_nowhere w r (table.own_view s) (length (w.past r) - 1) on_it.base;
          lawful = ready.lawful;
          links = ready.links;
          correct = ready.correct;
          stands = omega (arith, ready.tied.standing.last);
          kept = kept;
          idle = refl;
          back = λ e may. may;
        }

    begins : HasBegun R interval texts w r s on_it.base (take_up R x.cert x.chosen told (begin one))
    unfolding take_up
    begins =
        let begun = begin_view R x.cert x.chosen told (begin one) in
        ends_begun R interval texts w r s on_it.base [] w before x.cert.new.stmt.view common gots begun.state (begins_by (nat_lt one.board.stable.place.0 told.stable_place.0) refl) begun.deeds refl
        (checkpoints_between begun.state.kept.interval begun.state.board.stable.place.0 place)

    pub installs : s.views.waiting ≡ Some x → IsGoodEnd (adopt R x.cert x.chosen (begin one))
    installs waits =
        let awaited : list_awaited texts s.views.waiting ≡ on_it.base =
        ap (list_awaited texts) waits ∙ ap (base_read texts) there ∙ ap (λ (o : Option (List Entry)). unwrap_or o []) on_it.read in
        subst (λ (attempt : Attempt S). IsGoodEnd attempt) (sym took) (takes_it on_it.base (take_up R x.cert x.chosen told (begin one)) awaited begins)

  -- ---- a snapshot that is wanted

  wanted_is : (wanted : Fetch) (place : Place) → state_cause wanted place bytes ≡ None → wanted.state ≡ digest_of bytes
  wanted_is wanted place = by (nat_eq place.0 wanted.place.0) (same_digest wanted.state (digest_of bytes)) refl
    where
      by : (there same : Bool) → same_digest wanted.state (digest_of bytes) ≡ same
          → cond there (cond same None (Some (causes.WrongState wanted.state (digest_of bytes)))) (Some causes.Unmatched) ≡ None → wanted.state ≡ digest_of bytes
      by true true same is = (digest-equal wanted.state (digest_of bytes)).0 same
      by true false other is = absurd cc
      by false same same_is is = absurd cc

  wrong_of : (x : Waiting) → s.views.waiting ≡ Some x → (p : Signed Change) → slice_get x.cert.new.stmt.changes x.chosen.provider ≡ Some p
      → (cause : Cause) → state_cause (wanted_of p.stmt.told) heard_at bytes ≡ Some cause → blames cause ≡ true → IsUnwanted s heard_at bytes cause
  wrong_of x waits p there cause = by (nat_eq heard_at.0 p.stmt.told.stable_place.0) (same_digest p.stmt.told.state (digest_of bytes)) refl refl
    where
      by : (here same : Bool) → nat_eq heard_at.0 p.stmt.told.stable_place.0 ≡ here → same_digest p.stmt.told.state (digest_of bytes) ≡ same
          → cond here (cond same None (Some (causes.WrongState p.stmt.told.state (digest_of bytes)))) (Some causes.Unmatched) ≡ Some cause → blames cause ≡ true → IsUnwanted s heard_at bytes cause
      by true true here_is same_is is blamed = absurd cc
      by true false here_is same_is is blamed =
          record {
            waiting = x;
            waits = waits;
            report = p;
            provides = there;
            placed = eqb-true _ _ here_is;
            other = λ equal. let both : false ≡ true = sym same_is ∙ (digest-equal p.stmt.told.state (digest_of bytes)).1 equal in absurd cc;
            told = sym (same_Some (causes.WrongState p.stmt.told.state (digest_of bytes)) cause is);
          }
      by false same here_is same_is is blamed = let free = subst (λ (c : Cause). blames c ≡ true) (sym (same_Some causes.Unmatched cause is)) blamed in absurd cc

  module _ (kept_bytes : IsKept texts bytes) where
    shows : (x : Waiting) → s.views.waiting ≡ Some x → IsWaitingTied interval w s.views.mode x → (p : Signed Change) → slice_get x.cert.new.stmt.changes x.chosen.provider ≡ Some p → p.stmt.told.state ≡ digest_of bytes
        → (shown : Option (Point S)) → point_in R p.stmt.told.stable_place p.stmt.told.stable_head bytes ≡ shown → IsGoodEnd (install R s x p.stmt.told shown)
    shows x waits tied p there digest None shown = refuses_freely causes.NotState refl
    shows x waits tied p there digest (Some point) shown = installs x tied p there (ap texts digest ∙ kept_bytes) point shown waits

    judges : (x : Waiting) → s.views.waiting ≡ Some x → IsWaitingTied interval w s.views.mode x → (p : Signed Change) → slice_get x.cert.new.stmt.changes x.chosen.provider ≡ Some p
        → (against : Option Cause) → state_cause (wanted_of p.stmt.told) heard_at bytes ≡ against → IsGoodEnd (state_judged R s x p.stmt.told bytes against)
    judges x waits tied p there (Some cause) is = record { step = refuses_it cause; of_bytes = λ blamed. wrong_of x waits p there cause is blamed }
    judges x waits tied p there None is =
        shows x waits tied p there (wanted_is (wanted_of p.stmt.told) heard_at is) (point_in R p.stmt.told.stable_place p.stmt.told.stable_head bytes) refl

    is_for : (x : Waiting) → s.views.waiting ≡ Some x → IsWaitingTied interval w s.views.mode x → (p : Option (Signed Change)) → slice_get x.cert.new.stmt.changes x.chosen.provider ≡ p
        → IsGoodEnd (state_for R s x heard_at bytes p)
    is_for x waits tied None there = refuses_freely causes.Unmatched refl
    is_for x waits tied (Some p) there = judges x waits tied p there (state_cause (wanted_of p.stmt.told) heard_at bytes) refl

    hears : (waiting : Option Waiting) → s.views.waiting ≡ waiting → IfSome waiting (IsWaitingTied interval w s.views.mode) → IsGoodEnd (state_heard R s heard_at bytes waiting)
    hears None waits tied = refuses_freely causes.Unmatched refl
    hears (Some x) waits tied = is_for x waits tied (slice_get x.cert.new.stmt.changes x.chosen.provider) refl

    pub state_lawful : IsGoodEnd (state_transfer R s heard_at bytes)
    unfolding state_transfer
    state_lawful = hears s.views.waiting refl ready.tied.hearing.waiting
