-- A replica on its way waits for the snapshot on which the choice of a certificate stands, and asks for it.
use Rattle.std.proofs.Common.{◌≡◌, ℕ, ◌<◌, ◌≤◌, nat_le, nat_lt, Bool, true, false, cond, List, Option, Some, None, refl, sym, ap, ◌∙◌, subst, arith}
use Rattle.std.specs.Prelude.{slice_get}
use Rattle.std.proofs.lemmas.Bool.{leb-false, ltb-false, ltb-true}
use Rattle.std.proofs.lemmas.Option.{same_Some}
use Rattle.zy_base.specs.Machine.{Rules}
use Rattle.zy_base.specs.Step.{view_of}
use Rattle.zy_base.specs.declared.cause.Cause.TheVariants as causes
use Rattle.zy_base.specs.declared.ids.Digest.{Digest}
use Rattle.zy_base.specs.declared.ids.Party.{Party}
use Rattle.zy_base.specs.declared.ids.Place.{Place}
use Rattle.zy_base.specs.declared.ids.View.{View}
use Rattle.zy_base.specs.declared.step.Mode.{Mode}
use Rattle.zy_base.specs.declared.step.Mode.TheVariants.{Active, Leaving}
use Rattle.zy_cert.specs.Equal.{same_digest}
use Rattle.zy_chain.specs.Stretch.{head_in}
use Rattle.zy_chain.specs.declared.entry.Entry.{Entry}
use Rattle.zy_change.specs.Views.{own_view}
use Rattle.zy_change.specs.declared.kept.Chosen.{Chosen}
use Rattle.zy_change.specs.declared.kept.Waiting.{Waiting}
use Rattle.zy_evidence.specs.Reading.{stretch_of}
use Rattle.zy_exec.specs.Kept as kept
use Rattle.zy_exec.specs.Kept.{Kept}
use Rattle.zy_law.specs.World.{World}
use Rattle.zy_parts.specs.declared.reports.Change.{Change}
use Rattle.zy_parts.specs.declared.reports.Fetch.{Fetch}
use Rattle.zy_parts.specs.declared.reports.New.{New}
use Rattle.zy_parts.specs.declared.reports.Told.{Told}
use Rattle.zy_parts.specs.declared.signed.Signed.{Signed}
use Rattle.zy_parts.specs.declared.statements.Check.{Check}
use Rattle.zy_table.specs.Adopting.{verdict_above, verdict_beside, verdict_of}
use Rattle.zy_table.specs.Beginning.{arrive, ask_each, asked_of, fetch_said, kept_waiting, wait_for, wanted_of}
use Rattle.zy_table.specs.Deeds.{Going}
use Rattle.zy_table.specs.Leaving.{leave_alone}
use Rattle.zy_table.specs.State as table
use Rattle.zy_table.specs.State.{State}
use Rattle.zy_table.specs.declared.deeds.Body.TheVariants as bodies
use Rattle.zy_table.specs.declared.deeds.Verdict.TheVariants.{Refuse, Take, Wait}
use Rattle.zy_vframes.specs.declared.frame.ViewCert.{ViewCert}
use Rattle.zy_law_views.proofs.InView.{says_other}
use Rattle.zy_law_views.proofs.TieKept.{tied_heard}
use Rattle.zy_law_views.proofs.TiedGrown.{chosen_said, parts_said}
use Rattle.zy_law_views.specs.Tied.{IsAhead, IsChosenNew, IsHearing, IsViewCert, IsWaitingTied, with_heard}
use Rattle.zy_law_views.specs.Told.{began_told}
use Rattle.zy_law_views.proofs.HeardRows.{sent_more}
use Rattle.zy_law_views.proofs.AtWork.{works_said}
use Rattle.zy_law_views.proofs.Leaves.{IsOnWay, leave_on, leave_says, left_mode, said_more}
use Rattle.zy_law_views.specs.Adoptions.{IsDue}
use Rattle.zy_law_views.specs.Cores.{core_of}
use Rattle.zy_law_views.specs.Rows.{IsReady}

-- ---- what is waited for is of a place further on

never_beside : (own : Digest) (o : Option Digest) → verdict_beside own o ≡ Wait → ⊥
never_beside own None is = cc
never_beside own (Some other) is = by (same_digest own other) is
  where
    by : (b : Bool) → cond b Take (Refuse (causes.BelowStable own other)) ≡ Wait → ⊥
    by true is = cc
    by false is = cc

pub waits_further : {S : Type 0} (R : Rules S) (k : Kept S) (stable : Check) (told : Told) (place : Place) (head : Digest) → verdict_of R k stable told place head ≡ Wait → stable.place.0 < told.stable_place.0
unfolding verdict_of
waits_further R k stable told place head = by (nat_lt place.0 stable.place.0) (nat_le told.stable_place.0 stable.place.0) refl
  where
    by : (low below : Bool) → nat_le told.stable_place.0 stable.place.0 ≡ below
        → cond low (Refuse (causes.BelowStable stable.head head))
        (cond below (verdict_beside stable.head (head_in (stretch_of told) stable.place.0)) (verdict_above R k told (head_in (kept.stretch_of k) told.stable_place.0))) ≡ Wait → stable.place.0 < told.stable_place.0
    by true below is_below is = absurd cc
    by false true is_below is = absurd (never_beside stable.head (head_in (stretch_of told) stable.place.0) is)
    by false false is_above is = let past = leb-false _ _ is_above in omega arith

-- ---- as it leaves for the certificate's view

-- a view that it may begin, and isn't above its own, is that for which it leaves
pub mode_is : (last : ℕ) (mode : Mode) (view : View) → IsAhead last mode → last < view.0 → (view_of mode).0 ≡ view.0 → mode ≡ Leaving view
mode_is last (Active own) view ahead later same = absurd (omega arith)
mode_is last (Leaving own) view ahead later same = ap (λ (n : ℕ). Leaving (record { 0 = n })) same

module _ {S : Type 0} (R : Rules S) (interval : ℕ) (w : World) (r : ℕ) (s : State S) (history : List Entry) (ready : IsReady R interval w r s history) where
  -- It leaves for a view, and whatever it was to make of a new view stands.
  pub record IsArrived (world : World) (view : View) (g : Going S) : Type 0 where
    pub way : IsOnWay R interval w r s history ready g
    pub leaving : g.state.views.mode ≡ Leaving view
    pub chosen : (n : New) (c : Chosen) → IsChosenNew interval world n c → IsChosenNew interval way.world n c
    pub certified : (n : New) (c : Chosen) (begans : _) → IsViewCert world n c begans → IsViewCert way.world n c begans

  module _ (g : Going S) (way : IsOnWay R interval w r s history ready g) (view : View) (own : own_view g.state.views ≤ view.0) (later : g.state.views.last_view.0 < view.0) where
    pub arrived : IsArrived way.world view (arrive R view g)
    arrived = by (nat_lt (table.own_view g.state) view.0) refl
      where
        by : (b : Bool) → nat_lt (table.own_view g.state) view.0 ≡ b → IsArrived way.world view (cond b (leave_alone R view g) g)
        by true above =
            let less = ltb-true _ _ above in
            let less_is : own_view g.state.views < view.0 = omega arith in
            let gone = leave_on R interval w r s history ready g way view less_is in
            let says = leave_says R interval w r s history ready g way view less_is in
            record {
              way = gone;
              leaving = left_mode R view g;
              chosen = λ n c is. subst (λ (u : World). IsChosenNew interval u n c) (sym says) (chosen_said way.world r _ interval n c is);
              certified = λ n c begans is.
                  subst (λ (u : World). IsViewCert u n c begans) (sym says) (record { certificate = is.certificate; held = parts_said way.world r _ began_told begans is.held });
            }
        by false below =
            let no_less = ltb-false _ _ below in
            record {
              way = way;
              leaving = mode_is g.state.views.last_view.0 g.state.views.mode view way.tied.quiet.ahead later (omega arith);
              chosen = λ n c is. is;
              certified = λ n c begans is. is;
            }

  -- ---- the certificate waits

  module _ (world : World) (cert : ViewCert) (chosen : Chosen) (p : Signed Change) (g : Going S) (is : IsArrived world cert.new.stmt.view g) (new : IsChosenNew interval world cert.new.stmt chosen)
      (begans : IsViewCert world cert.new.stmt chosen cert.begans) (there : slice_get cert.new.stmt.changes chosen.provider ≡ Some p) (further : 0 < p.stmt.told.stable_place.0) where
    abbrev waits : Waiting
    waits = record { cert = cert; chosen = chosen }

    waiting : IsWaitingTied interval is.way.world g.state.views.mode waits
    waiting =
        record {
          leaving = is.leaving;
          new = is.chosen cert.new.stmt chosen new;
          begans = is.certified cert.new.stmt chosen cert.begans begans;
          further = λ q at. subst (λ (x : Signed Change). 0 < x.stmt.told.stable_place.0) (same_Some p q (sym there ∙ at)) further;
        }

    kept_waits : IsOnWay R interval w r s history ready (kept_waiting cert chosen g)
    kept_waits =
        let v = g.state.views in
        let hearing = is.way.tied.hearing in
        let heard : IsHearing interval is.way.world (with_heard v.changes v.begans v.hated (Some waits) (core_of g.state)).views =
        record { changes = hearing.changes; begans = hearing.begans; accepted = hearing.accepted; waiting = waiting } in
        record {
          world = is.way.world;
          lead = is.way.lead;
          told = is.way.told;
          world_is = is.way.world_is;
          now = is.way.now;
          lawful = is.way.lawful;
          links = is.way.links;
          correct = is.way.correct;
          tied = tied_heard R interval is.way.world is.way.lawful r is.way.correct (core_of g.state) history is.way.tied v.changes v.begans v.hated (Some waits) heard;
          signer = is.way.signer;
          interval_is = is.way.interval_is;
          idle = is.way.idle;
          works = is.way.works;
        }

  -- ---- the snapshot is asked for: that is said of no view, and changes nothing that it is tied by

  asks_each : (wanted : Fetch) (said : Option (Signed Fetch)) (parties : List Party) (g : Going S) → IsOnWay R interval w r s history ready g → IsOnWay R interval w r s history ready (ask_each R wanted said parties g)
  asks_each wanted (Some said) parties g way = sent_more R interval w r s history ready g _ way
  asks_each wanted None parties g way =
      let says = says_other R interval way.world way.lawful r way.correct (core_of g.state) history way.tied in
      said_more R interval w r s history ready g way (record { body = bodies.Fetch wanted; stood = table.stood_of R g.state }) (ask_each R wanted None parties g) refl says.may says.tied way.signer way.interval_is
      (works_said interval way.world r _ g.state (λ v m request told. absurd cc))

  pub waits_for : (cert : ViewCert) (chosen : Chosen) (p : Signed Change) (g : Going S) (way : IsOnWay R interval w r s history ready g) → IsDue interval way.world g.state cert chosen p → 0 < p.stmt.told.stable_place.0
      → IsOnWay R interval w r s history ready (wait_for R cert chosen p.stmt.told g)
  unfolding wait_for
  waits_for cert chosen p g way due further =
      let is = arrived g way cert.new.stmt.view due.own due.later in
      let wanted = wanted_of p.stmt.told in
      let next = kept_waiting cert chosen (arrive R cert.new.stmt.view g) in
      asks_each wanted (fetch_said next.state wanted) (asked_of next.state p.stmt.told.checks) next
      (kept_waits way.world cert chosen p (arrive R cert.new.stmt.view g) is due.new due.begans due.there further)
