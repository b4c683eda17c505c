-- The tie at the start, as a replica runs on in its view, holds a further commit certificate, settles, and keeps what it hears.
use Rattle.std.proofs.Common.{◌≡◌, ℕ, ◌<◌, ◌≤◌, nat_lt, Bool, true, false, cond, inl, List, [], ◌∷◌, ◌++◌, length, fold, Option, Some, None, refl, sym, ap, ◌∙◌, subst, arith}
use Rattle.std.specs.Prelude.{IfSome, slice_get}
use Rattle.std.proofs.lemmas.Bool.{ltb-false, ltb-true}
use Rattle.std.proofs.lemmas.List.{length-append}
use Rattle.std.proofs.lemmas.List.Elements.{All-push}
use Rattle.zy_base.specs.Machine.{Rules}
use Rattle.zy_base.specs.declared.ids.Digest.{Digest}
use Rattle.zy_base.specs.declared.ids.Place.{Place}
use Rattle.zy_base.specs.declared.ids.ReplicaId.{ReplicaId}
use Rattle.zy_base.specs.declared.ids.View.{View}
use Rattle.zy_base.specs.Step.{view_of}
use Rattle.zy_base.specs.declared.step.Mode.{Mode}
use Rattle.zy_base.specs.declared.step.Mode.TheVariants.{Active}
use Rattle.zy_chain.specs.Heads.{empty_head}
use Rattle.zy_chain.specs.declared.entry.Entry.{Entry}
use Rattle.zy_change.proofs.FitLemmas.{none_filled}
use Rattle.zy_change.specs.Views.{Slots, Views, is_further, own_view, with_specs}
use Rattle.zy_change.specs.declared.kept.Certificate.{Certificate}
use Rattle.zy_change.specs.declared.kept.Waiting.{Waiting}
use Rattle.zy_exec.proofs.HistoryLemmas.{stands_at_origin, stands_run}
use Rattle.zy_exec.proofs.SettleLemmas.{stands_settled}
use Rattle.zy_exec.specs.Kept.{last_place}
use Rattle.zy_law.proofs.HistoryLemmas.{Passes-longer}
use Rattle.zy_law.specs.Histories.{AreKept, IsFront}
use Rattle.zy_law.specs.Lawful.{IsLawful}
use Rattle.zy_law.specs.Said.{IsCorrect, Moment, Says}
use Rattle.zy_law.specs.Steps.{IsStart, MayStand, after_standing}
use Rattle.zy_law.specs.World.{Spoken, Stand, World}
use Rattle.zy_parts.specs.declared.reports.Began.{Began}
use Rattle.zy_parts.specs.declared.reports.Change.{Change}
use Rattle.zy_parts.specs.declared.signed.Signed.{Signed}
use Rattle.zy_parts.specs.declared.statements.Check.{Check}
use Rattle.zy_parts.specs.declared.statements.Spec.{Spec}
use Rattle.zy_law_views.specs.Tied.{Core, IsAhead, IsCommitHeld, IsFarEnough, IsGrounded, IsHearing, IsRunnableNext, IsTied, told_by, core_at_start, ran_with, settled_with, with_heard}
use Rattle.zy_law_views.specs.Told.{began_told}
use Rattle.zy_law_views.proofs.TiedGrown.{commit_stood, grounded_stood, hearing_stood, one_longer, parts_stood, stood_last}
use Rattle.zy_chain.specs.Entries.{IsOfClients}

-- ---- the start

none_said : {C : Type 0} (w : World) (r : ℕ) → w.said r ≡ [] → (number : ℕ) (x : Spoken) → Says w r number x → C
none_said w r silent number x says =
    let nothing : slice_get [] number ≡ Some x = ap (λ (l : List Spoken). slice_get l number) (sym silent) ∙ says in
    absurd cc

pub tied_at_start : {S : Type 0} (R : Rules S) (interval r : ℕ) (w : World) (me : ReplicaId) (state : Digest) → 0 < interval → w.interval ≡ interval → IsStart w → IsCorrect w r → me.0 ≡ r → state ≡ w.state [] → IsTied R interval w r (core_at_start R interval w.counts me state) []
tied_at_start {S} R interval r w me state some apart start correct is told =
    let silent = start.silent r correct in
    record {
      spaced = apart;
      standing = record {
        me = is;
        counts = refl;
        number = 0;
        stood = ap (λ (l : List Stand). slice_get l 0) (start.stands r correct);
        last = sym (ap (λ (l : List Stand). length l) (start.stands r correct));
        stands = stands_at_origin R interval;
      };
      quiet = record {
        ahead = refl;
        gone = tt;
        left = λ number x view report says what. none_said w r silent number x says;
        confirmed = λ number x view m says what. none_said w r silent number x says;
        once = λ number x m says what. tt;
        gave = λ number x view reports says what. none_said w r silent number x says;
        gave_once = λ number x reports says what. tt;
        voted = λ number x view m says vote. none_said w r silent number x says;
        ordered = λ number x view m request says what. none_said w r silent number x says;
      };
      grounded = record {
        place = refl;
        head = refl;
        view = omega arith;
        multiple = omega arith;
        proven = record { first = λ none. record { view = refl; head = refl; unproven = refl }; later = λ later. absurd (later refl) };
        empty = λ none. told;
        held = λ k d within. absurd (omega arith);
        few = omega arith;
        clients = λ k d within. absurd (omega arith);
        end = omega arith;
      };
      begun = record {
        began = record { first = λ none. record { place = refl; head = refl; unconfirmed = refl }; later = λ later. absurd (later refl) };
        held = λ k d within. absurd (omega arith);
        passes = record { within = omega arith; head = refl };
        commit = tt;
        covered = λ number x m says vote. none_said w r silent number x says;
      };
      hearing = record {
        changes = λ id c at. absurd (none_filled w.counts.n id c at);
        begans = λ id b at. absurd (none_filled w.counts.n id b at);
        accepted = tt;
        waiting = tt;
      };
    }

-- ---- one entry more

AreKept-push : (kept : Digest → Entry → Bool) (next : Digest → Entry → Digest) (head : Digest) (entries : List Entry) (e : Entry) → AreKept kept next head entries → kept (fold next head entries) e ≡ true
    → AreKept kept next head (entries ++ e ∷ [])
AreKept-push kept next head [] e all link = (link, tt)
AreKept-push kept next head (d ∷ entries) e all link = (all.0, AreKept-push kept next (next head d) entries e all.1 link)

commit_longer : (w : World) (last : View) (near far : List Entry) → IsFront near far → (o : Option Certificate) → IfSome o (IsCommitHeld w last near) → IfSome o (IsCommitHeld w last far)
commit_longer w last near far front None is = tt
commit_longer w last near far front (Some held) is = record { head = is.head; certificate = is.certificate; held = is.held; passes = Passes-longer w.next near far _ front is.passes }

module _ {S : Type 0} (R : Rules S) (interval : ℕ) (w : World) (lawful : IsLawful w) (r : ℕ) (correct : IsCorrect w r) (c : Core S) (history : List Entry) (tied : IsTied R interval w r c history) where
  module _ (view : View) (active : c.views.mode ≡ Active view) (e : Entry) (is : IsRunnableNext interval w r c history e) where
    abbrev stand : Stand
    stand = record { view = c.views.last_view.0; history = history ++ e ∷ [] }

    abbrev here : Moment w
    here = record { by = r; correct = correct; number = tied.standing.number; stand = record { view = c.views.last_view.0; history = history }; stood = tied.standing.stood }

    own_is : own_view c.views ≡ c.views.last_view.0
    own_is = ap (λ (mode : Mode). (view_of mode).0) active ∙ subst (λ (mode : Mode). IsAhead c.views.last_view.0 mode) active tied.quiet.ahead

    pub may_run : MayStand w r stand
    may_run =
        record {
          last = record { view = c.views.last_view.0; history = history };
          number = tied.standing.number;
          stood = tied.standing.stood;
          now = tied.standing.last;
          growth = inl (refl, (e ∷ [], refl));
          asked_for = λ same. is.asked;
          begun = λ less. absurd (omega arith);
          texts = AreKept-push w.kept w.next empty_head history e (lawful.texts here) is.link;
          no_return = λ number x other report says what. omega (arith, tied.quiet.left number x other report says what, own_is);
          ordered = is.ordered;
        }

    pub tied_run : IsTied R interval (after_standing w r stand) r (ran_with e c) (history ++ e ∷ [])
    tied_run =
        let grounded = grounded_stood w r stand R interval c tied.grounded in
        let begun = tied.begun in
        let proven = grounded.proven in
        let long = length-append c.kept.entries (e ∷ []) in
        record {
          spaced = tied.spaced;
          standing = record {
            me = tied.standing.me;
            counts = tied.standing.counts;
            number = length (w.past r);
            stood = stood_last w r stand;
            last = one_longer w r stand;
            stands = stands_run R c.kept history e tied.standing.stands;
          };
          quiet = record {
            ahead = tied.quiet.ahead;
            gone = tied.quiet.gone;
            left = tied.quiet.left;
            confirmed = tied.quiet.confirmed;
            once = tied.quiet.once;
            gave = tied.quiet.gave;
            gave_once = tied.quiet.gave_once;
            voted = tied.quiet.voted;
            ordered = tied.quiet.ordered;
          };
          grounded = record {
            place = grounded.place;
            head = grounded.head;
            view = grounded.view;
            multiple = grounded.multiple;
            proven = record {
              first = λ none. let first = proven.first none in record { view = first.view; head = first.head; unproven = first.unproven };
              later = λ some. let later = proven.later some in record { certificate = later.certificate; state = later.state };
            };
            empty = grounded.empty;
            held = grounded.held;
            few = omega (arith, is.room, long);
            clients = All-push IsOfClients c.kept.entries e grounded.clients is.client;
            end = omega (arith, is.end, long);
          };
          begun = record {
            began = record {
              first = λ none. let first = begun.began.first none in record { place = first.place; head = first.head; unconfirmed = first.unconfirmed };
              later = begun.began.later;
            };
            held = parts_stood w r stand began_told (told_by c).began begun.held;
            passes = Passes-longer w.next history (history ++ e ∷ []) _ (e ∷ [], refl) begun.passes;
            commit = commit_stood w r stand c.views.last_view (history ++ e ∷ []) c.views.specs (commit_longer w c.views.last_view history (history ++ e ∷ []) (e ∷ [], refl) c.views.specs begun.commit);
            covered = begun.covered;
          };
          hearing = hearing_stood w r stand interval c.views tied.hearing;
        }

  -- ---- a later base

  pub tied_settled : (place : ℕ) (stable : Check) (proof : List (Signed Check)) → c.kept.base.place ≤ place → place ≤ last_place c.kept → IsGrounded interval w (settled_with R place stable proof c)
      → IsTied R interval w r (settled_with R place stable proof c) history
  tied_settled place stable proof above below grounded =
      let begun = tied.begun in
      record {
        spaced = tied.spaced;
        standing = record {
          me = tied.standing.me;
          counts = tied.standing.counts;
          number = tied.standing.number;
          stood = tied.standing.stood;
          last = tied.standing.last;
          stands = stands_settled R c.kept history place above below tied.standing.stands;
        };
        quiet = tied.quiet;
        grounded = grounded;
        begun = record {
          began = record {
            first = λ none. let first = begun.began.first none in record { place = first.place; head = first.head; unconfirmed = first.unconfirmed };
            later = begun.began.later;
          };
          held = begun.held;
          passes = begun.passes;
          commit = begun.commit;
          covered = begun.covered;
        };
        hearing = tied.hearing;
      }

  -- ---- what is heard

  module _ (changes : Slots Change) (begans : Slots Began) (hated : List Bool) (waiting : Option Waiting) (hearing : IsHearing interval w (with_heard changes begans hated waiting c).views) where
    pub tied_heard : IsTied R interval w r (with_heard changes begans hated waiting c) history
    tied_heard =
        let grounded = tied.grounded in
        let begun = tied.begun in
        record {
          spaced = tied.spaced;
          standing = record {
            me = tied.standing.me;
            counts = tied.standing.counts;
            number = tied.standing.number;
            stood = tied.standing.stood;
            last = tied.standing.last;
            stands = tied.standing.stands;
          };
          quiet = record {
            ahead = tied.quiet.ahead;
            gone = tied.quiet.gone;
            left = tied.quiet.left;
            confirmed = tied.quiet.confirmed;
            once = tied.quiet.once;
            gave = tied.quiet.gave;
            gave_once = tied.quiet.gave_once;
            voted = tied.quiet.voted;
            ordered = tied.quiet.ordered;
          };
          grounded = record {
            place = grounded.place;
            head = grounded.head;
            view = grounded.view;
            multiple = grounded.multiple;
            proven = grounded.proven;
            empty = grounded.empty;
            held = grounded.held;
            few = grounded.few;
            clients = grounded.clients;
            end = grounded.end;
          };
          begun = record { began = begun.began; held = begun.held; passes = begun.passes; commit = begun.commit; covered = begun.covered };
          hearing = hearing;
        }

  -- ---- a further certificate

  with_certificate : (b : Bool) (held : Certificate) → Core S
  with_certificate b held = record c { views = cond b (record c.views { specs = Some held }) c.views }

  further_covers : (o : Option Certificate) (held : Certificate) (place : ℕ) → is_further held.place o ≡ true → IsFarEnough o place → IsFarEnough (Some held) place
  further_covers None held place further far = let never = far.is in absurd cc
  further_covers (Some own) held place further far =
      let there = far.is in
      let same : own ≡ far.own = cc in
      record { own = held; is = refl; far = omega (arith, far.far, ltb-true own.place.0 held.place.0 further, ap (λ (x : Certificate). x.place.0) same) }

  held_by : (b : Bool) (held : Certificate) → is_further held.place c.views.specs ≡ b → IsCommitHeld w c.views.last_view history held → IsTied R interval w r (with_certificate b held) history
  unfolding with_certificate
  held_by false held told is = tied
  held_by true held told is =
      let grounded = tied.grounded in
      let begun = tied.begun in
      let proven = grounded.proven in
      record {
        spaced = tied.spaced;
        standing = record {
          me = tied.standing.me;
          counts = tied.standing.counts;
          number = tied.standing.number;
          stood = tied.standing.stood;
          last = tied.standing.last;
          stands = tied.standing.stands;
        };
        quiet = record {
          ahead = tied.quiet.ahead;
          gone = tied.quiet.gone;
          left = tied.quiet.left;
          confirmed = tied.quiet.confirmed;
          once = tied.quiet.once;
          gave = tied.quiet.gave;
          gave_once = tied.quiet.gave_once;
          voted = tied.quiet.voted;
          ordered = tied.quiet.ordered;
        };
        grounded = record {
          place = grounded.place;
          head = grounded.head;
          view = grounded.view;
          multiple = grounded.multiple;
          proven = record {
            first = λ none. let first = proven.first none in record { view = first.view; head = first.head; unproven = first.unproven };
            later = λ some. let later = proven.later some in record { certificate = later.certificate; state = later.state };
          };
          empty = grounded.empty;
          held = grounded.held;
          few = grounded.few;
          clients = grounded.clients;
          end = grounded.end;
        };
        begun = record {
          began = record {
            first = λ none. let first = begun.began.first none in record { place = first.place; head = first.head; unconfirmed = first.unconfirmed };
            later = begun.began.later;
          };
          held = begun.held;
          passes = begun.passes;
          commit = is;
          covered = λ number x m says vote. further_covers c.views.specs held m.place told (begun.covered number x m says vote);
        };
        hearing = record { changes = tied.hearing.changes; begans = tied.hearing.begans; accepted = tied.hearing.accepted; waiting = tied.hearing.waiting };
      }

  pub tied_holding : (place : Place) (specs : List (Signed Spec)) → IsCommitHeld w c.views.last_view history (record { place = place; specs = specs }) → IsTied R interval w r (record c { views = with_specs place specs c.views }) history
  unfolding with_certificate
  tied_holding place specs is = held_by (is_further place c.views.specs) (record { place = place; specs = specs }) refl is

far_of : (o : Option Certificate) (place : Place) (specs : List (Signed Spec)) → IsFarEnough (cond (is_further place o) (Some (record { place = place; specs = specs })) o) place.0
far_of None place specs = record { own = record { place = place; specs = specs }; is = refl; far = omega arith }
far_of (Some own) place specs = by (nat_lt own.place.0 place.0) refl
  where
    by : (b : Bool) → nat_lt own.place.0 place.0 ≡ b → IsFarEnough (cond b (Some (record { place = place; specs = specs })) (Some own)) place.0
    by true further = record { own = record { place = place; specs = specs }; is = refl; far = omega arith }
    by false near = record { own = own; is = refl; far = ltb-false _ _ near }

-- the certificate that is held then is as far
pub held_far : (v : Views) (place : Place) (specs : List (Signed Spec)) → IsFarEnough (with_specs place specs v).specs place.0
held_far v place specs = subst (λ (o : Option Certificate). IsFarEnough o place.0) (either (is_further place v.specs)) (far_of v.specs place specs)
  where
    either : (b : Bool) → cond b (Some (record { place = place; specs = specs })) v.specs ≡ (cond b (record v { specs = Some (record { place = place; specs = specs }) }) v).specs
    either true = refl
    either false = refl
