-- A tied replica may leave for a view above its own with its report, and is tied then.
use Rattle.std.proofs.Common.{◌≡◌, ℕ, ◌-◌, ◌<◌, ◌≤◌, inl, inr, List, length, refl, sym, subst, arith}
use Rattle.zy_base.specs.Machine.{Rules}
use Rattle.zy_base.specs.declared.ids.Party.TheVariants.{Replica}
use Rattle.zy_base.specs.declared.ids.ReplicaId.{ReplicaId}
use Rattle.zy_base.specs.declared.ids.View.{View}
use Rattle.zy_chain.specs.declared.entry.Entry.{Entry}
use Rattle.zy_change.proofs.FitLemmas.{kept_or_filled}
use Rattle.zy_change.specs.Owing.{change_to}
use Rattle.zy_change.specs.Views.{left, own_view, with_change}
use Rattle.zy_choose.specs.Marks.{link}
use Rattle.zy_evidence.specs.Reading.{read_by}
use Rattle.zy_law.specs.Lawful.{IsLawful, IsTrueReport, IsVote}
use Rattle.zy_law.specs.Said.{IsCorrect, IsVouched}
use Rattle.zy_law.specs.Steps.{MaySay, after_saying}
use Rattle.zy_law.specs.World.{Spoken, Statement, World}
use Rattle.zy_parts.specs.declared.reports.Change.{Change}
use Rattle.zy_parts.specs.declared.signed.Signed.{Signed}
use Rattle.zy_law_views.specs.Held.{IsVouchedBy}
use Rattle.zy_law_views.specs.Tied.{Core, IsKeptChange, IsTied, change_by, said_now, told_by}
use Rattle.zy_law_views.specs.Told.{change_told}
use Rattle.zy_law_views.proofs.OwnReport.{last_below, own_formed, own_in_order, own_links, own_proofs, own_true}
use Rattle.zy_law_views.proofs.TiedGrown.{begun_said, grounded_said, has_said_last, hearing_said, own_said, proofs_said, standing_said}

module _ {S : Type 0} (R : Rules S) (interval : ℕ) (w : World) (lawful : IsLawful w) (links : w.next ≡ link) (r : ℕ) (correct : IsCorrect w r) (c : Core S) (history : List Entry)
    (tied : IsTied R interval w r c history) (view : View) (above : own_view c.views < view.0) where
  pub last_earlier : c.views.last_view.0 < view.0
  last_earlier = omega (arith, last_below c.views.last_view.0 c.views.mode tied.quiet.ahead)

  abbrev leave : Spoken
  leave = said_now w r (change_told r (change_to view (told_by c)))

  now : tied.standing.number ≡ length (w.past r) - 1
  now = omega (arith, tied.standing.last)

  pub may_leave : MaySay w r leave
  may_leave =
      record {
        now = omega (arith, tied.standing.last);
        silence = λ number y other spoken report says what seen. absurd cc;
        told = record {
          true_report = subst (λ (when : ℕ). IsTrueReport w r (length (w.said r)) when view.0 (read_by r (told_by c))) now
              (own_true R interval w links r c history tied (length (w.said r)) view last_earlier);
          in_order = own_in_order R interval w links r c history tied view last_earlier;
          first = λ number y second says what. absurd (omega (arith, tied.quiet.left number y view.0 second says what));
        };
      }

  -- ---- and then

  abbrev after : World
  after = after_saying w r leave

  module _ (sig : List ℕ) where
    abbrev own : Signed Change
    own = change_by c view sig

    abbrev gone : Core S
    gone = record c { views = left view (with_change own c.views) }

    own_vouched : (id : ReplicaId) → id.0 ≡ r → IsVouchedBy after (change_told r (change_to view (told_by c))) (Replica id)
    own_vouched id is = subst (λ (q : ℕ). IsVouched after (change_told r (change_to view (told_by c))) q) (sym is) (record { within = correct.within; said = inr (has_said_last w r leave) })

    own_kept : IsKeptChange interval after c.views.me.0 own
    own_kept =
        record {
          by = refl;
          well_formed = own_formed R interval w links r c history tied view sig last_earlier;
          held = record {
            signer = subst (λ (q : ℕ). IsVouchedBy after (change_told q (change_to view (told_by c))) (Replica c.views.me)) (sym tied.standing.me) (own_vouched c.views.me tied.standing.me);
            proofs = proofs_said w r leave (told_by c) (own_proofs R interval w links r c history tied);
            links = own_links R interval w links r c history tied lawful correct;
          };
        }

    pub tied_gone : IsTied R interval after r gone history
    tied_gone =
        let standing = standing_said w r leave R interval c history tied.standing in
        let grounded = grounded_said w r leave R interval c history tied.grounded in
        let heard = hearing_said w r leave interval c.views tied.hearing in
        let begun = begun_said w r leave R interval c history (λ m vote. absurd vote) tied.begun in
        record {
          spaced = tied.spaced;
          standing = record {
            me = standing.me;
            counts = standing.counts;
            number = standing.number;
            stood = standing.stood;
            last = standing.last;
            stands = standing.stands;
          };
          quiet = record {
            ahead = last_earlier;
            gone = (let last = has_said_last w r leave in (last.0, last.1, read_by r (told_by c), last.2, last.3));
            left = λ number x other report says what.
                own_said w r leave (λ z. z.what ≡ Statement.Change other report → other ≤ view.0)
                (λ i z at is. omega (arith, tied.quiet.left i z other report at is)) (λ is. let same : view.0 ≡ other = cc in omega arith) number x says what;
            confirmed = λ number x other m says what.
                own_said w r leave (λ z. z.what ≡ Statement.Began other m → other ≤ view.0)
                (λ i z at is. omega (arith, tied.quiet.confirmed i z other m at is)) (λ is. absurd cc) number x says what;
            once = λ number x m says what.
                absurd (own_said w r leave (λ z. z.what ≡ Statement.Began view.0 m → ⊥)
                (λ i z at is. omega (arith, tied.quiet.confirmed i z view.0 m at is)) (λ is. cc) number x says what);
            gave = λ number x other reports says what.
                own_said w r leave (λ z. z.what ≡ Statement.New other reports → other ≤ view.0)
                (λ i z at is. omega (arith, tied.quiet.gave i z other reports at is)) (λ is. absurd cc) number x says what;
            gave_once = λ number x reports says what.
                absurd (own_said w r leave (λ z. z.what ≡ Statement.New view.0 reports → ⊥)
                (λ i z at is. omega (arith, tied.quiet.gave i z view.0 reports at is)) (λ is. cc) number x says what);
            voted = λ number x other m says vote.
                own_said w r leave (λ z. IsVote other m z.what → other ≤ c.views.last_view.0)
                (λ i z at is. tied.quiet.voted i z other m at is) (λ is. absurd is) number x says vote;
            ordered = λ number x other m request says what.
                own_said w r leave (λ z. z.what ≡ Statement.Order other m request → other ≤ c.views.last_view.0)
                (λ i z at is. tied.quiet.ordered i z other m request at is) (λ is. absurd cc) number x says what;
          };
          grounded = record {
            place = grounded.place;
            head = grounded.head;
            view = grounded.view;
            multiple = grounded.multiple;
            proven = grounded.proven;
            empty = grounded.empty;
            held = grounded.held;
            few = grounded.few;
            clients = grounded.clients;
            end = grounded.end;
          };
          begun = record {
            began = begun.began;
            held = begun.held;
            passes = begun.passes;
            commit = begun.commit;
            covered = begun.covered;
          };
          hearing = record {
            changes = λ id q at.
                elim (kept_or_filled c.views.changes c.views.me.0 id own q at) [
                  | inl both ↦ subst (λ (n : ℕ). IsKeptChange interval after n q) (sym both.0) (subst (λ (x : Signed Change). IsKeptChange interval after c.views.me.0 x) (sym both.1) own_kept)
                  | inr other ↦ heard.changes id q other
                ];
            begans = heard.begans;
            accepted = tt;
            waiting = tt;
          };
        }
