-- What is kept stays fit as a view begins, or its certificate waits.
use Rattle.std.proofs.Common.{◌≡◌, ℕ, ◌<◌, ◌≤◌, ◌^◌, nat_eq, nat_le, Bool, true, false, if◌then◌else◌, ◌⊎◌, inl, inr, Option, Some, None, refl, sym, ◌∙◌, subst, arith}
use Rattle.std.proofs.lemmas.Bool.{eqb-true}
use Rattle.std.specs.List.{filter_map, range_with_len}
use Rattle.std.specs.Prelude.{slice_index_or}
use Rattle.zy_parts.specs.declared.reports.Began.{Began}
use Rattle.zy_parts.specs.declared.reports.Change.{Change}
use Rattle.zy_parts.specs.declared.signed.Signed.{Signed}
use Rattle.zy_vframes.specs.declared.frame.ViewCert.{ViewCert}
use Rattle.zy_evidence.specs.Reading.{number_of_party}
use Rattle.zy_change.specs.declared.kept.Chosen.{Chosen}
use Rattle.zy_change.specs.declared.kept.Waiting.{Waiting}
use Rattle.zy_change.specs.Views.{Views, began_equal, begans_equal, change_past, began_past, adopted, with_began, with_waiting, without_accepted, without_waiting}
use Rattle.zy_change.specs.Ahead.{kept_began}
use Rattle.zy_change.specs.Fit.{IsFit, IsCertified, IsKeptBegan}
use Rattle.zy_change.proofs.FitLemmas.{as_long, as_many, kept_or_filled}
use Rattle.zy_change.proofs.IndexLemmas.{by_index, map_long, read_map}

change_there : (view : ℕ) (o : Option (Signed Change)) (c : Signed Change) → change_past view o ≡ Some c → o ≡ Some c
change_there view None c is = absurd cc
change_there view (Some x) c is = by (nat_le x.stmt.view.0 view) is
  where
    by : (drops : Bool) → (if drops then None else Some x) ≡ Some c → Some x ≡ Some c
    by true none = absurd cc
    by false here = here

began_there : (view : ℕ) (o : Option (Signed Began)) (b : Signed Began) → began_past view o ≡ Some b → o ≡ Some b
began_there view None b is = absurd cc
began_there view (Some x) b is = by (nat_le x.stmt.view.0 view) is
  where
    by : (drops : Bool) → (if drops then None else Some x) ≡ Some b → Some x ≡ Some b
    by true none = absurd cc
    by false here = here

not_first : (n : ℕ) → 1 ≤ n → nat_eq n 0 ≡ false
not_first n least = by (nat_eq n 0) refl
  where
    by : (b : Bool) → nat_eq n 0 ≡ b → b ≡ false
    by true is = let e = eqb-true n 0 is in absurd (omega arith)
    by false is = refl

pub adopted-fit : (v : Views) (cert : ViewCert) (chosen : Chosen) → IsFit v → IsCertified v.counts v.interval cert chosen → IsFit (adopted cert chosen v)
adopted-fit v cert chosen fit is =
    let in_range = is.accepted.in_range in
    let least = is.begans.least in
    record {
      at_least = fit.at_least;
      at_most = fit.at_most;
      me = fit.me;
      last = omega arith;
      own = in_range.0.0.1;
      changes = map_long (change_past cert.new.stmt.view.0) v.changes ∙ fit.changes;
      hated = as_many v.counts.n false;
      begans = map_long (began_past cert.new.stmt.view.0) v.begans ∙ fit.begans;
      kept = λ id c here. fit.kept id c (change_there cert.new.stmt.view.0 (slice_index_or v.changes id None) c (sym (read_map (change_past cert.new.stmt.view.0) refl v.changes id) ∙ here));
      confirmed = λ id b here. fit.confirmed id b (began_there cert.new.stmt.view.0 (slice_index_or v.begans id None) b (sym (read_map (began_past cert.new.stmt.view.0) refl v.begans id) ∙ here));
      accepted = tt;
      waiting = tt;
      view_cert = (in_range, is.begans);
      told = record {
        began_place = is.place;
        began = record { least = omega arith; most = is.begans.most; each = is.begans.each };
        specs = tt;
        began_proven = λ stable proof stretch. rw (not_first cert.new.stmt.view.0 in_range.0.0.0) is.proven;
        specs_proven = refl;
      };
    }

pub with_waiting-fit : (v : Views) (w : Waiting) → IsFit v → IsCertified v.counts v.interval w.cert w.chosen → IsFit (with_waiting w v)
with_waiting-fit v w fit is =
    record {
      at_least = fit.at_least;
      at_most = fit.at_most;
      me = fit.me;
      last = fit.last;
      own = fit.own;
      changes = fit.changes;
      hated = fit.hated;
      begans = fit.begans;
      kept = fit.kept;
      confirmed = fit.confirmed;
      accepted = fit.accepted;
      waiting = is;
      view_cert = fit.view_cert;
      told = record { began_place = fit.told.began_place; began = fit.told.began; specs = fit.told.specs; began_proven = fit.told.began_proven; specs_proven = fit.told.specs_proven };
    }

pub without_waiting-fit : (v : Views) → IsFit v → IsFit (without_waiting v)
without_waiting-fit v fit =
    record {
      at_least = fit.at_least;
      at_most = fit.at_most;
      me = fit.me;
      last = fit.last;
      own = fit.own;
      changes = fit.changes;
      hated = fit.hated;
      begans = fit.begans;
      kept = fit.kept;
      confirmed = fit.confirmed;
      accepted = fit.accepted;
      waiting = tt;
      view_cert = fit.view_cert;
      told = record { began_place = fit.told.began_place; began = fit.told.began; specs = fit.told.specs; began_proven = fit.told.began_proven; specs_proven = fit.told.specs_proven };
    }

pub without_accepted-fit : (v : Views) → IsFit v → IsFit (without_accepted v)
without_accepted-fit v fit =
    record {
      at_least = fit.at_least;
      at_most = fit.at_most;
      me = fit.me;
      last = fit.last;
      own = fit.own;
      changes = fit.changes;
      hated = fit.hated;
      begans = fit.begans;
      kept = fit.kept;
      confirmed = fit.confirmed;
      accepted = tt;
      waiting = fit.waiting;
      view_cert = fit.view_cert;
      told = record { began_place = fit.told.began_place; began = fit.told.began; specs = fit.told.specs; began_proven = fit.told.began_proven; specs_proven = fit.told.specs_proven };
    }

-- the kept confirmations that say something, by the numbers of the replicas
pub begans_by : (v : Views) (began : Began) → IsFit v → filter_map (λ id. began_equal began (kept_began v id)) (range_with_len 0 v.counts.n) ≡ begans_equal began v.begans
begans_by v began fit = by_index (began_equal began) (λ id. began_equal began (kept_began v id)) v.counts.n v.begans fit.begans (λ id. refl)

pub with_began-fit : (v : Views) (b : Signed Began) → IsFit v → IsKeptBegan (number_of_party b.by) b → IsFit (with_began b v)
with_began-fit v b fit kept =
    record {
      at_least = fit.at_least;
      at_most = fit.at_most;
      me = fit.me;
      last = fit.last;
      own = fit.own;
      changes = fit.changes;
      hated = fit.hated;
      begans = as_long v.begans (number_of_party b.by) (Some b) ∙ fit.begans;
      kept = fit.kept;
      confirmed = λ id other is.
          elim (kept_or_filled v.begans (number_of_party b.by) id b other is) [
            | inl here ↦ (subst (λ (x : Signed Began). IsKeptBegan id x) (sym here.1) (subst (λ n. IsKeptBegan n b) (sym here.0) kept))
            | inr there ↦ fit.confirmed id other there
          ];
      accepted = fit.accepted;
      waiting = fit.waiting;
      view_cert = fit.view_cert;
      told = record { began_place = fit.told.began_place; began = fit.told.began; specs = fit.told.specs; began_proven = fit.told.began_proven; specs_proven = fit.told.specs_proven };
    }
