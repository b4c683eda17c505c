-- Turns that are stored and given, one after another.
use Rattle.std.proofs.Common.{◌≡◌, inl, inr, ℕ, ◌+◌, ◌<◌, true, false, List, [], ◌∷◌, ◌++◌, Option, Err, sym, ap, subst, ◌∙◌, append_assoc}
use Rattle.std.proofs.lemmas.List.{append-nil}
use Rattle.zy_base.specs.declared.step.Event.{Event}
use Rattle.zy_edge.specs.Clock.{IsReading}
use Rattle.zy_edge.specs.Faults.{IsCounted}
use Rattle.zy_edge.specs.Link.{Parcel}
use Rattle.zy_journal.specs.Journal.{IsAtEnd}
use Rattle.zy_node.specs.Events.{events_of, events_of_all, records}
use Rattle.zy_node.specs.Keeping.{GivesTo, IsTaken, KeptState, Stores, TakesTo, UnsentState, given, is_give_fault, turn_records}
use Rattle.zy_node.specs.Rules.{Rules}
use Rattle.zy_node.specs.Serving.{IsCutOff, IsKeptRun, IsKeptTurn, KeepsRun}
use Rattle.zy_node.specs.Told.{Outside, Sends, SendsFront}
use Rattle.zy_node.specs.Turn.{HostState, Turn, run, turned}
use Rattle.zy_node.specs.declared.fault.GiveFault.{GiveFault}
use Rattle.zy_node.specs.declared.fault.GiveFault.TheVariants as give_faults
use Rattle.zy_node.specs.declared.fault.TakeFault.{TakeFault}
use Rattle.zy_node.specs.declared.fault.TakeFault.TheVariants as take_faults
use Rattle.zy_node.proofs.EventLemmas.{does_run, records-append}
use Rattle.zy_node.proofs.RunLemmas.{no_turns, one_turn_more}
use Rattle.zy_node.proofs.StoreLemmas.{nothing_to_store, stored_after}
use Rattle.zy_node.proofs.TurnLemmas.{Moves-append, MovesFront-append}

-- a link that fails is counted
pub link_failed : (A N : Type 0) (fault : GiveFault N) (before later : ℕ) → IsCounted (is_give_fault {A = A} {N = N} (Err fault)) before later → IsCounted true before later
link_failed A N (give_faults.Link node) before later counted = counted

module _ {S : Type 0} (R : Rules S) where
  events-last : (turns : List Turn) (t : Turn) (host : HostState S) → events_of_all R (turns ++ t ∷ []) host ≡ events_of_all R turns host ++ events_of R t (run R turns host).host
  events-last [] t host = append-nil (events_of R t host)
  events-last (first ∷ turns) t host =
      ap (λ (es : List Event). events_of R first host ++ es) (events-last turns t (turned R first host).host)
      ∙ sym (append_assoc (events_of R first host) (events_of_all R turns (turned R first host).host) (events_of R t (run R turns (turned R first host).host).host))

  records-last : (turns : List Turn) (t : Turn) (host : HostState S)
      → records R (events_of_all R turns host) host.core ++ turn_records R t (run R turns host).host ≡ records R (events_of_all R (turns ++ t ∷ []) host) host.core
  records-last turns t host =
      ap (λ (s : S). records R (events_of_all R turns host) host.core ++ records R (events_of R t (run R turns host).host) s) (does_run R turns host).0
      ∙ sym (records-append R (events_of_all R turns host) (events_of R t (run R turns host).host) host.core)
      ∙ ap (λ (es : List Event). records R es host.core) (sym (events-last turns t host))

module _ {S D : Type 0} (contents : D → Option (List ℕ)) (may_leave : D → List ℕ → Type 0) (moment : D → ℕ) (left_since : D → ℕ → List ℕ → Type 0) (R : Rules S) where
  -- ---- a turn

  pub all_given : (before : KeptState S) (taken : UnsentState S) (from between to : Outside) (old new : D) → IsTaken contents may_leave moment left_since R before taken from between old new
      → Sends taken.owed between.mail to.mail → to.receives ≡ between.receives → to.moments ≡ between.moments → IsKeptTurn contents may_leave moment left_since R before (given taken) from to old new
  all_given before taken from between to old new is sends received read = record {
    turn = record {
      turn = is.turn;
      host = is.host;
      mail = Moves-append is.turn.heard [] (turned R is.turn before.host).sent from.mail between.mail to.mail is.outside.mail (subst (λ (owed : List Parcel). Sends owed between.mail to.mail) is.owed sends);
      receives = received ∙ is.outside.receives;
      moments = subst (λ (m : Option (List ℕ)). IsReading is.turn.now from.moments m) (sym read) is.outside.moments;
    };
    stored = is.stored;
  }

  pub half_given : (before : KeptState S) (taken : UnsentState S) (from between to : Outside) (old new : D) (fault : GiveFault (KeptState S)) → IsTaken contents may_leave moment left_since R before taken from between old new
      → GivesTo taken (Err fault) between.mail to.mail → to.receives ≡ between.receives → to.moments ≡ between.moments → IsCutOff contents may_leave moment left_since R before take_faults.Link from to old new
  half_given before taken from between to old new (give_faults.Link node) is sends received read = inr (record {
    turn = is.turn;
    mail = MovesFront-append is.turn.heard [] (turned R is.turn before.host).sent from.mail between.mail to.mail is.outside.mail (subst (λ (owed : List Parcel). SendsFront owed between.mail to.mail) is.owed sends.1);
    receives = received ∙ is.outside.receives;
    moments = subst (λ (m : Option (List ℕ)). IsReading is.turn.now from.moments m) (sym read) is.outside.moments;
    next = taken.gate;
    stored = is.stored;
  })

  pub not_taken : (before : KeptState S) (fault : TakeFault) (from to : Outside) (old new : D) → TakesTo contents may_leave moment left_since R before (Err fault) from to old new → IsCutOff contents may_leave moment left_since R before fault from to old new
  not_taken before take_faults.Disk from to old new is = is
  not_taken before take_faults.Link from to old new is = inl is
  not_taken before take_faults.Full from to old new is = is
  not_taken before take_faults.Want from to old new is = is

  -- ---- a run

  pub none_kept : (node : KeptState S) (outside : Outside) (disk : D) → ((image : List ℕ) → left_since disk (moment disk) image → may_leave disk image) → IsAtEnd (contents disk) (may_leave disk) node.gate
      → IsKeptRun contents may_leave moment left_since R 0 node node outside outside disk disk
  unfolding no_turns
  none_kept node outside disk only end = record { run = no_turns R node.host outside; stored = nothing_to_store contents may_leave moment left_since disk node.gate only end }

  pub one_kept_more : (many : ℕ) (first middle last : KeptState S) (from between to : Outside) (old mid new : D) → IsKeptRun contents may_leave moment left_since R many first middle from between old mid → R.is_done middle.host.core ≡ false
      → IsKeptTurn contents may_leave moment left_since R middle last between to mid new → IsKeptRun contents may_leave moment left_since R (many + 1) first last from to old new
  unfolding one_turn_more
  one_kept_more many first middle last from between to old mid new so_far unfinished next =
      let turns = so_far.run.turns in
      let t = next.turn.turn in
      let there = subst (λ (h : HostState S). Stores contents may_leave moment left_since middle.gate (turn_records R t h) last.gate mid new) so_far.run.host next.stored in
      record {
        run = one_turn_more R many first.host middle.host last.host from between to so_far.run unfinished next.turn;
        stored = subst (λ (ps : List (List ℕ)). Stores contents may_leave moment left_since first.gate ps last.gate old new) (records-last R turns t first.host)
            (stored_after contents may_leave moment left_since old mid new first.gate middle.gate last.gate (records R (events_of_all R turns first.host) first.host.core) (turn_records R t (run R turns first.host).host) so_far.stored there);
      }

  pub cut_off_kept : (many most : ℕ) (first middle : KeptState S) (fault : TakeFault) (from between to : Outside) (old mid new : D) → many < most → IsKeptRun contents may_leave moment left_since R many first middle from between old mid
      → IsCutOff contents may_leave moment left_since R middle fault between to mid new → KeepsRun contents may_leave moment left_since R most first (Err fault) from to old new
  cut_off_kept many most first middle fault from between to old mid new fewer so_far cut = record { many = many; fewer = fewer; last = middle; between = between; mid = mid; run = so_far; cut = cut }
