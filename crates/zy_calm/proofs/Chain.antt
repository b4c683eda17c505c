-- One request after another.
use Rattle.std.proofs.Common.{◌≡◌, ℕ, ◌+◌, ◌*◌, ◌<◌, ◌≤◌, List, [], ◌∷◌, ◌++◌, length, arith}
use Rattle.std.proofs.lemmas.List.{length-append}
use Rattle.std.specs.List.{AllByRecursion, flat_map}
use Rattle.zy_base.specs.Machine.{Rules}
use Rattle.zy_chain.specs.declared.entry.Entry.{Entry}
use Rattle.zy_schedule.specs.declared.line.Line.{Line}
use Rattle.zy_seal.specs.Sealing.{signatures_by}
use Rattle.zy_table.specs.declared.client.Path.{Path}
use Rattle.zy_world_law.specs.Runs.{ends, run}
use Rattle.zy_world_law.specs.Setup.{Setup}
use Rattle.zy_world_law.specs.World.{World}
use Rattle.zy_calm.proofs.Between.{AreUpTo, IsAsker, IsBetween, up_to_next}
use Rattle.zy_calm.proofs.Leads.{Leads, already, joined}
use Rattle.zy_calm.proofs.Queue.{Hears}
use Rattle.zy_calm.specs.Asks.{CalmAsk, lines_of}
use Rattle.zy_calm.specs.Calm.{IsCalmAsk}
use Rattle.zy_calm.specs.Entries.{entry_after}
use Rattle.zy_calm.specs.Notes.{notes_after, notes_of}

module _ {S : Type 0} (R : Rules S) (s : Setup) (hears : Hears) (path : Path) (live : ℕ) where
  -- each of them alone is served
  abbrev pub Serves : Type 0
  Serves = (a : CalmAsk) (before : List Entry) → IsCalmAsk s a → IsAsker R s hears a.client.0 → length before + 1 < s.interval → 3 * (length before + 1) ≤ signatures_by s.height → AreUpTo R before
      → (w : World S) (more : List Line) → IsBetween R s hears w before
      → Leads (run R (lines_of path a ++ more) w) (notes_of R s.counts path live before (entry_after before a)) (run R more) (λ v. IsBetween R s hears v (before ++ entry_after before a ∷ []))

  abbrev pub Anything : World S → Type 0
  Anything w = Unit {0}

  module _ (serves : Serves) (asker : (a : CalmAsk) → IsCalmAsk s a → IsAsker R s hears a.client.0) where
    pub all_served : (asks : List CalmAsk) (before : List Entry) → AllByRecursion (IsCalmAsk s) asks → length before + length asks < s.interval → 3 * (length before + length asks) ≤ signatures_by s.height → AreUpTo R before
        → (w : World S) → IsBetween R s hears w before → Leads (run R (flat_map (lines_of path) asks) w) (notes_after R s.counts path live before asks) ends Anything
    unfolding run
    all_served [] before all inside lasts up_to w between = already w ends Anything tt
    all_served (a ∷ asks) before all inside lasts up_to w between =
        let e = entry_after before a in
        let long : length (before ++ e ∷ []) ≡ length before + 1 = length-append before (e ∷ []) in
        joined _ (notes_of R s.counts path live before e) (notes_after R s.counts path live (before ++ e ∷ []) asks) (run R (flat_map (lines_of path) asks)) ends _ Anything
        (serves a before all.0 (asker a all.0) (omega (arith, inside)) (omega (arith, lasts)) up_to w (flat_map (lines_of path) asks) between)
        (λ v next. all_served asks (before ++ e ∷ []) all.1 (omega (arith, inside, long)) (omega (arith, lasts, long)) (up_to_next R before a up_to) v next)
