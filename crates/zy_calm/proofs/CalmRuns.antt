-- The run of a calm schedule from the start.
use Rattle.std.proofs.Common.{◌≡◌, inl, inr, ℕ, ◌≤◌, List, [], ◌∷◌, length, ap, ◌∙◌, subst, arith, append-nil}
use Rattle.std.specs.List.{AllByRecursion, flat_map}
use Rattle.zy_base.specs.Machine.{Rules}
use Rattle.zy_base.specs.declared.ids.Digest.{Digest}
use Rattle.zy_table.specs.declared.client.Path.{Path}
use Rattle.zy_table.specs.declared.client.Path.TheVariants.{Fast, Slow}
use Rattle.zy_world_law.specs.Events.{Broken}
use Rattle.zy_world_law.specs.Events.Broken.{Clash, Forged}
use Rattle.zy_world_law.specs.Faithful.{IsQuiet, IsUnforged}
use Rattle.zy_world_law.specs.Runs.{Run, ends, run}
use Rattle.zy_world_law.specs.Runs.End.{Stopped}
use Rattle.zy_world_law.specs.Setup.{Setup}
use Rattle.zy_world_law.specs.World.{start}
use Rattle.zy_calm.proofs.Between.{IsAsker, is_live}
use Rattle.zy_calm.proofs.Chain.{Anything, Serves, all_served}
use Rattle.zy_calm.proofs.Leads.{Leads}
use Rattle.zy_calm.proofs.Numbers.{few_live, live}
use Rattle.zy_calm.proofs.Queue.{Hears}
use Rattle.zy_calm.proofs.Serving.{IsFit, IsMachine, ask_served, count}
use Rattle.zy_calm.proofs.SlowPath.{ask_served_slowly}
use Rattle.zy_calm.proofs.Starting.{IsAsRun, as_many_live, first_calm, first_up_to, first_world, hears, hears_client, hears_live, muted_runs}
use Rattle.zy_calm.specs.Asks.{CalmAsk, calm_lines, lines_of}
use Rattle.zy_calm.specs.Calm as calm
use Rattle.zy_calm.specs.Calm.{IsCalm, IsCalmAsk}
use Rattle.zy_calm.specs.Law.{RunsCalmly, calm_run}
use Rattle.zy_calm.specs.Notes.{notes_after}

-- ---- nobody lies by its lines

asks_quiet : (s : Setup) (path : Path) (asks : List CalmAsk) → AllByRecursion (IsCalmAsk s) asks → AllByRecursion IsQuiet (flat_map (lines_of path) asks)
asks_quiet s path [] all = tt
asks_quiet s Fast (a ∷ asks) all = (all.0.op, (tt, asks_quiet s Fast asks all.1))
asks_quiet s Slow (a ∷ asks) all = (all.0.op, (tt, (tt, (tt, asks_quiet s Slow asks all.1))))

pub lines_quiet : (s : Setup) (path : Path) (muted : List ℕ) (asks : List CalmAsk) → AllByRecursion (IsCalmAsk s) asks → AllByRecursion IsQuiet (calm_lines path muted asks)
lines_quiet s path [] asks all = asks_quiet s path asks all
lines_quiet s path (id ∷ muted) asks all = (tt, lines_quiet s path muted asks all)

module _ {S : Type 0} (R : Rules S) (s : Setup) (muted : List ℕ) (path : Path) (asks : List CalmAsk) (is : IsCalm s path muted asks) where
  abbrev hearing : Hears
  hearing = hears R s muted

  some : 1 ≤ s.counts.n
  some = let sound = s.counts.sound in omega arith

  pub fit : IsFit s hearing
  fit =
      let sound = s.counts.sound in
      record {
        some = some;
        few = sound.few;
        clients = is.setup.clients;
        small = is.setup.greatest_interval;
        first = hears_live R s muted 0 some ∙ is.primary;
        fast = omega arith;
      }

  pub asker : (a : CalmAsk) → IsCalmAsk s a → IsAsker R s hearing a.client.0
  asker a one = (one.client, hears_client R s muted a.client.0 one.client one.honest)

  -- ---- what comes of it

  ends_so : (r : Run S) (b : Broken) → r.end ≡ Stopped b → IsUnforged r.end → (d : Digest) × (r.end ≡ Stopped (Clash d))
  ends_so r (Forged by) stopped unforged = absurd (subst IsUnforged stopped unforged)
  ends_so r (Clash d) stopped unforged = (d, stopped)

  serves_all : (live_count : ℕ) → live_count ≡ length (calm.live_of s muted) → Serves R s hearing path live_count → IsUnforged (calm_run R s path muted asks).end → RunsCalmly R s path muted asks
  serves_all live_count same serves unforged =
      let served = all_served R s hearing path live_count serves asker asks [] is.each (omega (arith, is.short)) (omega (arith, is.signatures)) (first_up_to R s muted) (first_world R s muted) (first_calm R s muted) in
      let alike = muted_runs R s muted (flat_map (lines_of path) asks) (start R s) in
      outcome alike served
    where
      outcome : IsAsRun R s (calm_run R s path muted asks) (run R (flat_map (lines_of path) asks) (first_world R s muted))
          → Leads (run R (flat_map (lines_of path) asks) (first_world R s muted)) (notes_after R s.counts path live_count [] asks) ends (Anything R s hearing path live_count)
          → RunsCalmly R s path muted asks
      outcome alike (inl broken) = inr (ends_so (calm_run R s path muted asks) broken.0 (alike.end ∙ broken.1) unforged)
      outcome alike (inr on) =
          inl (record {
            world = on.world;
            notes = alike.notes ∙ on.told ∙ append-nil (notes_after R s.counts path live_count [] asks) ∙ ap (λ (k : ℕ). notes_after R s.counts path k [] asks) same;
            end = alike.end ∙ on.ended;
          })

module _ {S : Type 0} (R : Rules S) (is_state : S → Type 0) (machine : IsMachine R is_state) (s : Setup) (muted : List ℕ) (asks : List CalmAsk) where
  pub fast_runs : IsCalm s Fast muted asks → IsUnforged (calm_run R s Fast muted asks).end → RunsCalmly R s Fast muted asks
  fast_runs is unforged =
      let heard = hears R s muted in
      let fits = fit R s muted Fast asks is in
      let alive : live (is_live R s heard) s.counts.n ≡ calm.live_of s muted = as_many_live R s muted in
      let many : count R s heard fits is_state machine ≡ length (calm.live_of s muted) = ap length alive in
      serves_all R s muted Fast asks is (count R s heard fits is_state machine) many
      (λ a before one is_asker inside lasts up_to w more between. ask_served R s heard fits is_state machine a before one is_asker inside lasts up_to (omega (arith, is.enough, many))
      (few_live (is_live R s heard) s.counts.n) w more between) unforged

  pub slow_runs : IsCalm s Slow muted asks → IsUnforged (calm_run R s Slow muted asks).end → RunsCalmly R s Slow muted asks
  slow_runs is unforged =
      let heard = hears R s muted in
      let fits = fit R s muted Slow asks is in
      let sound = s.counts.sound in
      let alive : live (is_live R s heard) s.counts.n ≡ calm.live_of s muted = as_many_live R s muted in
      let many : count R s heard fits is_state machine ≡ length (calm.live_of s muted) = ap length alive in
      serves_all R s muted Slow asks is (count R s heard fits is_state machine) many
      (λ a before one is_asker inside lasts up_to w more between. ask_served_slowly R s heard fits is_state machine sound.short_certificate (omega (arith, sound.two_certificates)) (omega (arith, sound.local_and_change, sound.change_in_reach)) a before one is_asker inside lasts up_to
      (omega (arith, is.enough.0, many)) (omega (arith, is.enough.1, many)) (omega (arith, is.enough.2, many)) (few_live (is_live R s heard) s.counts.n) w more between) unforged
