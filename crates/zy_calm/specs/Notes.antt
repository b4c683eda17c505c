-- What is told of a calm run.
use Rattle.std.specs.Prelude.{ℕ, ◌+◌, ◌-◌, ◌*◌, List, [], ◌∷◌, ◌++◌, length, replicate, Some}
use Rattle.zy_base.specs.Machine.{Rules}
use Rattle.zy_base.specs.declared.cause.Cause.TheVariants.{Finished}
use Rattle.zy_base.specs.declared.counts.Counts.{Counts}
use Rattle.zy_base.specs.declared.ids.Party.TheVariants.{Client}
use Rattle.zy_chain.specs.declared.entry.Entry.{Entry}
use Rattle.zy_table.specs.declared.client.Path.{Path}
use Rattle.zy_table.specs.declared.client.Path.TheVariants.{Fast, Slow}
use Rattle.zy_world_law.specs.Setup.{Setup}
use Rattle.zy_world_law.specs.declared.note.Note.{Note}
use Rattle.zy_world_law.specs.declared.note.Note.TheVariants as notes
use Rattle.zy_calm.specs.Asks.{CalmAsk}
use Rattle.zy_calm.specs.Calm.{live_of, quorum}
use Rattle.zy_calm.specs.Entries.{done_at, entry_after}

-- How many events come before its completion, with so many live replicas. Fast: the ask; the request and the orders, one for each of
-- them; and all responses but the last that it takes. Slow: the ask; the request and the orders; the responses; the timer; the
-- certificates; and all local commits but the last that it takes.
abbrev pub quiet : Path → Counts → ℕ → ℕ
quiet Fast c live = 1 + live + (c.fast - 1)
quiet Slow c live = 2 + 3 * live + (c.local - 1)

-- it completes, and what its client gets after that is refused
abbrev pub notes_of : {S : Type 0} → Rules S → Counts → Path → ℕ → List Entry → Entry → List Note
notes_of R c path live before e =
    replicate (quiet path c live) notes.Quiet
    ++ notes.Done e.client (done_at R path before e)
    ∷ replicate (live - quorum path c) (notes.Refused (Some (Client e.client)) Finished)

-- of one request after another, behind these entries
abbrev pub notes_after : {S : Type 0} → Rules S → Counts → Path → ℕ → List Entry → List CalmAsk → List Note
notes_after R c path live before [] = []
notes_after R c path live before (a ∷ asks) =
    let e = entry_after before a in
    notes_of R c path live before e ++ notes_after R c path live (before ++ e ∷ []) asks

abbrev pub calm_notes : {S : Type 0} → Rules S → Setup → Path → List ℕ → List CalmAsk → List Note
calm_notes R s path muted asks = notes_after R s.counts path (length (live_of s muted)) [] asks
