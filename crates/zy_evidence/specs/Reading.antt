-- A report as the choice of a new view's history reads it.
use Rattle.std.specs.Prelude.{ℕ, List, [], ◌∷◌, Option, Some, None}
use Rattle.zy_base.specs.declared.ids.Party.{Party}
use Rattle.zy_base.specs.declared.ids.Party.TheVariants.{Replica, Client}
use Rattle.zy_chain.specs.Stretch.{Mark, Stretch}
use Rattle.zy_parts.specs.declared.signed.Signed.{Signed}
use Rattle.zy_parts.specs.declared.statements.Spec.{Spec}
use Rattle.zy_parts.specs.declared.reports.Told.{Told}
use Rattle.zy_parts.specs.declared.reports.Change.{Change}
use Rattle.zy_choose.specs.Reports.{PlainReport}

-- where the last view began
abbrev pub began_of : Told → Mark
began_of t = record { place = t.began_place.0; head = t.began_head }

-- where the first of some responses stands
abbrev pub mark_of_first : List (Signed Spec) → Option Mark
mark_of_first [] = None
mark_of_first (first ∷ others) = Some (record { place = first.stmt.place.0; head = first.stmt.head })

-- where the certificate of responses stands, if there is one
abbrev pub spec_of : Option (List (Signed Spec)) → Option Mark
spec_of None = None
spec_of (Some specs) = mark_of_first specs

-- the stable place with its head, and the entries above it
abbrev pub stretch_of : Told → Stretch
stretch_of t = record { base = record { place = t.stable_place.0; head = t.stable_head }; entries = t.entries }

-- the report of the replica with this number
abbrev pub read_by : ℕ → Told → PlainReport
read_by id t =
    record {
      by = id;
      last_view = t.last_view.0;
      began = began_of t;
      spec = spec_of t.specs;
      stable_view = t.stable_view.0;
      state = t.state;
      stretch = stretch_of t;
    }

-- a report is its signer's, which is a replica
abbrev pub IsReplica : Party → Type 0
IsReplica (Replica id) = Unit {0}
IsReplica (Client id) = ⊥

abbrev pub number_of_party : Party → ℕ
number_of_party (Replica id) = id.0
number_of_party (Client id) = id.0

abbrev pub read : Signed Change → PlainReport
read c = read_by (number_of_party c.by) c.stmt.told
