-- The tuple space (DepSpace, section 2), as steps on the list of its tuples, oldest first.
use Rattle.std.specs.Prelude.{nat_lt, if◌then◌else◌, List, [], ◌∷◌, ◌++◌, length, Option, Some, None}
use Rattle.zy_tuple.specs.declared.values.Field.{Field}
use Rattle.zy_tuple.specs.declared.values.Slot.{Slot}
use Rattle.zy_tuple.specs.declared.values.Op.{Op}
use Rattle.zy_tuple.specs.declared.values.Op.TheVariants.{Out, Rdp, Inp, Cas}
use Rattle.zy_tuple.specs.declared.values.Reply.{Reply}
use Rattle.zy_tuple.specs.declared.values.Reply.TheVariants.{Done, Got, Nothing, True, False, Full}
use Rattle.zy_tuple.specs.Values.{matches}

-- a state and the reply that led to it
pub record Step : Type 0 where
  pub tuples : List (List Field)
  pub reply : Reply

-- the oldest tuple that matches
abbrev pub oldest : List Slot → List (List Field) → Option (List Field)
oldest template [] = None
oldest template (tuple ∷ tuples) = if matches template tuple then Some tuple else oldest template tuples

-- all but the oldest tuple that matches
abbrev pub without_oldest : List Slot → List (List Field) → List (List Field)
without_oldest template [] = []
without_oldest template (tuple ∷ tuples) = if matches template tuple then tuples else tuple ∷ without_oldest template tuples

-- at the end, where fewer than 4,096 tuples are there
abbrev pub inserted : List Field → Reply → List (List Field) → Step
inserted tuple reply tuples =
    if nat_lt (length tuples) 4096
    then record { tuples = tuples ++ tuple ∷ []; reply = reply }
    else record { tuples = tuples; reply = Full }

abbrev pub found : Option (List Field) → Reply
found None = Nothing
found (Some tuple) = Got tuple

abbrev pub unless_found : Option (List Field) → List (List Field) → Step → Step
unless_found None tuples otherwise = otherwise
unless_found (Some tuple) tuples otherwise = record { tuples = tuples; reply = False }

-- what an operation replies, and what it leaves
abbrev pub step : Op → List (List Field) → Step
step (Out tuple) tuples = inserted tuple Done tuples
step (Rdp template) tuples = record { tuples = tuples; reply = found (oldest template tuples) }
step (Inp template) tuples = record { tuples = without_oldest template tuples; reply = found (oldest template tuples) }
step (Cas template tuple) tuples = unless_found (oldest template tuples) tuples (inserted tuple True tuples)

-- operations one after the other: the replies in order, and the tuples in the end
abbrev pub replies_from : List (List Field) → List Op → List Reply
replies_from tuples [] = []
replies_from tuples (op ∷ ops) = (step op tuples).reply ∷ replies_from ((step op tuples).tuples) ops

abbrev pub tuples_after : List (List Field) → List Op → List (List Field)
tuples_after tuples [] = tuples
tuples_after tuples (op ∷ ops) = tuples_after ((step op tuples).tuples) ops
