-- A part of a run that is made and noted.
use Rattle.std.specs.Prelude.{◌≡◌, List, [], ◌++◌, ⊤}
use Rattle.zy_world.specs.declared.fault.WorldFault.{WorldFault}
use Rattle.zy_world.specs.declared.fault.WorldFault.TheVariants as faults
use Rattle.zy_world.specs.declared.flow.FlowFault.{FlowFault}
use Rattle.zy_world.specs.declared.flow.FlowFault.TheVariants as flow_faults
use Rattle.zy_world_law.specs.Events.{Broken}
use Rattle.zy_world_law.specs.Events.Broken.{Forged, Clash}
use Rattle.zy_world_law.specs.Runs.{End, Rest}
use Rattle.zy_world_law.specs.World.{World}
use Rattle.zy_world_law.specs.declared.note.Note.{Note}

-- a part of a run led from a world to another, behind what is told of its events; this is left of it
pub record Passes {S : Type 0} (part : Rest S → Rest S) (g : World S) (left : Rest S → Rest S) (v : World S) (told : List Note) : Type 0 where
  pub notes : (rest : Rest S) → (part rest g).notes ≡ told ++ (left rest v).notes
  pub end : (rest : Rest S) → (part rest g).end ≡ (left rest v).end

-- or it ended at an event that isn't honest
pub record Stops {S : Type 0} (part : Rest S → Rest S) (g : World S) (told : List Note) (broken : Broken) : Type 0 where
  pub notes : (rest : Rest S) → (part rest g).notes ≡ told
  pub end : (rest : Rest S) → (part rest g).end ≡ End.Stopped broken

-- nothing is left
abbrev pub all_done : {S : Type 0} → Rest S → Rest S
all_done rest = rest

-- it was made and noted until this is left of it, in a world that is so
pub record ComesTo {S : Type 0} (part : Rest S → Rest S) (g : World S) (left : Rest S → Rest S) (old new : List Note) (IsSo : World S → Type 0) : Type 0 where
  pub world : World S
  pub told : List Note
  pub is : IsSo world
  pub passes : Passes part g left world told
  pub notes : new ≡ old ++ told

-- it was made and noted until an event that isn't honest; want of memory tells nothing
pub record IsCutBy {S : Type 0} (part : Rest S → Rest S) (g : World S) (old new : List Note) (broken : Broken) : Type 0 where
  pub told : List Note
  pub stops : Stops part g told broken
  pub notes : new ≡ old ++ told

abbrev pub IsCutOff : {S : Type 0} → (Rest S → Rest S) → World S → List Note → List Note → WorldFault → Type 0
IsCutOff part g old new (faults.Forged by) = IsCutBy part g old new (Forged by)
IsCutOff part g old new (faults.Clash digest) = IsCutBy part g old new (Clash digest)
IsCutOff part g old new faults.Want = ⊤

-- what was noted before
abbrev pub notes_of : FlowFault → List Note
notes_of (flow_faults.Forged notes by) = notes
notes_of (flow_faults.Clash notes digest) = notes
notes_of flow_faults.Want = []
