-- What is read of the types of a step.
use Rattle.zy_base.specs.declared.ids.View.{View}
use Rattle.zy_base.specs.declared.step.Mode.{Mode}
use Rattle.zy_base.specs.declared.step.Mode.TheVariants.{Active, Leaving}

-- a replica's own view
abbrev pub view_of : Mode → View
view_of (Active view) = view
view_of (Leaving view) = view
