-- The view, the place and the head that a statement names.
use Rattle.zy_base.specs.declared.ids.View.{View}
use Rattle.zy_base.specs.declared.ids.Place.{Place}
use Rattle.zy_base.specs.declared.ids.Digest.{Digest}
use Rattle.zy_parts.specs.declared.statements.Spec.{Spec}
use Rattle.zy_parts.specs.declared.statements.Local.{Local}
use Rattle.zy_parts.specs.declared.statements.Check.{Check}
use Rattle.zy_parts.specs.declared.reports.Began.{Began}

abbrev pub point_of_spec : Spec → View × Place × Digest
point_of_spec s = (s.view, s.place, s.head)

abbrev pub point_of_local : Local → View × Place × Digest
point_of_local s = (s.view, s.place, s.head)

abbrev pub point_of_check : Check → View × Place × Digest
point_of_check s = (s.view, s.place, s.head)

abbrev pub point_of_began : Began → View × Place × Digest
point_of_began s = (s.view, s.place, s.head)
