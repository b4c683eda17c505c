-- What is signed in the frames of a view change: an outer part before those inside it, from the left.
use Rattle.std.specs.Prelude.{List, [], ◌∷◌, ◌++◌, map, flat_map, Option, Some, None}
use Rattle.zy_parts.specs.Numbers as numbers
use Rattle.zy_parts.specs.Signing.{part_of}
use Rattle.zy_parts.specs.Statements.{spec_fields, check_fields}
use Rattle.zy_parts.specs.Reports.{change_fields, new_fields, began_fields, fetch_fields}
use Rattle.zy_parts.specs.declared.signed.Part.{Part}
use Rattle.zy_parts.specs.declared.signed.Signed.{Signed}
use Rattle.zy_parts.specs.declared.statements.Spec.{Spec}
use Rattle.zy_parts.specs.declared.reports.Told.{Told}
use Rattle.zy_parts.specs.declared.reports.Change.{Change}
use Rattle.zy_parts.specs.declared.reports.New.{New}
use Rattle.zy_vframes.specs.declared.frame.ViewFrame.{ViewFrame}
use Rattle.zy_vframes.specs.declared.frame.ViewFrame.TheVariants as frames

abbrev pub parts_of_certificate : Option (List (Signed Spec)) → List Part
parts_of_certificate None = []
parts_of_certificate (Some specs) = map (part_of numbers.spec spec_fields) specs

-- a report: what its view began with, its longest commit certificate, and its stable proof
abbrev pub parts_of_told : Told → List Part
parts_of_told t =
    map (part_of numbers.began began_fields) t.began ++ (parts_of_certificate t.specs ++ map (part_of numbers.check check_fields) t.checks)

abbrev pub parts_of_change : Signed Change → List Part
parts_of_change c = part_of numbers.change change_fields c ∷ parts_of_told c.stmt.told

abbrev pub parts_of_new : Signed New → List Part
parts_of_new n = part_of numbers.new new_fields n ∷ flat_map parts_of_change n.stmt.changes

abbrev pub parts_of : ViewFrame → List Part
parts_of (frames.ViewChange change) = parts_of_change change
parts_of (frames.NewView new) = parts_of_new new
parts_of (frames.ViewConfirm began) = part_of numbers.began began_fields began ∷ []
parts_of (frames.ViewCert certificate) = parts_of_new certificate.new ++ map (part_of numbers.began began_fields) certificate.begans
parts_of (frames.Fetch fetch) = part_of numbers.fetch fetch_fields fetch ∷ []
parts_of (frames.State place snapshot) = []
