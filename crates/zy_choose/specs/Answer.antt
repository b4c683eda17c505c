-- What the choice over reports answers.
use Rattle.std.specs.Prelude.{ℕ, List}
use Rattle.zy_choose.specs.Choice.{IsChosen, IsClash}
use Rattle.zy_choose.specs.Marks.{link}
use Rattle.zy_choose.specs.Reports.{PlainReport}
use Rattle.zy_choose.specs.declared.choice.Choice.{Choice}
use Rattle.zy_choose.specs.declared.choice.Choice.TheVariants.{Chosen, AnchorClash}

abbrev pub IsAnswer : ℕ → List PlainReport → Choice → Type 0
IsAnswer agree reports (Chosen provider place head) = IsChosen link agree reports provider (record { place = place.0; head = head })
IsAnswer agree reports (AnchorClash first second) = IsClash reports first second
