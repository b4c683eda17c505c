-- What is left of a key is left of it as the top key of two levels.
use Rattle.std.proofs.Common.{◌+◌, ◌≤◌, ℕ, arith}
use Rattle.zy_lms.specs.declared.height.Height.{Height}
use Rattle.zy_lms.specs.declared.height.Height.TheVariants.{H5, H10}
use Rattle.zy_seal.specs.Sealing.{signatures_by}
use Rattle.zy_group.specs.Fields.{count_by}
use Rattle.zy_group.specs.Own.{number_from}
use Rattle.zy_group.specs.declared.secret.Version.{Version}
use Rattle.zy_group.specs.declared.secret.Version.TheVariants.{OneLevel, TwoLevels}

pub number_left : (version : Version) (height : Height) (next : ℕ) → next + 1 ≤ count_by version height → number_from version height next + 1 ≤ signatures_by height
number_left OneLevel H5 next left = omega arith
number_left OneLevel H10 next left = omega arith
number_left TwoLevels height next left = left
