-- The texts that are kept, as pairs of a digest and a text.
use Rattle.std.specs.Prelude.{◌≡◌, ℕ, List, Ok, Err}
use Rattle.std.specs.Map.{lookup}
use Rattle.zy_base.specs.declared.ids.Digest.{Digest}
use Rattle.zy_admit.specs.Judging.{same_digest}
use Rattle.zy_world_law.specs.Texts.{keep_all}
use Rattle.zy_world_law.specs.World.{Texts}

abbrev pub Pairs : Type 0
Pairs = List (Digest × List ℕ)

-- the text that is kept under a digest
abbrev pub look_up : Pairs → Texts
look_up pairs d = lookup (same_digest d) pairs

-- the pairs are these texts
abbrev pub IsShown : Texts → Pairs → Type 0
IsShown texts pairs = (d : Digest) → texts d ≡ look_up pairs d

-- texts that are brought can be kept beside those that the old pairs show, and the new pairs show what is kept then
abbrev pub Keeps : List (List ℕ) → Pairs → Pairs → Type 0
Keeps brought old new = (texts : Texts) → IsShown texts old → (v : Texts) × (keep_all brought texts ≡ Ok v) × IsShown v new

-- one of the texts that are brought can't be kept: this is the digest of the first such one
abbrev pub Clashes : List (List ℕ) → Pairs → Digest → Type 0
Clashes brought old d = (texts : Texts) → IsShown texts old → keep_all brought texts ≡ Err d
