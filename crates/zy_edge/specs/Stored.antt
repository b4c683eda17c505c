-- Where a file stands among others, and what is left of it.
use Rattle.std.specs.Prelude.{ℕ, Option, Some, None, List, [], drop, slice_get}
use Rattle.std.specs.Option.{option_map_or}
use Rattle.zy_edge.specs.Files.{Held}

-- the bytes of the file with this number, or none past the last
abbrev pub content_at : Held → Option ℕ → List ℕ
content_at files None = []
content_at files (Some i) = option_map_or (λ file. file.1) (slice_get files i) []

abbrev pub rest_at : Held → Option ℕ → ℕ → Option (List ℕ)
rest_at files None at = None
rest_at files (Some i) at = Some (drop at (content_at files (Some i)))
