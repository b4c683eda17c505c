-- Texts under their digests, in the order in which they came.
use Rattle.std.specs.Prelude.{ℕ, nat_eq, List, [], ◌∷◌, ◌++◌, Option}
use Rattle.std.specs.Cmp.Lexicographic.{pointwise}
use Rattle.std.specs.Map.{lookup}
use Rattle.std.specs.Option.{option_map_or}
use Rattle.zy_base.specs.declared.ids.Digest.{Digest}

abbrev pub Texts : Type 0
Texts = List (Digest × List ℕ)

-- the text under a digest
abbrev pub text_under : Texts → Digest → Option (List ℕ)
text_under texts digest = lookup (λ (other : Digest). pointwise nat_eq digest.0 other.0) texts

-- with a text, where none is under its digest
abbrev pub with_text : Texts → Digest → List ℕ → Texts
with_text texts digest text = option_map_or (λ _. texts) (text_under texts digest) (texts ++ (digest, text) ∷ [])
