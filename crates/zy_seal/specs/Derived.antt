-- The seed and the identifier of each party of a group, derived from one seed of 32 bytes.
use Rattle.std.specs.Prelude.{ℕ, List, ◌∷◌, ◌++◌, take}
use Rattle.sha2.specs.Sha256.{sha256}
use Rattle.zy_base.specs.declared.ids.Party.{Party}
use Rattle.zy_wire.specs.Fields.{party_bytes}

-- SHA-256 of the byte 1, the seed and the party's five bytes
abbrev pub seed_of : List ℕ → Party → List ℕ
seed_of seed by = sha256 (1 ∷ seed ++ party_bytes by)

-- the first 16 bytes of SHA-256 of the byte 2, the seed and the party's five bytes
abbrev pub id_of : List ℕ → Party → List ℕ
id_of seed by = take 16 (sha256 (2 ∷ seed ++ party_bytes by))
