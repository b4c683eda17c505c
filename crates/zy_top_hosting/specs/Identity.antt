-- Whose journal a file holds.
use Rattle.std.specs.Prelude.{ℕ, List, ◌++◌}
use Rattle.sha2.specs.Sha256.{sha256}
use Rattle.zy_base.specs.declared.ids.Digest.{Digest}
use Rattle.zy_base.specs.declared.ids.Party.TheVariants as parties
use Rattle.zy_base.specs.declared.ids.ReplicaId.{ReplicaId}
use Rattle.zy_wire.specs.Fields.{party_bytes}

-- a replica's, by the texts of its group's file and of its secret's
abbrev pub identity_of : ReplicaId → List ℕ → List ℕ → Digest
identity_of id group secret = record { 0 = sha256 (sha256 group ++ (sha256 secret ++ party_bytes (parties.Replica id))) }
