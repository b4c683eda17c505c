-- Heads of histories: a digest for each list of entries.
use Rattle.std.specs.Prelude.{List, ◌++◌, replicate, fold}
use Rattle.sha2.specs.Sha256.{sha256}
use Rattle.zy_base.specs.declared.ids.Digest.{Digest}
use Rattle.zy_chain.specs.declared.entry.Entry.{Entry}
use Rattle.zy_chain.specs.Entries.{digest_of_entry}

-- the head of the empty history: 32 zero bytes
abbrev pub empty_head : Digest
empty_head = record { 0 = replicate 32 0 }

-- SHA-256 of a head followed by the digest of one more entry
unfoldable pub head_after : Digest → Digest → Digest
head_after head digest = record { 0 = sha256 (head.0 ++ digest.0) }

-- the head of a history that has these entries after those of a head
abbrev pub head_from : Digest → List Entry → Digest
head_from base entries = fold (λ head e. head_after head (digest_of_entry e)) base entries

-- the head of a whole history
abbrev pub head_of : List Entry → Digest
head_of entries = head_from empty_head entries
