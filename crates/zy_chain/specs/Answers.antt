-- What an entry is answered with: one value, which is kept with the entry, sent to its clients, and told by its digest.
use Rattle.std.specs.Prelude.{ℕ, ◌≤◌, List, length}
use Rattle.sha2.specs.Sha256.{sha256}
use Rattle.zy_base.specs.declared.ids.Digest.{Digest}
use Rattle.zy_wire.specs.Spelling.{Spelling}
use Rattle.zy_wire.specs.Fields.{bytes16}

abbrev pub Answers : Type 0
Answers = List ℕ

-- its bytes, and SHA-256 of them
abbrev pub bytes_of_answers : Answers → List ℕ
bytes_of_answers answers = answers

abbrev pub digest_of_answers : Answers → Digest
digest_of_answers answers = record { 0 = sha256 (bytes_of_answers answers) }

-- as long as it may be
abbrev pub FitsAnswers : Answers → Type 0
FitsAnswers answers = length answers ≤ 1100

-- as a field of others: its bytes behind their length in two bytes
abbrev pub answers_fields : Spelling Answers
answers_fields = bytes16 1100
