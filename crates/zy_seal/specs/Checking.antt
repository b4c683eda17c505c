-- What a check of a signature says.
use Rattle.std.specs.Prelude.{ℕ, if◌then◌else◌, List, Option, Some, None}
use Rattle.zy_base.specs.declared.ids.Party.{Party}
use Rattle.zy_lms.specs.Hss.{hss_verified}
use Rattle.zy_seal.specs.declared.directory.SealAnswer.{SealAnswer}
use Rattle.zy_seal.specs.declared.directory.SealAnswer.TheVariants.{Yes, UnknownParty, BadSignature}
use Rattle.zy_seal.specs.Keys.{Keys, key_of}

-- under this key, if there is one
abbrev pub answer_under : Option (List ℕ) → List ℕ → List ℕ → SealAnswer
answer_under None text sig = UnknownParty
answer_under (Some key) text sig = if hss_verified key text sig then Yes else BadSignature

-- under the key of the party that is said to have signed the text
abbrev pub answer_of : Keys → Party → List ℕ → List ℕ → SealAnswer
answer_of keys by text sig = answer_under (key_of keys by) text sig
