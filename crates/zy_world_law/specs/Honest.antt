-- A forged signature: one that verifies under a correct party's key on a text that the party didn't say.
use Rattle.std.specs.Prelude.{ℕ, ◌&&◌, Bool, true, false, not, List, Option, Some, None, option_map}
use Rattle.std.specs.List.{find, list_any}
use Rattle.std.specs.Str.{bytes_eq}
use Rattle.zy_base.specs.declared.ids.Party.{Party}
use Rattle.zy_parts.specs.declared.signed.Part.{Part}
use Rattle.zy_seal.specs.Screening.{answer_to}
use Rattle.zy_seal.specs.declared.directory.SealAnswer.{SealAnswer}
use Rattle.zy_seal.specs.declared.directory.SealAnswer.TheVariants as answers
use Rattle.zy_world_law.specs.Reading.{parts_in}
use Rattle.zy_world_law.specs.Setup.{keys_of}
use Rattle.zy_world_law.specs.World.{World, texts_said}

abbrev pub is_yes : SealAnswer → Bool
is_yes answers.Yes = true
is_yes answers.UnknownParty = false
is_yes answers.BadSignature = false

-- a correct party said other texts; of a liar nothing is known
abbrev pub is_unsaid : Option (List (List ℕ)) → List ℕ → Bool
is_unsaid None text = false
is_unsaid (Some said) text = not (list_any (bytes_eq text) said)

abbrev pub is_forged : {S : Type 0} → World S → Part → Bool
is_forged w part = is_yes (answer_to (keys_of w.setup) part) && is_unsaid (texts_said w part.by) part.text

-- the correct party under whose key the first such part of the bytes' frame verifies
abbrev pub forger_in : {S : Type 0} → World S → List ℕ → Option Party
forger_in w bytes = option_map (λ part. part.by) (find (is_forged w) (parts_in bytes))
