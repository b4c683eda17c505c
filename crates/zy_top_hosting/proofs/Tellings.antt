-- What is told at the end where memory is wanted for it.
use Rattle.std.proofs.Common.{ℕ, List, Option, refl}
use Rattle.zy_top_words.proofs.Stops.{IsWritten-none}
use Rattle.zy_top_words.specs.Ends.{Verdict}
use Rattle.zy_top_words.specs.declared.exit.Exit.TheVariants as exits
use Rattle.zy_top_hosting.specs.Calls.{IsTelling}

pub untold : (verdict : Verdict) (taken : Option (List ℕ)) (count : ℕ) → IsTelling verdict exits.Want taken taken count count
untold verdict taken count = record { answer = tt; written = IsWritten-none verdict exits.Want taken refl; told = refl; count = refl }
