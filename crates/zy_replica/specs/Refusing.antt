-- What a caller sees of a refused step.
use Rattle.std.specs.Prelude.{◌≡◌, ℕ, List, []}
use Rattle.zy_base.specs.declared.ids.Party.{Party}
use Rattle.zy_base.specs.declared.step.Spoken.{Spoken}
use Rattle.zy_base.specs.declared.step.Timers.{Timers}
use Rattle.zy_table.specs.State.{State, timers_of}
use Rattle.zy_table.specs.declared.deeds.Got.{Got}

-- the replica and its timers are as before, nothing is sent, nothing is said, and no entry is gained
pub record IsUnchanged {S : Type 0} (before after : State S) (rings : Timers) (out : List (Party × List ℕ)) (said : List Spoken) (got : List Got) : Type 0 where
  pub replica : after ≡ before
  pub timers : rings ≡ timers_of before
  pub sent : out ≡ []
  pub silent : said ≡ []
  pub gained : got ≡ []
