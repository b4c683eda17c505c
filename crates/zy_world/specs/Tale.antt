-- What a liar or a forger is told to sign.
use Rattle.std.specs.Prelude.{◌≡◌, ◌≢◌, ℕ, ◌&&◌, Bool, true, false, if◌then◌else◌, List, Option, Some, None}
use Rattle.std.specs.List.{list_all}
use Rattle.zy_base.specs.declared.ids.Party.{Party}
use Rattle.zy_base.specs.declared.ids.Party.TheVariants as parties
use Rattle.zy_seal.specs.Sealing.{spent_one, signatures_by}
use Rattle.zy_world_setup.specs.Telling.{IsOrderable, IsTellable, IsToldBy, telling_of}
use Rattle.zy_world.specs.Shown.{Seated, Keyed, seat_of, is_seated, is_liar_seat, is_correct_seat, with_key}
use Rattle.zy_world.specs.declared.tale.Tale.{Tale}
use Rattle.zy_world.specs.declared.tale.Tale.TheVariants.{Order, Spec, Statement}
use Rattle.zy_world_law.specs.Liars.{Telling, order_told, spec_told, is_short}
use Rattle.zy_world_law.specs.Setup.{Setup, sealer_of}
use Rattle.zy_chain.specs.Answers.{FitsAnswers}

abbrev pub told_in : Tale → Option Telling
told_in (Order view asks) = order_told view asks
told_in (Spec view asks reply) = spec_told view reply asks
told_in (Statement statement) = Some (telling_of statement)

-- it can be spelled
abbrev pub IsTale : Tale → Type 0
IsTale (Order view asks) = IsOrderable view asks
IsTale (Spec view asks reply) = IsOrderable view asks × FitsAnswers reply
IsTale (Statement statement) = IsTellable statement

-- only the frame of a statement can be too long
abbrev pub is_statement : Tale → Bool
is_statement (Order view asks) = false
is_statement (Spec view asks reply) = false
is_statement (Statement statement) = true

abbrev pub is_short_tale : Setup → Party → Tale → Bool
is_short_tale setup party (Order view asks) = true
is_short_tale setup party (Spec view asks reply) = true
is_short_tale setup party (Statement statement) = is_short setup party (telling_of statement)

-- what is told, if its frame isn't too long
abbrev pub told_by : Setup → Party → Tale → Option Telling
told_by setup party tale = if is_short_tale setup party tale then told_in tale else None

-- A liar whose key stands at this number signed these bytes: they aren't too long, and a signature was left and is spent.
pub record IsSigned (setup : Setup) (liar : Party) (number : ℕ) (tale : Tale) (old new : Keyed) (bytes : List ℕ) : Type 0 where
  pub short : is_short_tale setup liar tale ≡ true
  pub told : IsToldBy (told_in tale) (sealer_of setup liar number) (Some bytes)
  pub left : number ≢ signatures_by setup.height
  pub spent : new ≡ with_key old liar (Some (spent_one (sealer_of setup liar number)))

-- or they would be too long, and no signature is spent
abbrev pub IsAnswered : Setup → Party → ℕ → Tale → Keyed → Keyed → Option (List ℕ) → Type 0
IsAnswered setup liar number tale old new None = (is_short_tale setup liar tale ≡ false) × (new ≡ old)
IsAnswered setup liar number tale old new (Some bytes) = IsSigned setup liar number tale old new bytes

-- or they wouldn't, and no signature is left
pub record IsSpent (setup : Setup) (liar : Party) (number : ℕ) (tale : Tale) (old new : Keyed) : Type 0 where
  pub short : is_short_tale setup liar tale ≡ true
  pub spent : number ≡ signatures_by setup.height
  pub same : new ≡ old

-- only replicas sign what is said of a history
abbrev pub if_replica : {A : Type 0} → Party → Option A → Option A
if_replica (parties.Replica id) found = found
if_replica (parties.Client id) found = None

-- this party lies, or is correct, and there is each of the others
abbrev pub can_lie : {S : Type 0} → Seated S → Party → List Party → Bool
can_lie seats liar to = is_liar_seat (seat_of seats liar) && list_all (λ party. is_seated (seat_of seats party)) to

abbrev pub can_forge : {S : Type 0} → Seated S → Party → List Party → Bool
can_forge seats party to = is_correct_seat (seat_of seats party) && list_all (λ other. is_seated (seat_of seats other)) to
