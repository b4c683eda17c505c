-- What each party said, and who is named as a forger.
use Rattle.std.specs.Prelude.{◌≡◌, ℕ, ◌&&◌, Bool, if◌then◌else◌, List, [], ◌++◌, slice_get, nat_eq, Option, option_map}
use Rattle.std.specs.List.{find, list_any}
use Rattle.std.specs.Str.{bytes_eq}
use Rattle.zy_base.specs.declared.ids.Party.{Party}
use Rattle.zy_base.specs.declared.ids.Party.TheVariants as parties
use Rattle.zy_parts.specs.declared.signed.Part.{Part}
use Rattle.zy_seal.specs.Keys.{Keys}
use Rattle.zy_seal.specs.Screening.{answer_to}
use Rattle.zy_world_law.specs.Honest.{is_yes, is_unsaid}
use Rattle.zy_world_law.specs.World.{correct_in, same_party, seats}

-- by their numbers: the texts that each correct party said, in any order; none where a party lies
pub record Told : Type 0 where
  pub replicas : List (Option (List (List ℕ)))
  pub clients : List (Option (List (List ℕ)))

-- what a correct party said
abbrev pub told_by : Told → Party → Option (List (List ℕ))
told_by told (parties.Replica id) = correct_in (slice_get told.replicas id.0)
told_by told (parties.Client id) = correct_in (slice_get told.clients id.0)

-- whether a text is among those that a correct party said
abbrev pub is_among : List ℕ → Option (List (List ℕ)) → Option Bool
is_among text said = option_map (list_any (bytes_eq text)) said

-- each party said the same texts, whatever their order and however often
abbrev pub AreShown : (Party → Option (List (List ℕ))) → Told → Type 0
AreShown said told = (party : Party) (text : List ℕ) → is_among text (said party) ≡ is_among text (told_by told party)

-- a correct party says some more
abbrev pub also_if : Bool → List (List ℕ) → Option (List (List ℕ)) → Option (List (List ℕ))
also_if here more said = if here then option_map (λ texts. texts ++ more) said else said

abbrev pub also_said : (Party → Option (List (List ℕ))) → Party → List (List ℕ) → Party → Option (List (List ℕ))
also_said said party more other = also_if (same_party other party) more (said other)

-- the seats of one kind after the party with this number said more
abbrev pub SaysAt : ℕ → List (List ℕ) → List (Option (List (List ℕ))) → List (Option (List (List ℕ))) → Type 0
SaysAt at more old new =
    (i : ℕ) (text : List ℕ) → is_among text (correct_in (slice_get new i)) ≡ is_among text (also_if (nat_eq i at) more (correct_in (slice_get old i)))

-- nobody said anything yet
abbrev pub none_said : ℕ → List ℕ → ℕ → List ℕ → Told
none_said replicas liars clients lying_clients =
    record { replicas = seats replicas liars (λ id. []); clients = seats clients lying_clients (λ id. []) }

-- the part verifies under the key of a correct party that didn't say its text
abbrev pub is_forged_by : Keys → (Party → Option (List (List ℕ))) → Part → Bool
is_forged_by keys said part = is_yes (answer_to keys part) && is_unsaid (said part.by) part.text

-- the party under whose key the first such part verifies
abbrev pub forger_among : Keys → (Party → Option (List (List ℕ))) → List Part → Option Party
forger_among keys said parts = option_map (λ part. part.by) (find (is_forged_by keys said) parts)
