-- What was said, as far as it is known which texts are among it.
use Rattle.std.proofs.Common.{◌≡◌, ℕ, zero, suc, ◌≤◌, length, inl, inr, Bool, true, false, ◌&&◌, ◌||◌, List, [], ◌∷◌, ◌++◌, map, Option, Some, None, option_map, refl, sym, ap, ◌∙◌, arith}
use Rattle.std.specs.Prelude.{slice_get, slice_set, nat_eq, not}
use Rattle.std.specs.List.{find, list_any, range_with_len}
use Rattle.std.specs.Str.{bytes_eq}
use Rattle.std.specs.Prelude.{if◌then◌else◌}
use Rattle.std.proofs.lemmas.Bool.{false≢true}
use Rattle.std.proofs.lemmas.List.{map-append}
use Rattle.std.proofs.lemmas.List.Folds.{list_any-append}
use Rattle.std.proofs.lemmas.Option.{slice_get_cases}
use Rattle.std.specs.Cmp.{unsigned_Decides}
use Rattle.zy_table.proofs.RangeLemmas.{range_snoc}
use Rattle.zy_world_law.proofs.Seats.{get_set, get_set_other}
use Rattle.zy_world_setup.proofs.ListLemmas.{any_number}
use Rattle.zy_base.specs.Machine.{Rules}
use Rattle.zy_base.specs.declared.ids.ClientId.{ClientId}
use Rattle.zy_base.specs.declared.ids.Party.{Party}
use Rattle.zy_base.specs.declared.ids.Party.TheVariants as parties
use Rattle.zy_base.specs.declared.ids.ReplicaId.{ReplicaId}
use Rattle.zy_parts.specs.declared.signed.Part.{Part}
use Rattle.zy_seal.specs.Keys.{Keys}
use Rattle.zy_seal.specs.Screening.{answer_to}
use Rattle.zy_world_law.specs.Honest.{is_unsaid, is_yes}
use Rattle.zy_world_law.specs.Setup.{Setup}
use Rattle.zy_world_law.specs.World.{correct_in, seats, start, starting_replica, starting_client, texts_said}
use Rattle.zy_world_setup.specs.Said.{Told, told_by, is_among, AreShown, also_if, also_said, none_said, SaysAt, is_forged_by, forger_among}

abbrev pub Saying : Type 0
Saying = Party → Option (List (List ℕ))

-- ---- forgers

-- whether a text is unsaid, by whether it is among those that were said
abbrev unsaid : Option Bool → Bool
unsaid None = false
unsaid (Some b) = not b

unsaid_is : (text : List ℕ) (said : Option (List (List ℕ))) → is_unsaid said text ≡ unsaid (is_among text said)
unsaid_is text None = refl
unsaid_is text (Some said) = refl

unsaid_alike : (text : List ℕ) (a b : Option (List (List ℕ))) → is_among text a ≡ is_among text b → is_unsaid a text ≡ is_unsaid b text
unsaid_alike text a b same = unsaid_is text a ∙ ap unsaid same ∙ sym (unsaid_is text b)

pub forger_shown : (keys : Keys) (said : Saying) (told : Told) (parts : List Part) → AreShown said told → forger_among keys (told_by told) parts ≡ forger_among keys said parts
forger_shown keys said told parts shown =
    let same : is_forged_by keys (told_by told) ≡ is_forged_by keys said =
    λ j part. is_yes (answer_to keys part) && unsaid_alike part.text (told_by told part.by) (said part.by) (sym (shown part.by part.text)) j in
    ap (λ (test : Part → Bool). option_map (λ part. part.by) (find test parts)) same

-- ---- more is said

abbrev or_any : Bool → Option Bool → Option Bool
or_any more was = option_map (λ b. b || more) was

among_more : (text : List ℕ) (more : List (List ℕ)) (said : Option (List (List ℕ)))
    → is_among text (option_map (λ texts. texts ++ more) said) ≡ or_any (list_any (bytes_eq text) more) (is_among text said)
among_more text more None = refl
among_more text more (Some said) = ap (λ (b : Bool). Some b) (list_any-append (bytes_eq text) said more)

pub also_alike : (text : List ℕ) (more : List (List ℕ)) (here : Bool) (a b : Option (List (List ℕ))) → is_among text a ≡ is_among text b
    → is_among text (also_if here more a) ≡ is_among text (also_if here more b)
also_alike text more true a b same = among_more text more a ∙ ap (or_any (list_any (bytes_eq text) more)) same ∙ sym (among_more text more b)
also_alike text more false a b same = same

module _ (said : Saying) (old : Told) (more : List (List ℕ)) (shown : AreShown said old) where
  pub replica_says : (id : ReplicaId) (new : Told) → SaysAt id.0 more old.replicas new.replicas → new.clients ≡ old.clients → AreShown (also_said said (parties.Replica id) more) new
  replica_says id new says same (parties.Replica other) text =
      also_alike text more (nat_eq other.0 id.0) _ _ (shown (parties.Replica other) text) ∙ sym (says other.0 text)
  replica_says id new says same (parties.Client other) text =
      shown (parties.Client other) text ∙ ap (λ (seats : List (Option (List (List ℕ)))). is_among text (correct_in (slice_get seats other.0))) (sym same)

  pub client_says : (id : ClientId) (new : Told) → SaysAt id.0 more old.clients new.clients → new.replicas ≡ old.replicas → AreShown (also_said said (parties.Client id) more) new
  client_says id new says same (parties.Client other) text =
      also_alike text more (nat_eq other.0 id.0) _ _ (shown (parties.Client other) text) ∙ sym (says other.0 text)
  client_says id new says same (parties.Replica other) text =
      shown (parties.Replica other) text ∙ ap (λ (seats : List (Option (List (List ℕ)))). is_among text (correct_in (slice_get seats other.0))) (sym same)

pub same_shown : (said more : Saying) (told : Told) → ((party : Party) → more party ≡ said party) → AreShown said told → AreShown more told
same_shown said more told same shown party text = ap (is_among text) (same party) ∙ shown party text

-- ---- the start

abbrev seat : {A : Type 0} → List ℕ → (ℕ → A) → ℕ → Option A
seat lying starts id = if list_any (nat_eq id) lying then None else Some (starts id)

seats_mapped : {A B : Type 0} (f : A → B) (lying : List ℕ) (starts : ℕ → A) (ids : List ℕ) (i : ℕ)
    → option_map f (correct_in (slice_get (map (seat lying starts) ids) i)) ≡ correct_in (slice_get (map (seat lying (λ id. f (starts id))) ids) i)
seats_mapped f lying starts [] i = refl
seats_mapped f lying starts (id ∷ ids) zero = taken (list_any (nat_eq id) lying)
  where
    taken : (b : Bool) → option_map f (if b then None else Some (starts id)) ≡ (if b then None else Some (f (starts id)))
    taken true = refl
    taken false = refl
seats_mapped f lying starts (id ∷ ids) (suc i) = seats_mapped f lying starts ids i

pub start_shown : {S : Type 0} (R : Rules S) (setup : Setup) → AreShown (texts_said (start R setup)) (none_said setup.counts.n setup.liars setup.clients setup.lying_clients)
unfolding seats
start_shown R setup (parties.Replica id) text =
    ap (is_among text) (seats_mapped (λ x. map (λ remark. remark.text) x.said) setup.liars (starting_replica R setup) (range_with_len 0 setup.counts.n) id.0)
start_shown R setup (parties.Client id) text =
    ap (is_among text) (seats_mapped (λ x. x.said) setup.lying_clients (starting_client setup) (range_with_len 0 setup.clients) id.0)

-- ---- one seat

abbrev Seats : Type 0
Seats = List (Option (List (List ℕ)))

abbrev in_seat : List ℕ → Option (Option (List (List ℕ))) → Option Bool
in_seat text seat = is_among text (correct_in seat)

abbrev in_added : List ℕ → Bool → List (List ℕ) → Option (Option (List (List ℕ))) → Option Bool
in_added text here more seat = is_among text (also_if here more (correct_in seat))

-- one seat was written
pub says_at : (more : List (List ℕ)) (old : Seats) (at : ℕ) (was new : Option (List (List ℕ))) → slice_get old at ≡ Some was
    → ((text : List ℕ) → is_among text new ≡ is_among text (option_map (λ texts. texts ++ more) was)) → SaysAt at more old (slice_set old at new)
says_at more old at was new there says i text = by (nat_eq i at) refl
  where
    by : (here : Bool) → nat_eq i at ≡ here → in_seat text (slice_get (slice_set old at new) i) ≡ in_added text here more (slice_get old i)
    by true same =
        let is : i ≡ at = (unsigned_Decides i at).0 same in
        ap (in_seat text) (ap (slice_get (slice_set old at new)) is ∙ get_set old at new was there)
        ∙ says text
        ∙ sym (ap (in_added text true more) (ap (slice_get old) is ∙ there))
    by false other = ap (in_seat text) (get_set_other old at i new (λ is. false≢true (sym other ∙ (unsigned_Decides i at).1 is)))

-- there is no such seat
pub says_nothing : (more : List (List ℕ)) (old : Seats) (at : ℕ) → slice_get old at ≡ None → SaysAt at more old old
says_nothing more old at none i text = by (nat_eq i at) refl
  where
    by : (here : Bool) → nat_eq i at ≡ here → in_seat text (slice_get old i) ≡ in_added text here more (slice_get old i)
    by true same =
        let is : slice_get old i ≡ None = ap (slice_get old) ((unsigned_Decides i at).0 same) ∙ none in
        ap (in_seat text) is ∙ sym (ap (in_added text true more) is)
    by false other = refl

pub none_at : {A : Type 0} (xs : List A) (i : ℕ) → length xs ≤ i → slice_get xs i ≡ None
none_at xs i beyond =
    elim (slice_get_cases xs i).1 [
      | inl there ↦ absurd (omega (arith, there.1, beyond))
      | inr none ↦ none.1
    ]

pub seat_last : {A B : Type 0} (f : B → ℕ) (ids : List B) (x : A) (n : ℕ)
    → seats n (map f ids) (λ id. x) ++ (if list_any (λ y. nat_eq (f y) n) ids then None else Some x) ∷ [] ≡ seats (suc n) (map f ids) (λ id. x)
unfolding seats
seat_last f ids x n =
    let seat : ℕ → Option _ = λ id. if list_any (nat_eq id) (map f ids) then None else Some x in
    ap (λ (b : Bool). map seat (range_with_len 0 n) ++ (if b then None else Some x) ∷ []) (any_number f n ids)
    ∙ sym (ap (map seat) (range_snoc n) ∙ map-append seat (range_with_len 0 n) (n ∷ []))
