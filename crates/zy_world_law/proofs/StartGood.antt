-- The start is good.
use Rattle.std.proofs.Common.{◌≡◌, inl, inr, ℕ, zero, suc, ◌+◌, ◌<◌, ◌≤◌, Bool, true, false, cond, ◌||◌, List, [], ◌∷◌, length, map, Option, Some, None, refl, sym, ap, ◌∙◌, subst, arith}
use Rattle.std.specs.Prelude.{slice_get, option_map, is_none, if◌then◌else◌, nat_eq}
use Rattle.std.specs.List.{list_any, range_with_len}
use Rattle.std.proofs.lemmas.Bool.{cases_lt, eqb-true}
use Rattle.std.proofs.lemmas.List.FromFn.{length-range_with_len, get_or-range_with_len, length-map-range_with_len}
use Rattle.std.proofs.lemmas.Option.{same_Some, slice_get-map, slice_get-get_or, slice_get_past}
use Rattle.zy_base.specs.Machine.{Rules}
use Rattle.zy_base.specs.declared.ids.Party.TheVariants as parties
use Rattle.zy_law.proofs.ConductLemmas.{start_conduct}
use Rattle.zy_law.proofs.StepsLawful.{start_lawful}
use Rattle.zy_law.specs.Counting.{count_below}
use Rattle.zy_law.specs.Said.{IsCorrect}
use Rattle.zy_law.specs.Steps.{IsStart}
use Rattle.zy_law.specs.World as law
use Rattle.zy_law_normal.specs.Tied.{Agrees}
use Rattle.zy_law_steps.proofs.AtStart.{ready_at_start, texts_at_start, work_at_start}
use Rattle.zy_seal.specs.Sealing.{SealerState}
use Rattle.zy_world_law.specs.Good.{IsGood, IsTied, IsClientTied}
use Rattle.zy_world_law.specs.Seen.{seen, said_of, past_of, spoken_by}
use Rattle.zy_world_law.specs.Setup.{Setup, IsSetup, keys_of, sealer_of}
use Rattle.zy_world_law.specs.World.{World, Replica, Client, first_texts, replica_at, client_at, correct_in, seats, start, starting_replica, starting_client}
use Rattle.zy_world_law.proofs.HeldLaw.{HeldLaw}
use Rattle.zy_world_law.proofs.KeptOrHeard.{none_filled}
use Rattle.zy_world_law.proofs.OneText.{link_of, one_text}
use Rattle.zy_world_law.proofs.StepLaws.{StepLaws}

-- ---- seats

module _ {A : Type 0} (n : ℕ) (lying : List ℕ) (starts : ℕ → A) where
  abbrev seat : ℕ → Option A
  seat id = if list_any (nat_eq id) lying then None else Some (starts id)

  length-seats : length (seats n lying starts) ≡ n
  unfolding seats
  length-seats = length-map-range_with_len seat 0 n

  number_at : (q : ℕ) → q < n → slice_get (range_with_len 0 n) q ≡ Some q
  number_at q within =
      let long = length-range_with_len 0 n in
      slice_get-get_or (range_with_len 0 n) q q (omega arith) ∙ ap (λ (m : ℕ). Some m) (get_or-range_with_len 0 n q q within ∙ (let none : 0 + q ≡ q = omega arith in none))

  seat_at : (q : ℕ) → q < n → slice_get (seats n lying starts) q ≡ Some (seat q)
  unfolding seats
  seat_at q within = slice_get-map seat (range_with_len 0 n) q ∙ ap (λ (o : Option ℕ). option_map seat o) (number_at q within)

  in_seat : (q : ℕ) (x : A) (b : Bool) → (if b then None else Some (starts q)) ≡ Some x → x ≡ starts q
  in_seat q x true is = absurd cc
  in_seat q x false is = sym (same_Some (starts q) x is)

  -- whoever sits there started so
  seated : (q : ℕ) (x : A) → correct_in (slice_get (seats n lying starts) q) ≡ Some x → (q < n) × (x ≡ starts q)
  seated q x at = elim (cases_lt q n) [
    | inl within ↦ (within, in_seat q x (list_any (nat_eq q) lying) (ap (λ (o : Option (Option A)). correct_in o) (sym (seat_at q within)) ∙ at))
    | inr past ↦
        let nobody : correct_in (slice_get (seats n lying starts) q) ≡ None = ap (λ (o : Option (Option A)). correct_in o) (slice_get_past (seats n lying starts) q (omega (arith, length-seats))) in
        absurd (let both : None ≡ Some x = sym nobody ∙ at in cc)
  ]

  lies_in : (b : Bool) (x : A) → is_none (if b then None else Some x) ≡ b
  lies_in true x = refl
  lies_in false x = refl

  lies_at : (q : ℕ) → q < n → is_none (correct_in (slice_get (seats n lying starts) q)) ≡ list_any (nat_eq q) lying
  lies_at q within = ap (λ (o : Option (Option A)). is_none (correct_in o)) (seat_at q within) ∙ lies_in (list_any (nat_eq q) lying) (starts q)

-- ---- few lie

count_same : (n : ℕ) (p q : ℕ → Bool) → ((i : ℕ) → i < n → p i ≡ q i) → count_below n p ≡ count_below n q
count_same zero p q same = refl
count_same (suc n) p q same =
    ap (λ (b : Bool). cond b 1 0 + count_below n p) (same n (omega arith)) ∙ ap (λ (m : ℕ). cond (q n) 1 0 + m) (count_same n p q (λ i below. same i (omega arith)))

bit_or : (a b : Bool) → cond (a || b) 1 0 ≤ cond a 1 0 + cond b 1 0
bit_or true true = omega arith
bit_or true false = omega arith
bit_or false b = omega arith

count_or : (n : ℕ) (p q : ℕ → Bool) → count_below n (λ i. p i || q i) ≤ count_below n p + count_below n q
count_or zero p q = omega arith
count_or (suc n) p q = omega (arith, bit_or (p n) (q n), count_or n p q)

none_at : (n a rest : ℕ) (b : Bool) → nat_eq n a ≡ b → suc n ≤ a → rest ≡ 0 → cond b 1 0 + rest ≡ 0
none_at n a rest true is below none = absurd (let same : n ≡ a = eqb-true n a is in omega arith)
none_at n a rest false is below none = omega arith

count_none : (n a : ℕ) → n ≤ a → count_below n (λ i. nat_eq i a) ≡ 0
count_none zero a below = refl
count_none (suc n) a below = none_at n a (count_below n (λ i. nat_eq i a)) (nat_eq n a) refl below (count_none n a (omega arith))

one_at : (n a : ℕ) (b : Bool) → nat_eq n a ≡ b → count_below n (λ i. nat_eq i a) ≤ 1 → cond b 1 0 + count_below n (λ i. nat_eq i a) ≤ 1
one_at n a true is most = let same : n ≡ a = eqb-true n a is in omega (arith, count_none n a (omega arith))
one_at n a false is most = omega arith

count_one : (n a : ℕ) → count_below n (λ i. nat_eq i a) ≤ 1
count_one zero a = omega arith
count_one (suc n) a = one_at n a (nat_eq n a) refl (count_one n a)

count_nobody : (n : ℕ) → count_below n (λ i. false) ≡ 0
count_nobody zero = refl
count_nobody (suc n) = omega (arith, count_nobody n)

count_listed : (n : ℕ) (numbers : List ℕ) → count_below n (λ i. list_any (nat_eq i) numbers) ≤ length numbers
count_listed n [] = omega (arith, count_nobody n)
count_listed n (a ∷ numbers) = omega (arith, count_or n (λ i. nat_eq i a) (λ i. list_any (nat_eq i) numbers), count_one n a, count_listed n numbers)

-- ---- the start

module _ {S : Type 0} (R : Rules S) (held : HeldLaw) (steps : StepLaws R) (setup : Setup) (is : IsSetup setup) where
  abbrev w : World S
  w = start R setup

  abbrev v : law.World
  v = seen R w

  pub replica_is : (q : ℕ) (x : Replica S) → replica_at w q ≡ Some x → (q < setup.counts.n) × (x ≡ starting_replica R setup q)
  replica_is q x at = seated setup.counts.n setup.liars (starting_replica R setup) q x at

  pub client_is : (q : ℕ) (x : Client) → client_at w q ≡ Some x → (q < setup.clients) × (x ≡ starting_client setup q)
  client_is q x at = seated setup.clients setup.lying_clients (starting_client setup) q x at

  few : count_below setup.counts.n v.liar ≤ setup.counts.f
  few =
      omega (
        arith,
        count_same setup.counts.n v.liar (λ i. list_any (nat_eq i) setup.liars) (λ q within. lies_at setup.counts.n setup.liars (starting_replica R setup) q within),
        count_listed setup.counts.n setup.liars,
        is.few,
      )

  said_nothing : (q : ℕ) (o : Option (Replica S)) → ((x : Replica S) → o ≡ Some x → x.said ≡ []) → said_of q o ≡ []
  said_nothing q None each = refl
  said_nothing q (Some x) each = ap (λ (l : List _). map (spoken_by q) l) (each x refl)

  stands_first : (o : Option (Replica S)) → is_none o ≡ false → ((x : Replica S) → o ≡ Some x → x.past ≡ record { view = 0; history = [] } ∷ []) → past_of o ≡ record { view = 0; history = [] } ∷ []
  stands_first None correct each = absurd cc
  stands_first (Some x) correct each = each x refl

  begins : IsStart v
  begins =
      record {
        few_liars = few;
        one_text = one_text first_texts;
        silent = λ r correct. said_nothing r (replica_at w r) (λ x at. ap (λ (y : Replica S). y.said) (replica_is r x at).1);
        stands = λ r correct. stands_first (replica_at w r) correct.honest (λ x at. ap (λ (y : Replica S). y.past) (replica_is r x at).1);
      }

  agrees : Agrees R v
  agrees = record { next = refl; digest = refl; reply = refl; state = refl }

  correct_at : (q : ℕ) (x : Replica S) → replica_at w q ≡ Some x → IsCorrect v q
  correct_at q x at = record { within = (replica_is q x at).0; honest = ap (λ (o : Option (Replica S)). is_none o) at }

  abbrev sealer_at : ℕ → SealerState
  sealer_at q = sealer_of setup (parties.Replica (record { 0 = q })) 0

  tied : (q : ℕ) (x : Replica S) → replica_at w q ≡ Some x → IsTied R w q x
  tied q x at =
      let here = replica_is q x at in
      let small : q < 256 = omega (arith, here.0, setup.counts.sound.few) in
      subst (λ (y : Replica S). IsTied R w q y) (sym here.1)
      (record {
        ready = ready_at_start R setup.interval q v (record { 0 = q }) setup.counts (keys_of setup) (sealer_at q) is.least_interval refl (start_lawful v begins) begins agrees (correct_at q x at) refl refl refl;
        works = work_at_start R setup.interval q v (record { 0 = q }) setup.counts (keys_of setup) (sealer_at q) begins (correct_at q x at) refl refl;
        keys = refl;
        spelled = steps.spelled_first setup.interval (record { 0 = q }) setup.counts (keys_of setup) (sealer_at q) is.greatest_interval small refl;
      })

  client_tied : (q : ℕ) (x : Client) → client_at w q ≡ Some x → IsClientTied R w q x
  client_tied q x at =
      subst (λ (y : Client). IsClientTied R w q y) (sym (client_is q x at).1)
      (record {
        me = refl;
        counts = refl;
        keys = refl;
        holds = held.starts (record { 0 = q }) setup.counts (keys_of setup) (sealer_of setup (parties.Client (record { 0 = q })) 0) (record { 0 = 0 });
        backed = λ number r kept. absurd (none_filled setup.counts.n number r kept);
        committed = λ waiting c waits held. absurd cc;
      })

  pub start_good : IsGood R w
  start_good =
      record {
        setup = is;
        replicas = length-seats setup.counts.n setup.liars (starting_replica R setup);
        clients = length-seats setup.clients setup.lying_clients (starting_client setup);
        conduct = start_conduct v begins;
        kept = texts_at_start R setup.interval first_texts v begins agrees (λ head e kept. link_of first_texts head e kept);
        tied = tied;
        client_tied = client_tied;
        done = tt;
      }
