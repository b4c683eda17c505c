-- What the loops over the chains of a key keep, and that a signature leads back to its key.
use Rattle.std.proofs.Common.{arith, ◌≡◌, ◌-◌, ◌≤◌, ◌<◌, ◌++◌, ◌∷◌, [], length, ℕ, ◌+◌, ◌*◌, ◌/◌, ◌%◌, ◌^◌, List, take, drop, sym, ap, refl, length-append, append_assoc, subst, zero-add}
use Rattle.std.proofs.lemmas.List.{append-nil, take_at, drop_at, drop-drop}
use Rattle.std.proofs.lemmas.Grind.{numeral_and}
use Rattle.std.proofs.lemmas.Nat.{from_be_bytes-to_be_bytes_4}
use Rattle.std.specs.Prelude.{slice_index}
use Rattle.std.specs.Int.{w16, w32, to_be_bytes}
use Rattle.sha2.proofs.Facts256.{length-sha256}
use Rattle.sha2.specs.Sha256.{sha256}
use Rattle.sha2.specs.Hashers.{Holds256}
use Rattle.sha2.specs.declared.Sha256.{Sha256}
use Rattle.zy_ots.specs.declared.ots_type.OtsType.{OtsType}
use Rattle.zy_ots.specs.declared.ots_type.OtsType.TheVariants.{W4, W8}
use Rattle.zy_ots.specs.OtsType.{number_of, chain_count_of, last_place_of, signature_len_of}
use Rattle.zy_ots.specs.Coef.{number_at, checksum_of}
use Rattle.zy_ots.specs.Chain.{prefix_of, joined}
use Rattle.zy_ots.specs.OneTime.{private_value, public_end, public_from, public_of, message_digest, place_of, randomizer, signed_value, signature_of, Verifies, value_at, chain_end, candidate_of}
use Rattle.zy_ots.proofs.ChainLemmas.{joined_none, joined_more, joined_same, joined_at, length-joined, length-chain, chain_joins}

-- bytes so far, and the next value
pub joined_next : (bytes value : List ℕ) (f : ℕ → List ℕ) (i : ℕ) → value ≡ f i
    → (bytes ++ joined f i) ++ value ≡ bytes ++ joined f (i + 1)
joined_next bytes value f i next = rw (next, joined_more f i, append_assoc bytes (joined f i) (f i)) refl

pub joined_start : (bytes : List ℕ) (f : ℕ → List ℕ) → bytes ++ joined f 0 ≡ bytes
joined_start bytes f = rw (joined_none f) (append-nil bytes)

-- a hasher that has taken the values so far, and the next
pub taken_none : (hasher : Sha256) (bytes : List ℕ) (f : ℕ → List ℕ) → Holds256 hasher bytes
    → Holds256 hasher (bytes ++ joined f 0)
taken_none hasher bytes f holds = subst (λ m. Holds256 hasher m) (sym (joined_start bytes f)) holds

pub taken_more : (hasher : Sha256) (bytes value : List ℕ) (f : ℕ → List ℕ) (i : ℕ)
    → Holds256 hasher ((bytes ++ joined f i) ++ value) → value ≡ f i → Holds256 hasher (bytes ++ joined f (i + 1))
taken_more hasher bytes value f i holds next = subst (λ m. Holds256 hasher m) (joined_next bytes value f i next) holds

pub public_is : (t : OtsType) (id seed digest : List ℕ) (q n : ℕ) → n ≡ chain_count_of t
    → digest ≡ sha256 (prefix_of id q 0x8080 ++ joined (public_end t id q seed) n) → digest ≡ public_of t id q seed
unfolding public_of
public_is t id seed digest q n all made = rw all at made

pub candidate_is : (t : OtsType) (id message signature digest : List ℕ) (q n : ℕ) → n ≡ chain_count_of t
    → digest ≡ sha256 (prefix_of id q 0x8080 ++ joined (chain_end t id q (message_digest id q (take 32 (drop 4 signature)) message) signature) n)
    → digest ≡ candidate_of t id q message signature
unfolding candidate_of
candidate_is t id message signature digest q n all made = rw all at made

pub signature_is : (t : OtsType) (out made id seed message : List ℕ) (q n : ℕ) → n ≡ chain_count_of t
    → made ≡ out ++ to_be_bytes w32 (number_of t) ++ randomizer id q seed
    ++ joined (signed_value t id q seed (message_digest id q (randomizer id q seed) message)) n
    → made ≡ out ++ signature_of t id q seed message
unfolding signature_of
signature_is t out made id seed message q n all is =
    rw (← append_assoc out (to_be_bytes w32 (number_of t) ++ randomizer id q seed) (joined (signed_value t id q seed (message_digest id q (randomizer id q seed) message)) (chain_count_of t)), ← append_assoc out (to_be_bytes w32 (number_of t)) (randomizer id q seed)) (rw all at is)

pub place_from_start : (n : ℕ) → n - 0 ≡ n
place_from_start n = omega arith

-- ---- a signature leads back to its key

number_fits : (t : OtsType) → number_of t < 2 ^ 32
number_fits W4 = omega arith
number_fits W8 = omega arith

-- every place that a signature tells lies on its chain
place_bound : (t : OtsType) (digest : List ℕ) (i : ℕ) → place_of t digest i ≤ last_place_of t
place_bound W4 digest i =
    let read = slice_index (digest ++ to_be_bytes w16 (checksum_of W4 digest)) (i * 4 / 8) / 2 ^ (8 - (4 * (i % 2) + 4)) in
    rw (numeral_and 14 read refl) (omega arith)
place_bound W8 digest i =
    let read = slice_index (digest ++ to_be_bytes w16 (checksum_of W8 digest)) (i * 8 / 8) / 2 ^ (8 - (8 * (i % 1) + 8)) in
    rw (numeral_and 254 read refl) (omega arith)

module _ (t : OtsType) (id : List ℕ) (q : ℕ) (seed message : List ℕ) where
  the_randomizer : List ℕ
  the_randomizer = randomizer id q seed

  front : List ℕ
  front = to_be_bytes w32 (number_of t) ++ randomizer id q seed

  length-front : length front ≡ 36
  unfolding front
  length-front = omega (arith, length-append (to_be_bytes w32 (number_of t)) (randomizer id q seed), length-sha256 (prefix_of id q 0xfffd ++ 0xff ∷ [] ++ seed))

  value_of : ℕ → List ℕ
  value_of = signed_value t id q seed (message_digest id q (randomizer id q seed) message)

  length-value_of : (i : ℕ) → length (value_of i) ≡ 32
  unfolding value_of
  length-value_of i = length-chain _ _ 0 _ (length-sha256 _)

  signature : signature_of t id q seed message ≡ front ++ joined value_of (chain_count_of t)
  unfolding signature_of front value_of
  signature = refl

  length-signature : length (signature_of t id q seed message) ≡ signature_len_of t
  length-signature =
      rw signature (omega (arith, length-append front (joined value_of (chain_count_of t)), length-front, length-joined value_of (chain_count_of t) length-value_of))

  -- y[i] stands where the verifier looks for it
  value_at-signature : (i : ℕ) → i < chain_count_of t → value_at (signature_of t id q seed message) i ≡ value_of i
  value_at-signature i below =
      rw (signature, ← drop-drop (32 * i) 36 (front ++ joined value_of (chain_count_of t)), drop_at front (joined value_of (chain_count_of t)) 36 length-front)
      (joined_at value_of (chain_count_of t) i length-value_of below)

  randomizer-signature : take 32 (drop 4 (signature_of t id q seed message)) ≡ randomizer id q seed
  unfolding front
  randomizer-signature =
      let type = to_be_bytes w32 (number_of t) in
      let values = joined value_of (chain_count_of t) in
      rw (signature, append_assoc type (randomizer id q seed) values, drop_at type (randomizer id q seed ++ values) 4 refl)
      (take_at (randomizer id q seed) values 32 (length-sha256 (prefix_of id q 0xfffd ++ 0xff ∷ [] ++ seed)))

  -- a chain walked to its place and on to its end is the whole chain
  end-value_of : (i : ℕ) → i < chain_count_of t
      → chain_end t id q (message_digest id q (randomizer id q seed) message) (signature_of t id q seed message) i
      ≡ public_end t id q seed i
  unfolding value_of
  end-value_of i below =
      let a = place_of t (message_digest id q (randomizer id q seed) message) i in
      let prefix = prefix_of id q i in
      let x = private_value id q seed i in
      let whole : a + (last_place_of t - a) ≡ last_place_of t = omega (arith, place_bound t (message_digest id q (randomizer id q seed) message) i) in
      let joins = chain_joins prefix x 0 a (last_place_of t - a) in
      rw (value_at-signature i below) (rw (zero-add a, whole) at joins)

  pub candidate_of-signature : candidate_of t id q message (signature_of t id q seed message) ≡ public_of t id q seed
  unfolding candidate_of public_of
  candidate_of-signature =
      rw randomizer-signature
      (ap (public_from id q)
      (joined_same (chain_end t id q (message_digest id q (randomizer id q seed) message) (signature_of t id q seed message))
      (public_end t id q seed) (chain_count_of t) end-value_of))

  number_at-signature : number_at (signature_of t id q seed message) 0 ≡ number_of t
  unfolding front
  number_at-signature = rw signature (from_be_bytes-to_be_bytes_4 (number_of t) (number_fits t))

  pub Verifies-signature : Verifies t id q message (signature_of t id q seed message) (public_of t id q seed)
  Verifies-signature = ((length-signature, number_at-signature), candidate_of-signature)
