-- LM-OTS keys and signatures (RFC 8554, sections 4.2 to 4.6). A key is named by its identifier id,
-- its leaf number q, and the secret seed that its private values come from.
use Rattle.std.specs.Prelude.{◌≡◌, ℕ, ◌+◌, ◌-◌, ◌*◌, ◌==◌, ◌&&◌, Bool, List, [], ◌∷◌, ◌++◌, length, take, drop}
use Rattle.std.specs.Int.{w16, w32, to_be_bytes}
use Rattle.sha2.specs.Sha256.{sha256}
use Rattle.zy_ots.specs.declared.ots_type.OtsType.{OtsType}
use Rattle.zy_ots.specs.OtsType.{number_of, width_of, chain_count_of, last_place_of, signature_len_of}
use Rattle.zy_ots.specs.Coef.{number_at, coef_of, checksum_of}
use Rattle.zy_ots.specs.Chain.{prefix_of, chain, joined}

-- x[i], the private value where chain i begins (4.2, made as in appendix A):
-- H(I || u32str(q) || u16str(i) || u8str(0xff) || SEED)
abbrev pub private_value : List ℕ → ℕ → List ℕ → ℕ → List ℕ
private_value id q seed i = sha256 (prefix_of id q i ++ 0xff ∷ [] ++ seed)

-- where chain i ends (4.3)
abbrev pub public_end : OtsType → List ℕ → ℕ → List ℕ → ℕ → List ℕ
public_end t id q seed i = chain (prefix_of id q i) 0 (last_place_of t) (private_value id q seed i)

-- K from the ends of the chains (4.3): H(I || u32str(q) || u16str(D_PBLC) || y[0] || .. || y[p-1])
abbrev pub public_from : List ℕ → ℕ → List ℕ → List ℕ
public_from id q ends = sha256 (prefix_of id q 0x8080 ++ ends)

-- K, the public value of a key (4.3)
unfoldable pub public_of : OtsType → List ℕ → ℕ → List ℕ → List ℕ
public_of t id q seed = public_from id q (joined (public_end t id q seed) (chain_count_of t))

-- Q, the digest of a message (4.5): H(I || u32str(q) || u16str(D_MESG) || C || message)
abbrev pub message_digest : List ℕ → ℕ → List ℕ → List ℕ → List ℕ
message_digest id q c message = sha256 (prefix_of id q 0x8181 ++ c ++ message)

-- a, the place of chain i that a signature of the digest tells: coef(Q || Cksm(Q), i, w) (4.5)
abbrev pub place_of : OtsType → List ℕ → ℕ → ℕ
place_of t digest i = coef_of (digest ++ to_be_bytes w16 (checksum_of t digest)) i (width_of t)

-- C, the randomizer. The standard leaves its choice to the signer. Here it is made as the private
-- values are, with 0xfffd for the chain: H(I || u32str(q) || 0xfffd || 0xff || SEED)
abbrev pub randomizer : List ℕ → ℕ → List ℕ → List ℕ
randomizer id q seed = private_value id q seed 0xfffd

-- y[i] of a signature: chain i walked from its private value to the place that the digest tells (4.5)
abbrev pub signed_value : OtsType → List ℕ → ℕ → List ℕ → List ℕ → ℕ → List ℕ
signed_value t id q seed digest i =
    chain (prefix_of id q i) 0 (place_of t digest i) (private_value id q seed i)

-- the signature of a message (4.5): u32str(type) || C || y[0] || .. || y[p-1]
unfoldable pub signature_of : OtsType → List ℕ → ℕ → List ℕ → List ℕ → List ℕ
signature_of t id q seed message =
    let c = randomizer id q seed in
    let digest = message_digest id q c message in
    to_be_bytes w32 (number_of t) ++ c ++ joined (signed_value t id q seed digest) (chain_count_of t)

-- the signature has the type's length and begins with its number (4.6, algorithm 4b, steps 1 and 2)
abbrev pub HasForm : OtsType → List ℕ → Type 0
HasForm t signature =
    (length signature ≡ signature_len_of t) × (number_at signature 0 ≡ number_of t)

-- the same as a test
abbrev pub has_form : OtsType → List ℕ → Bool
has_form t signature =
    (length signature == signature_len_of t) && (number_at signature 0 == number_of t)

-- y[i] of a signature
abbrev pub value_at : List ℕ → ℕ → List ℕ
value_at signature i = take 32 (drop (36 + 32 * i) signature)

-- z[i]: chain i walked from y[i], at the place that the digest tells, to its end (4.6, algorithm 4b,
-- step 3)
abbrev pub chain_end : OtsType → List ℕ → ℕ → List ℕ → List ℕ → ℕ → List ℕ
chain_end t id q digest signature i =
    let a = place_of t digest i in
    chain (prefix_of id q i) a (last_place_of t - a) (value_at signature i)

-- Kc, the public value that a message and a signature of this form lead to (4.6, algorithm 4b)
unfoldable pub candidate_of : OtsType → List ℕ → ℕ → List ℕ → List ℕ → List ℕ
candidate_of t id q message signature =
    let digest = message_digest id q (take 32 (drop 4 signature)) message in
    public_from id q (joined (chain_end t id q digest signature) (chain_count_of t))

-- the signature is valid for the message under the public value k (4.6, algorithm 4a)
abbrev pub Verifies : OtsType → List ℕ → ℕ → List ℕ → List ℕ → List ℕ → Type 0
Verifies t id q message signature k =
    HasForm t signature × (candidate_of t id q message signature ≡ k)
