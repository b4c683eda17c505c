-- What correct parties of a setup sign can be spelled and is accepted.
use Rattle.std.proofs.Common.{◌≡◌, ℕ, zero, suc, ◌+◌, ◌<◌, ◌≤◌, Bool, false, List, [], ◌∷◌, ◌++◌, length, map, Some, None, refl, ap, ◌∙◌, arith}
use Rattle.sha2.proofs.Facts256.{length-sha256}
use Rattle.std.proofs.lemmas.Bool.{or_from}
use Rattle.std.proofs.lemmas.List.{length-take-le}
use Rattle.std.specs.List.{AllByRecursion, list_any, range_with_len}
use Rattle.std.specs.Prelude.{slice_get, if◌then◌else◌}
use Rattle.zy_base.specs.declared.cause.Cause.TheVariants as causes
use Rattle.zy_base.specs.declared.ids.Digest.{Digest}
use Rattle.zy_base.specs.declared.ids.Party.{Party}
use Rattle.zy_base.specs.declared.ids.Party.TheVariants.{Client, Replica}
use Rattle.sha2.specs.Sha256.{sha256}
use Rattle.zy_chain.specs.Entries.{digest_of_entry, digest_of_request}
use Rattle.zy_chain.specs.Heads.{head_after}
use Rattle.zy_chain.specs.declared.entry.Entry.{Entry}
use Rattle.zy_lms.specs.Hss.{IsHssKey, hss_public_of}
use Rattle.zy_lms.specs.Lms.{public_of}
use Rattle.zy_parts.specs.Signing.{part_of, signed}
use Rattle.zy_parts.specs.declared.signed.Part.{Part}
use Rattle.zy_seal.proofs.SealedLemmas.{IsSealed-sealed_by, sealed_by-accepted}
use Rattle.zy_seal.specs.Keys.{Keys, key_of}
use Rattle.zy_seal.specs.Screening.{answer_to, is_bad, is_unknown, screen}
use Rattle.zy_seal.specs.Sealing.{sealed_by, signatures_by}
use Rattle.zy_seal.specs.declared.directory.SealAnswer.{SealAnswer}
use Rattle.zy_seal.specs.declared.directory.SealAnswer.TheVariants.{Yes}
use Rattle.zy_wire.specs.Fields.{IsParty, party_bytes}
use Rattle.zy_wire.specs.Spelling.{Spelling}
use Rattle.zy_world_law.specs.Setup.{Setup, key_of_party, keys_of, public_key_of, sealer_of}

-- ---- parts that are accepted

abbrev pub AreAccepted : Keys → List Part → Type 0
AreAccepted keys parts = AllByRecursion (λ (part : Part). answer_to keys part ≡ Yes) parts

none_such : (keys : Keys) (test : SealAnswer → Bool) → test Yes ≡ false → (parts : List Part) → AreAccepted keys parts → list_any (λ part. test (answer_to keys part)) parts ≡ false
none_such keys test not_yes [] all = refl
none_such keys test not_yes (part ∷ parts) all =
    or_from (test (answer_to keys part)) (list_any (λ part. test (answer_to keys part)) parts) (ap test all.0 ∙ not_yes) (none_such keys test not_yes parts all.1)

pub accepted : (keys : Keys) (parts : List Part) → AreAccepted keys parts → screen keys parts ≡ None
accepted keys parts all =
    ap (λ (b : Bool). if b then Some causes.UnknownParty else (if list_any (λ part. is_bad (answer_to keys part)) parts then Some causes.BadSignature else None)) (none_such keys is_unknown refl parts all)
    ∙ ap (λ (b : Bool). if b then Some causes.BadSignature else None) (none_such keys is_bad refl parts all)

-- ---- heads and digests

pub next_long : (head digest : Digest) → length (head_after head digest).0 ≡ 32
unfolding head_after
next_long head digest = length-sha256 _

pub digest_long : (e : Entry) → length (digest_of_entry e).0 ≡ 32
unfolding digest_of_request
digest_long e = length-sha256 _

-- ---- what a party signs

pub get_map : {A : Type 0} (f : ℕ → A) (from n i : ℕ) → i < n → slice_get (map f (range_with_len from n)) i ≡ Some (f (from + i))
get_map f from zero i inside = absurd (omega arith)
get_map f from (suc n) zero inside = ap (λ (k : ℕ). Some (f k)) (let e : from ≡ from + 0 = omega arith in e)
get_map f from (suc n) (suc i) inside = get_map f (from + 1) n i (omega arith) ∙ ap (λ (k : ℕ). Some (f k)) (let e : from + 1 + i ≡ from + suc i = omega arith in e)

module _ (s : Setup) where
  -- it is a party of the setup
  abbrev pub IsMember : Party → Type 0
  IsMember (Replica id) = id.0 < s.counts.n
  IsMember (Client id) = id.0 < s.clients

  pub known_key : (party : Party) → IsMember party → key_of (keys_of s) party ≡ Some (public_key_of s party)
  unfolding keys_of
  known_key (Replica id) inside = get_map (λ n. public_key_of s (Replica (record { 0 = n }))) 0 s.counts.n id.0 inside ∙ ap (λ (n : ℕ). Some (public_key_of s (Replica (record { 0 = n })))) (let e : 0 + id.0 ≡ id.0 = omega arith in e)
  known_key (Client id) inside = get_map (λ n. public_key_of s (Client (record { 0 = n }))) 0 s.clients id.0 inside ∙ ap (λ (n : ℕ). Some (public_key_of s (Client (record { 0 = n })))) (let e : 0 + id.0 ≡ id.0 = omega arith in e)

  module _ (party : Party) (used : ℕ) (left : used < signatures_by s.height) where
    same_key : public_key_of s party ≡ hss_public_of (key_of_party s party used)
    unfolding hss_public_of public_of
    same_key = refl

    is_key : IsHssKey (key_of_party s party used)
    is_key =
        record {
          id_len = length-take-le 16 (sha256 (2 ∷ s.seed ++ party_bytes party)) (omega (arith, length-sha256 (2 ∷ s.seed ++ party_bytes party)));
          within = (let e : used ≤ signatures_by s.height = omega (arith, left) in e);
        }

    module _ {A : Type 0} (number : ℕ) (fields : Spelling A) (stmt : A) (member : IsMember party) where
      pub is_accepted : answer_to (keys_of s) (part_of number fields (sealed_by number fields (sealer_of s party used) stmt)) ≡ Yes
      is_accepted = sealed_by-accepted number fields (keys_of s) (sealer_of s party used) stmt is_key left (known_key party member ∙ ap Some same_key)

      pub is_spelled : IsParty party → fields.Fits stmt → (signed fields).Fits (sealed_by number fields (sealer_of s party used) stmt)
      unfolding signed
      is_spelled by fits = (by, (fits, (IsSealed-sealed_by number fields (sealer_of s party used) stmt is_key left).short))
