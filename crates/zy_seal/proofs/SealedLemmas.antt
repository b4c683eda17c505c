-- What a party with a signature left seals.
use Rattle.std.proofs.Common.{◌≡◌, ◌<◌, ℕ, Some, refl}
use Rattle.zy_wire.specs.Spelling.{Spelling}
use Rattle.zy_lms.specs.Hss.{IsHssKey, hss_public_of, hss_signature_of}
use Rattle.zy_lms.proofs.HssLemmas.{HssVerifies-signature}
use Rattle.zy_lms.proofs.HssVerifiedLemmas.{Decides-hss_verified}
use Rattle.zy_parts.specs.Signing.{text_of}
use Rattle.zy_seal.proofs.SignatureLemmas.{number_is, signature_short}
use Rattle.zy_seal.specs.Checking.{answer_of}
use Rattle.zy_seal.specs.Keys.{Keys, key_of}
use Rattle.zy_seal.specs.Sealing.{SealerState, signatures_by, IsSealed, sealed_by}
use Rattle.zy_seal.specs.declared.directory.SealAnswer.TheVariants.{Yes}

pub IsSealed-sealed_by : {S : Type 0} (number : ℕ) (fields : Spelling S) (sealer : SealerState) (stmt : S) → IsHssKey sealer.key
    → sealer.key.next < signatures_by sealer.key.height → IsSealed number fields sealer stmt (sealed_by number fields sealer stmt)
IsSealed-sealed_by number fields sealer stmt is_key left =
    let text = text_of number fields sealer.me stmt in
    record {
      signer = refl;
      body = refl;
      told = number_is sealer.key text is_key.id_len left;
      verifies = HssVerifies-signature sealer.key text is_key.id_len left;
      short = signature_short sealer.key text;
    }

-- and whoever has the party's key accepts it
pub sealed_by-accepted : {S : Type 0} (number : ℕ) (fields : Spelling S) (keys : Keys) (sealer : SealerState) (stmt : S) → IsHssKey sealer.key
    → sealer.key.next < signatures_by sealer.key.height → key_of keys sealer.me ≡ Some (hss_public_of sealer.key)
    → answer_of keys sealer.me (text_of number fields sealer.me stmt) (sealed_by number fields sealer stmt).sig ≡ Yes
sealed_by-accepted number fields keys sealer stmt is_key left known =
    let text = text_of number fields sealer.me stmt in
    let sealed = IsSealed-sealed_by number fields sealer stmt is_key left in
    rw (known, (Decides-hss_verified (hss_public_of sealer.key) text (hss_signature_of sealer.key text)).1 sealed.verifies) refl
