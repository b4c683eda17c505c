-- Held statements of so many different replicas, in each of which the same is read, back it.
use Rattle.std.proofs.Common.{◌≡◌, ◌≢◌, ℕ, ◌<◌, List, [], ◌∷◌, length, map, get_or, ap, ◌∙◌, subst, arith}
use Rattle.std.specs.Prelude.{All}
use Rattle.std.specs.List.{AllPairs}
use Rattle.std.proofs.lemmas.List.{get_or-map, length-map}
use Rattle.zy_base.specs.declared.ids.Digest.{Digest}
use Rattle.zy_base.specs.declared.ids.Party.{Party}
use Rattle.zy_base.specs.declared.ids.Party.TheVariants.{Replica, Client}
use Rattle.zy_base.specs.declared.ids.Place.{Place}
use Rattle.zy_base.specs.declared.ids.View.{View}
use Rattle.zy_cert.specs.Certificates.{IsCertificate}
use Rattle.zy_cert.specs.Signers.{AreDifferent}
use Rattle.zy_evidence.specs.Reading.{number_of_party}
use Rattle.zy_law.specs.Said.{IsVouched, IsBacked}
use Rattle.zy_law.specs.World.{Statement, World}
use Rattle.zy_parts.specs.declared.signed.Signed.{Signed}
use Rattle.zy_law_views.specs.Held.{IsVouchedBy, IsHeldPart, IsCertOf}

abbrev replica_of : ℕ → Party
replica_of number = Replica (record { 0 = number })

module _ (w : World) where
  -- different parties that speak for the law have different numbers
  pub number_differs : (s t : Statement) (a b : Party) → IsVouchedBy w s a → IsVouchedBy w t b → a ≢ b → number_of_party a ≢ number_of_party b
  number_differs s t (Replica a) (Replica b) one other differ same = differ (ap replica_of same)
  number_differs s t (Replica a) (Client b) one other differ same = absurd other
  number_differs s t (Client a) (Replica b) one other differ same = absurd one
  number_differs s t (Client a) (Client b) one other differ same = absurd one

  pub vouched_number : (s : Statement) (by : Party) → IsVouchedBy w s by → IsVouched w s (number_of_party by)
  vouched_number s (Replica id) vouched = vouched
  vouched_number s (Client id) vouched = absurd vouched

  module _ {S : Type 0} (say : S → Statement) where
    pub numbers_differ : (list : List (Signed S)) → All (IsHeldPart w say) list → AreDifferent list
        → AllPairs (λ (a b : ℕ). a ≢ b) (map (λ (x : Signed S). number_of_party x.by) list)
    numbers_differ [] held different i j d before within = absurd (omega arith)
    numbers_differ (first ∷ others) held different i j d before within =
        let list = first ∷ others in
        let at : (k : ℕ) → k < length list → get_or (map (λ (x : Signed S). number_of_party x.by) list) k d ≡ number_of_party (get_or list k first).by =
        λ k small. get_or-map (λ (x : Signed S). number_of_party x.by) list k first d small in
        let inside : j < length list = omega (arith, length-map list (λ (x : Signed S). number_of_party x.by)) in
        let low : i < length list = omega arith in
        rw (at i low, at j inside)
        (number_differs (say (get_or list i first).stmt) (say (get_or list j first).stmt) (get_or list i first).by (get_or list j first).by
        (held i first low) (held j first inside) (different i j first before inside))

    numbers_vouched : (s : Statement) (list : List (Signed S)) → All (IsHeldPart w say) list → All (λ x. say x.stmt ≡ s) list
        → All (IsVouched w s) (map (λ (x : Signed S). number_of_party x.by) list)
    numbers_vouched s [] held equal k d within = absurd (omega arith)
    numbers_vouched s (first ∷ others) held equal k d within =
        let list = first ∷ others in
        let small : k < length list = omega (arith, length-map list (λ (x : Signed S). number_of_party x.by)) in
        let own : IsVouchedBy w s (get_or list k first).by = subst (λ (t : Statement). IsVouchedBy w t (get_or list k first).by) (equal k first small) (held k first small) in
        rw (get_or-map (λ (x : Signed S). number_of_party x.by) list k first d small) (vouched_number s (get_or list k first).by own)

    pub cert_backed : (count : ℕ) (s : Statement) (list : List (Signed S)) → IsCertOf w say count s list → IsBacked w count s
    cert_backed count s list is =
        record {
          who = map (λ (x : Signed S). number_of_party x.by) list;
          many = length-map list (λ (x : Signed S). number_of_party x.by) ∙ is.many;
          different = numbers_differ list is.held is.different;
          vouched = numbers_vouched s list is.held is.equal;
        }

    -- a certificate by its signers and statements, whose statements are held
    pub certificate_held : (at : S → View × Place × Digest) (count : ℕ) (list : List (Signed S)) (point : View × Place × Digest) (is : IsCertificate at count list point)
        → All (IsHeldPart w say) list → IsCertOf w say count (say is.stmt) list
    certificate_held at count list point is held =
        record { many = is.len; different = is.different; equal = λ k d within. ap say (is.equal k d within); held = held }
