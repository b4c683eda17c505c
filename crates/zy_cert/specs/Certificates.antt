-- Certificates: so many signed equal statements of different parties, all for one point of a history.
use Rattle.std.specs.Prelude.{◌≡◌, ℕ, Bool, nat_lt, if◌then◌else◌, List, [], ◌∷◌, length, All, Result, Ok, Err}
use Rattle.zy_base.specs.declared.cause.Cause.{Cause}
use Rattle.zy_base.specs.declared.cause.Cause.TheVariants as causes
use Rattle.zy_base.specs.declared.ids.View.{View}
use Rattle.zy_base.specs.declared.ids.Place.{Place}
use Rattle.zy_base.specs.declared.ids.Digest.{Digest}
use Rattle.zy_parts.specs.declared.signed.Signed.{Signed}
use Rattle.zy_cert.specs.Signers.{has_repeat, has_other, AreDifferent}

-- the point of equal statements
abbrev pub point_of_equal : {S : Type 0} → (S → S → Bool) → (S → View × Place × Digest) → List (Signed S) → Result (View × Place × Digest) Cause
point_of_equal same point [] = Err causes.Mixed
point_of_equal same point (first ∷ others) = if has_other same first.stmt others then Err causes.Mixed else Ok (point first.stmt)

-- the point that a list of as many statements as are wanted certifies, or why it certifies none
abbrev pub certified : {S : Type 0} → (S → S → Bool) → (S → View × Place × Digest) → ℕ → List (Signed S) → Result (View × Place × Digest) Cause
certified same point count list =
    if nat_lt (length list) count then Err (causes.TooFew (length list))
    else (if nat_lt count (length list) then Err causes.Mixed
    else (if has_repeat list then Err causes.Repeat
    else point_of_equal same point list))

-- as many statements as are wanted, no two of one party, and all equal: this point is theirs
pub record IsCertificate {S : Type 0} (at : S → View × Place × Digest) (count : ℕ) (list : List (Signed S)) (point : View × Place × Digest) : Type 0 where
  pub stmt : S
  pub located : at stmt ≡ point
  pub len : length list ≡ count
  pub different : AreDifferent list
  pub equal : All (λ s. s.stmt ≡ stmt) list
