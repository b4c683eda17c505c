-- Two orders of one primary that contradict each other.
use Rattle.std.specs.Prelude.{◌≡◌, ◌≢◌, Bool, not, nat_eq, ◌&&◌, if◌then◌else◌, Result, Ok, Err}
use Rattle.zy_base.specs.declared.cause.Cause.{Cause}
use Rattle.zy_base.specs.declared.cause.Cause.TheVariants.{NoConflict}
use Rattle.zy_base.specs.declared.ids.View.{View}
use Rattle.zy_parts.specs.declared.signed.Signed.{Signed}
use Rattle.zy_parts.specs.declared.statements.Order.{Order}
use Rattle.zy_cert.specs.Signers.{same_party}
use Rattle.zy_cert.specs.Equal.{same_order}

-- one signer gives one place of one view to different histories or requests
abbrev pub conflict : Signed Order → Signed Order → Bool
conflict a b = nat_eq a.stmt.view.0 b.stmt.view.0 && (nat_eq a.stmt.place.0 b.stmt.place.0 && (same_party a.by b.by && not (same_order a.stmt b.stmt)))

-- the view whose primary is proved to misbehave
abbrev pub misbehaved : Signed Order → Signed Order → Result View Cause
misbehaved a b = if conflict a b then Ok a.stmt.view else Err NoConflict

-- one signer, one view and one place, and the orders differ
pub record IsConflict (a b : Signed Order) : Type 0 where
  pub view : a.stmt.view ≡ b.stmt.view
  pub place : a.stmt.place ≡ b.stmt.place
  pub signer : a.by ≡ b.by
  pub orders : a.stmt ≢ b.stmt
