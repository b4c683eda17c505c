-- A snapshot comes that isn't the one that is waited for.
use Rattle.std.specs.Prelude.{◌≡◌, ◌≢◌, ℕ, List, Some}
use Rattle.zy_base.specs.declared.cause.Cause.{Cause}
use Rattle.zy_base.specs.declared.cause.Cause.TheVariants as causes
use Rattle.zy_base.specs.declared.ids.Place.{Place}
use Rattle.zy_change.specs.Owing.{provider_in}
use Rattle.zy_change.specs.declared.kept.Waiting.{Waiting}
use Rattle.zy_parts.specs.declared.reports.Change.{Change}
use Rattle.zy_parts.specs.declared.signed.Signed.{Signed}
use Rattle.zy_table.specs.State.{State}
use Rattle.zy_law_views.specs.Texts.{digest_of}

-- A certificate waits for the snapshot at the stable place of its choice's report, and the bytes that come for that place have
-- another digest than the report's. Both digests are told.
pub record IsUnwanted {S : Type 0} (s : State S) (place : Place) (bytes : List ℕ) (cause : Cause) : Type 0 where
  pub waiting : Waiting
  pub waits : s.views.waiting ≡ Some waiting
  pub report : Signed Change
  pub provides : provider_in (record { new = waiting.cert.new; chosen = waiting.chosen }) ≡ Some report
  pub placed : place.0 ≡ report.stmt.told.stable_place.0
  pub other : report.stmt.told.state ≢ digest_of bytes
  pub told : cause ≡ causes.WrongState report.stmt.told.state (digest_of bytes)
