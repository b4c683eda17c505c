-- What makes a report well formed.
use Rattle.std.specs.Prelude.{◌≡◌, ◌≢◌, ℕ, ◌<◌, List, [], All, Some}
use Rattle.zy_base.specs.declared.counts.Counts.{Counts}
use Rattle.zy_base.specs.declared.ids.Digest.{Digest}
use Rattle.zy_base.specs.declared.ids.Place.{Place}
use Rattle.zy_base.specs.declared.ids.View.{View}
use Rattle.zy_chain.specs.Heads.{empty_head}
use Rattle.zy_parts.specs.declared.signed.Signed.{Signed}
use Rattle.zy_parts.specs.declared.statements.Spec.{Spec}
use Rattle.zy_parts.specs.declared.reports.Told.{Told}
use Rattle.zy_parts.specs.declared.reports.Change.{Change}
use Rattle.zy_cert.specs.Certificates.{IsCertificate}
use Rattle.zy_cert.specs.Points.{point_of_began, point_of_check, point_of_spec}
use Rattle.zy_choose.specs.Rules.{IsWellFormed}
use Rattle.zy_evidence.specs.Reading.{read}

-- the first view began with the empty history
pub record IsFirstBegin (t : Told) : Type 0 where
  pub place : t.began_place.0 ≡ 0
  pub head : t.began_head ≡ empty_head
  pub unconfirmed : t.began ≡ []

-- a later one with what so many replicas confirmed
pub record IsBeganProven (counts : Counts) (t : Told) : Type 0 where
  pub first : t.last_view.0 ≡ 0 → IsFirstBegin t
  pub later : t.last_view.0 ≢ 0 → IsCertificate point_of_began counts.cert t.began (t.last_view, t.began_place, t.began_head)

-- responses of so many replicas, in the last view
pub record IsSpecProven (counts : Counts) (view : View) (specs : List (Signed Spec)) : Type 0 where
  pub place : Place
  pub head : Digest
  pub certificate : IsCertificate point_of_spec counts.cert specs (view, place, head)

pub record IsFirstStable (t : Told) : Type 0 where
  pub view : t.stable_view.0 ≡ 0
  pub head : t.stable_head ≡ empty_head
  pub unproven : t.checks ≡ []

-- a checkpoint of so many replicas, with the digest of one snapshot
pub record IsCheckpoint (counts : Counts) (t : Told) : Type 0 where
  pub certificate : IsCertificate point_of_check counts.local t.checks (t.stable_view, t.stable_place, t.stable_head)
  pub state : All (λ c. c.stmt.state ≡ t.state) t.checks

pub record IsStableProven (counts : Counts) (t : Told) : Type 0 where
  pub first : t.stable_place.0 ≡ 0 → IsFirstStable t
  pub later : t.stable_place.0 ≢ 0 → IsCheckpoint counts t

pub record IsWellFormedChange (counts : Counts) (interval : ℕ) (c : Signed Change) : Type 0 where
  pub last : c.stmt.told.last_view.0 < c.stmt.view.0
  pub began : IsBeganProven counts c.stmt.told
  pub spec : (specs : List (Signed Spec)) → c.stmt.told.specs ≡ Some specs → IsSpecProven counts c.stmt.told.last_view specs
  pub stable : IsStableProven counts c.stmt.told
  pub itself : IsWellFormed interval (read c)
