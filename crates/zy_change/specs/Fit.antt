-- What holds of all that a replica keeps for changes of view, and what its report keeps.
use Rattle.std.specs.Prelude.{◌≡◌, ℕ, ◌+◌, ◌^◌, ◌<◌, ◌≤◌, true, List, length, map, All, slice_index_or, Some, None, IfSome}
use Rattle.zy_base.specs.declared.counts.Counts.{Counts}
use Rattle.zy_base.specs.declared.ids.Digest.{Digest}
use Rattle.zy_base.specs.declared.ids.Party.TheVariants.{Replica}
use Rattle.zy_base.specs.declared.ids.Place.{Place}
use Rattle.zy_base.specs.declared.ids.ReplicaId.{ReplicaId}
use Rattle.zy_base.specs.declared.ids.View.{View}
use Rattle.zy_chain.specs.Stretch.{Stretch}
use Rattle.zy_wire.specs.Fields.{FitsList, FitsOptional}
use Rattle.zy_parts.specs.declared.statements.Check.{Check}
use Rattle.zy_parts.specs.Statements.{IsSpecInRange, IsCheckInRange}
use Rattle.zy_parts.specs.declared.reports.Began.{Began}
use Rattle.zy_parts.specs.declared.reports.Change.{Change}
use Rattle.zy_parts.specs.declared.reports.Told.{Told}
use Rattle.zy_parts.specs.declared.signed.Signed.{Signed}
use Rattle.zy_parts.specs.Reports.{IsBeganInRange, IsChangeInRange, IsNewInRange, IsToldInRange}
use Rattle.zy_parts.specs.Signing.{IsSignedInRange}
use Rattle.zy_vframes.specs.ViewFrames.{IsFrameInRange}
use Rattle.zy_vframes.specs.declared.frame.ViewCert.{ViewCert}
use Rattle.zy_vframes.specs.declared.frame.ViewFrame.TheVariants as frames
use Rattle.zy_cert.specs.Certificates.{certified}
use Rattle.zy_cert.specs.Equal.{same_began}
use Rattle.zy_cert.specs.Points.{point_of_began}
use Rattle.zy_choose.specs.declared.choice.Choice.TheVariants as choices
use Rattle.zy_evidence.specs.Reading.{IsReplica, read}
use Rattle.zy_evidence.specs.Rules.{rule_of, is_began_proven, is_certified_at, is_spec_proven}
use Rattle.zy_change.specs.declared.kept.Accepted.{Accepted}
use Rattle.zy_change.specs.declared.kept.Chosen.{Chosen}
use Rattle.zy_change.specs.declared.kept.Waiting.{Waiting}
use Rattle.zy_change.specs.Choosing.{choice_of}
use Rattle.zy_change.specs.Views.{Views, own_view, begans_in, began_for, specs_in, told_of}

-- a report that breaks no rule, of the replica with this number
pub record IsKeptChange (counts : Counts) (interval id : ℕ) (c : Signed Change) : Type 0 where
  pub by : c.by ≡ Replica (record { 0 = id })
  pub in_range : IsSignedInRange IsChangeInRange c
  pub keeps_rules : rule_of counts interval c.stmt ≡ None

-- a report of the last view that breaks no rule in a change for any later view
pub record IsTrueReport (v : Views) (told : Told) : Type 0 where
  pub last : told.last_view ≡ v.last_view
  pub in_range : IsToldInRange told
  pub keeps_rules : rule_of v.counts v.interval (record { view = record { 0 = told.last_view.0 + 1 }; told = told }) ≡ None

abbrev pub AreKeptChanges : Views → Type 0
AreKeptChanges v = (id : ℕ) (c : Signed Change) → slice_index_or v.changes id None ≡ Some c → IsKeptChange v.counts v.interval id c

-- ---- a new view

-- a report that is given for a view, and breaks no rule
pub record IsGiven (counts : Counts) (interval : ℕ) (view : View) (c : Signed Change) : Type 0 where
  pub by : IsReplica c.by
  pub view_is : c.stmt.view ≡ view
  pub keeps_rules : rule_of counts interval c.stmt ≡ None

-- a new view, and what is chosen out of its reports
pub record IsAccepted (counts : Counts) (interval : ℕ) (a : Accepted) : Type 0 where
  pub in_range : IsSignedInRange IsNewInRange a.new
  pub reports : All (IsGiven counts interval a.new.stmt.view) a.new.stmt.changes
  pub chosen : choice_of counts.agree (map read a.new.stmt.changes) ≡ choices.Chosen a.chosen.provider a.chosen.place a.chosen.head

-- this replica's confirmation of it
pub record IsOwnBegan (me : ReplicaId) (a : Accepted) (own : Signed Began) : Type 0 where
  pub by : own.by ≡ Replica me
  pub stmt : own.stmt ≡ began_for a.new.stmt.view a.chosen
  pub in_range : IsSignedInRange IsBeganInRange own

-- a confirmation, of the replica with this number
pub record IsKeptBegan (id : ℕ) (b : Signed Began) : Type 0 where
  pub by : b.by ≡ Replica (record { 0 = id })
  pub in_range : IsSignedInRange IsBeganInRange b

-- a new view with so many confirmations of what is chosen
pub record IsCertified (counts : Counts) (interval : ℕ) (cert : ViewCert) (chosen : Chosen) : Type 0 where
  pub accepted : IsAccepted counts interval (record { new = cert.new; chosen = chosen })
  pub place : chosen.place.0 < 2 ^ 62
  pub begans : FitsList (IsSignedInRange IsBeganInRange) 1 16 cert.begans
  pub proven : is_certified_at (cert.new.stmt.view, chosen.place, chosen.head) (certified same_began point_of_began counts.cert cert.begans) ≡ true

-- ---- all that is kept

abbrev pub AreKeptBegans : Views → Type 0
AreKeptBegans v = (id : ℕ) (b : Signed Began) → slice_index_or v.begans id None ≡ Some b → IsKeptBegan id b

-- with what the last view began, and its commit certificate: what a report tells of the last view
pub record IsLastView (v : Views) : Type 0 where
  pub began_place : v.began_place.0 < 2 ^ 62
  pub began : FitsList (IsSignedInRange IsBeganInRange) 0 16 (begans_in v.view_cert)
  pub specs : FitsOptional (FitsList (IsSignedInRange IsSpecInRange) 1 16) (specs_in v.specs)
  pub began_proven : (stable : View × Place × Digest × Digest) (proof : List (Signed Check)) (stretch : Stretch)
      → is_began_proven v.counts (told_of v stable proof stretch) ≡ true
  pub specs_proven : is_spec_proven v.counts v.last_view (specs_in v.specs) ≡ true

pub record IsFit (v : Views) : Type 0 where
  pub at_least : 4 ≤ v.interval
  pub at_most : v.interval ≤ 32
  pub me : v.me.0 < v.counts.n
  -- views are those of a frame, and the own one isn't below the last active one
  pub last : v.last_view.0 ≤ own_view v
  pub own : own_view v < 2 ^ 62
  -- a slot for each replica
  pub changes : length v.changes ≡ v.counts.n
  pub hated : length v.hated ≡ v.counts.n
  pub begans : length v.begans ≡ v.counts.n
  pub kept : AreKeptChanges v
  pub confirmed : AreKeptBegans v
  pub accepted : IfSome v.accepted (IsAccepted v.counts v.interval)
  pub waiting : IfSome v.waiting (λ (w : Waiting). IsCertified v.counts v.interval w.cert w.chosen)
  -- the kept view certificate can be sent
  pub view_cert : IfSome v.view_cert (λ cert. IsFrameInRange (frames.ViewCert cert))
  pub told : IsLastView v

-- the stable checkpoint that a report tells, with its proof, and so many entries above it
pub record IsStableInRange (stable : View × Place × Digest × Digest) (proof : List (Signed Check)) (stretch : Stretch) : Type 0 where
  pub view : stable.0.0 < 2 ^ 62
  pub place : stable.1.0 < 2 ^ 62
  pub few_checks : length proof ≤ 16
  pub checks : All (IsSignedInRange IsCheckInRange) proof
  pub few_entries : length stretch.entries ≤ 64
