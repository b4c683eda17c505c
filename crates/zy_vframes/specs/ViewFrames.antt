-- The six frames of a view change as bytes.
use Rattle.std.specs.Prelude.{ℕ, ◌≤◌, List, length, All, Option, Some, None, Result, Err, ◌==◌, if◌then◌else◌}
use Rattle.zy_base.specs.declared.frame_fault.FrameFault.{FrameFault}
use Rattle.zy_base.specs.declared.frame_fault.FrameFault.TheVariants.{Kind}
use Rattle.zy_wire.specs.Spelling.{Spelling, pair, converted, made}
use Rattle.zy_wire.specs.Fields.{u62, bytes32, list, FitsList}
use Rattle.zy_wire.specs.Framing.{frame_bytes, framed_in}
use Rattle.zy_parts.specs.declared.signed.Signed.{Signed}
use Rattle.zy_parts.specs.declared.statements.Spec.{Spec}
use Rattle.zy_parts.specs.declared.reports.Told.{Told}
use Rattle.zy_parts.specs.declared.reports.New.{New}
use Rattle.zy_parts.specs.Statements.{IsU62}
use Rattle.zy_parts.specs.Reports.{change_fields, IsChangeInRange, new_fields, IsNewInRange, began_fields, IsBeganInRange, fetch_fields, IsFetchInRange}
use Rattle.zy_parts.specs.Signing.{signed, IsSignedInRange}
use Rattle.zy_vframes.specs.declared.frame.ViewCert.{ViewCert}
use Rattle.zy_vframes.specs.declared.frame.ViewFrame.{ViewFrame}
use Rattle.zy_chain.specs.Sizes.{greatest_snapshot}
use Rattle.zy_vframes.specs.declared.frame.ViewFrame.TheVariants as frames

-- ---- the fields of each kind in a row

abbrev pub view_certificate : Spelling ViewCert
view_certificate = converted (λ x. record { new = x.0; begans = x.1 }) (λ f. (f.new, f.begans)) (pair (signed new_fields) (list 1 16 (signed began_fields)))

-- any length that four bytes hold
abbrev pub greatest_length : ℕ
greatest_length = 4294967295

abbrev pub state : Spelling (ℕ × List ℕ)
state = pair (u62 0) (bytes32 greatest_length)

-- ---- a frame

abbrev pub kind_of_frame : ViewFrame → ℕ
kind_of_frame (frames.ViewChange change) = 11
kind_of_frame (frames.NewView new) = 12
kind_of_frame (frames.ViewConfirm began) = 13
kind_of_frame (frames.ViewCert certificate) = 14
kind_of_frame (frames.Fetch fetch) = 15
kind_of_frame (frames.State place snapshot) = 16

unfoldable pub fields_of : ViewFrame → List ℕ
fields_of (frames.ViewChange change) = (signed change_fields).spell change
fields_of (frames.NewView new) = (signed new_fields).spell new
fields_of (frames.ViewConfirm began) = (signed began_fields).spell began
fields_of (frames.ViewCert certificate) = view_certificate.spell certificate
fields_of (frames.Fetch fetch) = (signed fetch_fields).spell fetch
fields_of (frames.State place snapshot) = state.spell (place.0, snapshot)

-- the version, the kind and the fields of the kind
abbrev pub spelling : ViewFrame → List ℕ
spelling f = frame_bytes kind_of_frame fields_of f

-- what has a spelling
unfoldable pub FitsFrame : ViewFrame → Type 0
FitsFrame (frames.ViewChange change) = (signed change_fields).Fits change
FitsFrame (frames.NewView new) = (signed new_fields).Fits new
FitsFrame (frames.ViewConfirm began) = (signed began_fields).Fits began
FitsFrame (frames.ViewCert certificate) = view_certificate.Fits certificate
FitsFrame (frames.Fetch fetch) = (signed fetch_fields).Fits fetch
FitsFrame (frames.State place snapshot) = state.Fits (place.0, snapshot)

-- what a frame may hold, beside what its types say
abbrev pub IsFrameInRange : ViewFrame → Type 0
IsFrameInRange (frames.ViewChange change) = IsSignedInRange IsChangeInRange change
IsFrameInRange (frames.NewView new) = IsSignedInRange IsNewInRange new
IsFrameInRange (frames.ViewConfirm began) = IsSignedInRange IsBeganInRange began
IsFrameInRange (frames.ViewCert certificate) = IsSignedInRange IsNewInRange certificate.new × FitsList (IsSignedInRange IsBeganInRange) 1 16 certificate.begans
IsFrameInRange (frames.Fetch fetch) = IsSignedInRange IsFetchInRange fetch
IsFrameInRange (frames.State place snapshot) = IsU62 0 place.0 × (length snapshot ≤ greatest_length)

-- ---- reading

-- the fields of a kind, and the bytes after them
unfoldable pub frame_at : ℕ → List ℕ → Result (ViewFrame × List ℕ) FrameFault
frame_at kind bytes =
    if kind == 11 then made frames.ViewChange (signed change_fields) bytes
    else (if kind == 12 then made frames.NewView (signed new_fields) bytes
    else (if kind == 13 then made frames.ViewConfirm (signed began_fields) bytes
    else (if kind == 14 then made frames.ViewCert view_certificate bytes
    else (if kind == 15 then made frames.Fetch (signed fetch_fields) bytes
    else (if kind == 16 then made (λ x. frames.State (record { 0 = x.0 }) x.1) state bytes
    else Err Kind)))))

-- the frame that all of the bytes spell, or the first fault
abbrev pub frame_in : List ℕ → Result ViewFrame FrameFault
frame_in bytes = framed_in frame_at bytes

-- ---- the limits of a group

-- the most statements in a certificate, and the most reports from which a view begins
abbrev pub greatest_quorum : ℕ
greatest_quorum = 9

abbrev pub IsShort : {A : Type 0} → List A → Type 0
IsShort list = length list ≤ greatest_quorum

abbrev pub IsShortCertificate : Option (List (Signed Spec)) → Type 0
IsShortCertificate None = Unit {0}
IsShortCertificate (Some specs) = IsShort specs

-- a report's certificates are of at most nine replicas
pub record IsShortReport (t : Told) : Type 0 where
  pub began : IsShort t.began
  pub specs : IsShortCertificate t.specs
  pub checks : IsShort t.checks

-- a new view's reports are of at most nine replicas
pub record IsShortNew (n : Signed New) : Type 0 where
  pub changes : IsShort n.stmt.changes
  pub reports : All (λ c. IsShortReport c.stmt.told) n.stmt.changes

abbrev pub IsWithinLimits : ViewFrame → Type 0
IsWithinLimits (frames.ViewChange change) = IsShortReport change.stmt.told
IsWithinLimits (frames.NewView new) = IsShortNew new
IsWithinLimits (frames.ViewConfirm began) = Unit {0}
IsWithinLimits (frames.ViewCert certificate) = IsShortNew certificate.new
IsWithinLimits (frames.Fetch fetch) = Unit {0}
IsWithinLimits (frames.State place snapshot) = length snapshot ≤ greatest_snapshot
