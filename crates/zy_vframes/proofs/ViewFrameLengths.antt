-- No frame of these kinds that is within a group's limits is too long.
use Rattle.std.proofs.Common.{ℕ, ◌+◌, ◌≤◌, List, ◌++◌, length, All, Option, Some, None, get_or, arith}
use Rattle.std.specs.Int.{w32, w64}
use Rattle.std.proofs.lemmas.List.{length-append}
use Rattle.zy_wire.specs.Kind.{frame_limit}
use Rattle.zy_wire.specs.Spelling.{Spelling, pair, converted, bytes_of}
use Rattle.zy_wire.specs.Fields.{u62, digest, list, optional, FitsList}
use Rattle.zy_wire.proofs.Lengths.{IsAtMost, u62-at_most, word32-at_most, digest-at_most, pair-at_most, converted-at_most, optional-at_most, list-at_most}
use Rattle.zy_chain.specs.Fields.{entry_fields}
use Rattle.zy_parts.specs.declared.signed.Signed.{Signed}
use Rattle.zy_parts.specs.declared.statements.Spec.{Spec}
use Rattle.zy_parts.specs.declared.reports.Told.{Told}
use Rattle.zy_parts.specs.declared.reports.Change.{Change}
use Rattle.zy_parts.specs.declared.reports.New.{New}
use Rattle.zy_parts.specs.Statements.{spec_fields, check_fields}
use Rattle.zy_parts.specs.Reports.{certificate, told_fields, change_fields, new_fields, began_fields, fetch_fields}
use Rattle.zy_parts.specs.Signing.{signed}
use Rattle.zy_parts.proofs.Lengths.{signed-at_most, spec-at_most, check-at_most}
use Rattle.zy_vframes.specs.declared.frame.ViewCert.{ViewCert}
use Rattle.zy_vframes.specs.declared.frame.ViewFrame.{ViewFrame}
use Rattle.zy_vframes.specs.declared.frame.ViewFrame.TheVariants as frames
use Rattle.zy_vframes.specs.ViewFrames.{view_certificate, state, fields_of, spelling, FitsFrame, IsShort, IsShortCertificate, IsShortReport, IsShortNew, IsWithinLimits}
use Rattle.zy_vframes.specs.Sizes.{began_size, begans_size, change_size, fetch_size, new_size, report_size, state_size}
use Rattle.zy_chain.specs.Sizes.{greatest_snapshot}
use Rattle.zy_chain.proofs.Lengths.{entry-at_most}

began-at_most : IsAtMost began_fields began_size
unfolding began_fields
began-at_most = converted-at_most _ _ _ _ (pair-at_most _ _ _ _ (u62-at_most 1) (pair-at_most _ _ _ _ (u62-at_most 0) digest-at_most))

fetch-at_most : IsAtMost fetch_fields fetch_size
unfolding fetch_fields
fetch-at_most = converted-at_most _ _ _ _ (pair-at_most _ _ _ _ (u62-at_most 1) digest-at_most)

-- ---- a report whose certificates are short: the same bytes, with shorter lists

short_report : Spelling Told
short_report =
    converted
    (λ x. record {
      last_view = record { 0 = x.0 };
      began_place = record { 0 = x.1.0 };
      began_head = x.1.1.0;
      began = x.1.1.1.0;
      specs = x.1.1.1.1.0;
      stable_view = record { 0 = x.1.1.1.1.1.0 };
      stable_place = record { 0 = x.1.1.1.1.1.1.0 };
      stable_head = x.1.1.1.1.1.1.1.0;
      state = x.1.1.1.1.1.1.1.1.0;
      checks = x.1.1.1.1.1.1.1.1.1.0;
      entries = x.1.1.1.1.1.1.1.1.1.1;
    })
    (λ t. (t.last_view.0, (t.began_place.0, (t.began_head, (t.began, (t.specs, (t.stable_view.0, (t.stable_place.0, (t.stable_head, (t.state, (t.checks, t.entries)))))))))))
    (pair (u62 0) (pair (u62 0) (pair digest (pair (list 0 9 (signed began_fields)) (pair (optional (list 1 9 (signed spec_fields))) (pair (u62 0) (pair (u62 0) (pair digest (pair digest (pair (list 0 9 (signed check_fields)) (list 0 64 entry_fields)))))))))))

short_report-at_most : IsAtMost short_report report_size
unfolding short_report
short_report-at_most =
    converted-at_most _ _ _ _
    (pair-at_most _ _ _ _ (u62-at_most 0) (pair-at_most _ _ _ _ (u62-at_most 0) (pair-at_most _ _ _ _ digest-at_most
    (pair-at_most _ _ _ _ (list-at_most _ _ (signed-at_most _ _ began-at_most) 0 9)
    (pair-at_most _ _ _ _ (optional-at_most _ _ (list-at_most _ _ (signed-at_most _ _ spec-at_most) 1 9))
    (pair-at_most _ _ _ _ (u62-at_most 0) (pair-at_most _ _ _ _ (u62-at_most 0) (pair-at_most _ _ _ _ digest-at_most (pair-at_most _ _ _ _ digest-at_most
    (pair-at_most _ _ _ _ (list-at_most _ _ (signed-at_most _ _ check-at_most) 0 9) (list-at_most _ _ entry-at_most 0 64)))))))))))

list-shorter : {A : Type 0} (Fits : A → Type 0) (least : ℕ) (xs : List A) → FitsList Fits least 16 xs → IsShort xs → FitsList Fits least 9 xs
list-shorter Fits least xs fits short = record { least = fits.least; most = short; each = fits.each }

specs-shorter : (specs : Option (List (Signed Spec))) → certificate.Fits specs → IsShortCertificate specs → (optional (list 1 9 (signed spec_fields))).Fits specs
specs-shorter None fits short = tt
specs-shorter (Some specs) fits short = list-shorter _ 1 specs fits short

report-shorter : (t : Told) → told_fields.Fits t → IsShortReport t → short_report.Fits t
unfolding told_fields short_report
report-shorter t fits short = (
  fits.0,
  (
    fits.1.0,
    (
      fits.1.1.0,
      (
        list-shorter _ 0 t.began fits.1.1.1.0 short.began,
        (
          specs-shorter t.specs fits.1.1.1.1.0 short.specs,
          (
            fits.1.1.1.1.1.0,
            (
              fits.1.1.1.1.1.1.0,
              (
                fits.1.1.1.1.1.1.1.0,
                (
                  fits.1.1.1.1.1.1.1.1.0,
                  (list-shorter _ 0 t.checks fits.1.1.1.1.1.1.1.1.1.0 short.checks, fits.1.1.1.1.1.1.1.1.1.1),
                ),
              ),
            ),
          ),
        ),
      ),
    ),
  ),
)

-- ---- changes, and new views of short ones

short_change : Spelling Change
short_change = converted (λ x. record { view = record { 0 = x.0 }; told = x.1 }) (λ s. (s.view.0, s.told)) (pair (u62 1) short_report)

short_change-at_most : IsAtMost (signed short_change) change_size
unfolding short_change
short_change-at_most = signed-at_most _ _ (converted-at_most _ _ _ _ (pair-at_most _ _ _ _ (u62-at_most 1) short_report-at_most))

change-shorter : (c : Signed Change) → (signed change_fields).Fits c → IsShortReport c.stmt.told → (signed short_change).Fits c
unfolding change_fields short_change signed
change-shorter c fits short = (fits.0, ((fits.1.0.0, report-shorter c.stmt.told fits.1.0.1 short), fits.1.1))

change-len : (c : Signed Change) → (signed change_fields).Fits c → IsShortReport c.stmt.told → length ((signed change_fields).spell c) ≤ change_size
unfolding change_fields short_change signed told_fields short_report
change-len c fits short = short_change-at_most.fits c (change-shorter c fits short)

short_new : Spelling New
short_new = converted (λ x. record { view = record { 0 = x.0 }; changes = x.1 }) (λ s. (s.view.0, s.changes)) (pair (u62 1) (list 1 9 (signed short_change)))

short_new-at_most : IsAtMost (signed short_new) new_size
unfolding short_new
short_new-at_most = signed-at_most _ _ (converted-at_most _ _ _ _ (pair-at_most _ _ _ _ (u62-at_most 1) (list-at_most _ _ short_change-at_most 1 9)))

changes-shorter : (cs : List (Signed Change)) → FitsList (signed change_fields).Fits 1 16 cs → IsShort cs → All (λ c. IsShortReport c.stmt.told) cs → FitsList (signed short_change).Fits 1 9 cs
changes-shorter cs fits short reports =
    record { least = fits.least; most = short; each = λ k d small. change-shorter (get_or cs k d) (fits.each k d small) (reports k d small) }

new-shorter : (n : Signed New) → (signed new_fields).Fits n → IsShortNew n → (signed short_new).Fits n
unfolding new_fields short_new signed
new-shorter n fits short = (fits.0, ((fits.1.0.0, changes-shorter n.stmt.changes fits.1.0.1 short.changes short.reports), fits.1.1))

new-len : (n : Signed New) → (signed new_fields).Fits n → IsShortNew n → length ((signed new_fields).spell n) ≤ new_size
unfolding new_fields short_new change_fields short_change signed told_fields short_report
new-len n fits short = short_new-at_most.fits n (new-shorter n fits short)

-- ---- frames

begans-at_most : IsAtMost (list 1 16 (signed began_fields)) begans_size
begans-at_most = list-at_most _ _ (signed-at_most _ _ began-at_most) 1 16

view_certificate-len : (f : ViewCert) → view_certificate.Fits f → IsShortNew f.new → length (view_certificate.spell f) ≤ new_size + begans_size
view_certificate-len f fits short =
    omega (arith, length-append ((signed new_fields).spell f.new) ((list 1 16 (signed began_fields)).spell f.begans), new-len f.new fits.0 short, begans-at_most.fits f.begans fits.1)

state-len : (place : ℕ) (snapshot : List ℕ) → state.Fits (place, snapshot) → length snapshot ≤ greatest_snapshot → length (state.spell (place, snapshot)) ≤ state_size
state-len place snapshot fits short =
    omega (arith, length-append (bytes_of w64 place) (bytes_of w32 (length snapshot) ++ snapshot), length-append (bytes_of w32 (length snapshot)) snapshot, (u62-at_most 0).fits place fits.0, word32-at_most.fits (length snapshot) (omega (arith, fits.1)))

fields-len : (f : ViewFrame) → FitsFrame f → IsWithinLimits f → length (fields_of f) ≤ new_size + begans_size
unfolding fields_of FitsFrame
fields-len (frames.ViewChange change) fits within = omega (arith, change-len change fits within)
fields-len (frames.NewView new) fits within = omega (arith, new-len new fits within)
fields-len (frames.ViewConfirm began) fits within = omega (arith, (signed-at_most _ _ began-at_most).fits began fits)
fields-len (frames.ViewCert certificate) fits within = view_certificate-len certificate fits within
fields-len (frames.Fetch fetch) fits within = omega (arith, (signed-at_most _ _ fetch-at_most).fits fetch fits)
fields-len (frames.State place snapshot) fits within = omega (arith, state-len place.0 snapshot fits within)

pub spelling-len : (f : ViewFrame) → FitsFrame f → IsWithinLimits f → length (spelling f) ≤ frame_limit
spelling-len f fits within = omega (arith, fields-len f fits within)
