-- The spellings of the statements of a view change are exact, and what has a spelling is in range.
use Rattle.std.proofs.Common.{◌≡◌, refl, arith}
use Rattle.zy_chain.specs.Fields.{entry-exact, entry-in_range}
use Rattle.zy_wire.specs.Spelling.{IsExact}
use Rattle.zy_wire.proofs.Parts.{pair-exact, converted-exact}
use Rattle.zy_wire.proofs.Laws.{u62-exact, digest-exact, list-exact, optional-exact, FitsList-weaker, FitsOptional-weaker}
use Rattle.zy_parts.specs.Statements.{spec_fields, IsSpecInRange, check_fields, IsCheckInRange}
use Rattle.zy_parts.specs.Reports.{began_fields, IsBeganInRange, fetch_fields, IsFetchInRange, certificate, told_fields, IsToldInRange, change_fields, IsChangeInRange, new_fields, IsNewInRange}
use Rattle.zy_parts.specs.Exact.{signed-exact, signed-in_range, spec-exact, spec-in_range, check-exact, check-in_range}
use Rattle.zy_parts.specs.declared.reports.Began.{Began}
use Rattle.zy_parts.specs.declared.reports.Fetch.{Fetch}
use Rattle.zy_parts.specs.declared.reports.Told.{Told}
use Rattle.zy_parts.specs.declared.reports.Change.{Change}
use Rattle.zy_parts.specs.declared.reports.New.{New}

pub began-exact : IsExact began_fields
unfolding began_fields
began-exact = converted-exact _ _ _ (pair-exact _ _ (u62-exact 1) (pair-exact _ _ (u62-exact 0) digest-exact)) (λ s. refl) (λ x. refl)

pub began-in_range : (s : Began) → began_fields.Fits s → IsBeganInRange s
unfolding began_fields
began-in_range s fits = (fits.0, fits.1.0)

pub fetch-exact : IsExact fetch_fields
unfolding fetch_fields
fetch-exact = converted-exact _ _ _ (pair-exact _ _ (u62-exact 1) digest-exact) (λ s. refl) (λ x. refl)

pub fetch-in_range : (s : Fetch) → fetch_fields.Fits s → IsFetchInRange s
unfolding fetch_fields
fetch-in_range s fits = fits.0

certificate-exact : IsExact certificate
certificate-exact = optional-exact _ (list-exact 1 16 _ (signed-exact _ spec-exact) (omega arith))

pub told-exact : IsExact told_fields
unfolding told_fields
told-exact =
    converted-exact _ _ _ (pair-exact _ _ (u62-exact 0) (pair-exact _ _ (u62-exact 0) (pair-exact _ _ digest-exact (pair-exact _ _ (list-exact 0 16 _ (signed-exact _ began-exact) (omega arith)) (pair-exact _ _ certificate-exact (pair-exact _ _ (u62-exact 0) (pair-exact _ _ (u62-exact 0) (pair-exact _ _ digest-exact (pair-exact _ _ digest-exact (pair-exact _ _ (list-exact 0 16 _ (signed-exact _ check-exact) (omega arith)) (list-exact 0 64 _ entry-exact (omega arith)))))))))))) (λ t. refl) (λ x. refl)

pub told-in_range : (t : Told) → told_fields.Fits t → IsToldInRange t
unfolding told_fields
told-in_range t fits = record {
  last_view = fits.0;
  began_place = fits.1.0;
  began = FitsList-weaker _ _ (signed-in_range began_fields IsBeganInRange began-in_range) 0 16 t.began fits.1.1.1.0;
  specs = FitsOptional-weaker _ _ (FitsList-weaker _ _ (signed-in_range spec_fields IsSpecInRange spec-in_range) 1 16) t.specs fits.1.1.1.1.0;
  stable_view = fits.1.1.1.1.1.0;
  stable_place = fits.1.1.1.1.1.1.0;
  checks = FitsList-weaker _ _ (signed-in_range check_fields IsCheckInRange check-in_range) 0 16 t.checks fits.1.1.1.1.1.1.1.1.1.0;
  entries = FitsList-weaker _ _ entry-in_range 0 64 t.entries fits.1.1.1.1.1.1.1.1.1.1;
}

pub change-exact : IsExact change_fields
unfolding change_fields
change-exact = converted-exact _ _ _ (pair-exact _ _ (u62-exact 1) told-exact) (λ s. refl) (λ x. refl)

pub change-in_range : (s : Change) → change_fields.Fits s → IsChangeInRange s
unfolding change_fields
change-in_range s fits = (fits.0, told-in_range s.told fits.1)

pub new-exact : IsExact new_fields
unfolding new_fields
new-exact = converted-exact _ _ _ (pair-exact _ _ (u62-exact 1) (list-exact 1 16 _ (signed-exact _ change-exact) (omega arith))) (λ s. refl) (λ x. refl)

pub new-in_range : (s : New) → new_fields.Fits s → IsNewInRange s
unfolding new_fields
new-in_range s fits = (fits.0, FitsList-weaker _ _ (signed-in_range change_fields IsChangeInRange change-in_range) 1 16 s.changes fits.1)
