-- The fields of the statements of a view change, and of the report in one of them.
use Rattle.std.specs.Prelude.{List, Option}
use Rattle.zy_chain.specs.Entries.{IsEntryInRange}
use Rattle.zy_chain.specs.Fields.{entry_fields}
use Rattle.zy_wire.specs.Spelling.{Spelling, pair, converted}
use Rattle.zy_wire.specs.Fields.{u62, digest, list, optional, FitsList, FitsOptional}
use Rattle.zy_parts.specs.declared.reports.Began.{Began}
use Rattle.zy_parts.specs.declared.reports.Fetch.{Fetch}
use Rattle.zy_parts.specs.declared.reports.Told.{Told}
use Rattle.zy_parts.specs.declared.reports.Change.{Change}
use Rattle.zy_parts.specs.declared.reports.New.{New}
use Rattle.zy_parts.specs.declared.signed.Signed.{Signed}
use Rattle.zy_parts.specs.declared.statements.Spec.{Spec}
use Rattle.zy_parts.specs.Statements.{IsU62, spec_fields, IsSpecInRange, check_fields, IsCheckInRange}
use Rattle.zy_parts.specs.Signing.{signed, IsSignedInRange}

unfoldable pub began_fields : Spelling Began
began_fields = converted (λ x. record { view = record { 0 = x.0 }; place = record { 0 = x.1.0 }; head = x.1.1 }) (λ s. (s.view.0, (s.place.0, s.head))) (pair (u62 1) (pair (u62 0) digest))

abbrev pub IsBeganInRange : Began → Type 0
IsBeganInRange s = IsU62 1 s.view.0 × IsU62 0 s.place.0

unfoldable pub fetch_fields : Spelling Fetch
fetch_fields = converted (λ x. record { place = record { 0 = x.0 }; state = x.1 }) (λ s. (s.place.0, s.state)) (pair (u62 1) digest)

abbrev pub IsFetchInRange : Fetch → Type 0
IsFetchInRange s = IsU62 1 s.place.0

-- the longest commit certificate of a view, where one is held
abbrev pub certificate : Spelling (Option (List (Signed Spec)))
certificate = optional (list 1 16 (signed spec_fields))

-- a report
unfoldable pub told_fields : Spelling Told
told_fields =
    converted
    (λ x. record {
      last_view = record { 0 = x.0 };
      began_place = record { 0 = x.1.0 };
      began_head = x.1.1.0;
      began = x.1.1.1.0;
      specs = x.1.1.1.1.0;
      stable_view = record { 0 = x.1.1.1.1.1.0 };
      stable_place = record { 0 = x.1.1.1.1.1.1.0 };
      stable_head = x.1.1.1.1.1.1.1.0;
      state = x.1.1.1.1.1.1.1.1.0;
      checks = x.1.1.1.1.1.1.1.1.1.0;
      entries = x.1.1.1.1.1.1.1.1.1.1;
    })
    (λ t. (t.last_view.0, (t.began_place.0, (t.began_head, (t.began, (t.specs, (t.stable_view.0, (t.stable_place.0, (t.stable_head, (t.state, (t.checks, t.entries)))))))))))
    (pair (u62 0) (pair (u62 0) (pair digest (pair (list 0 16 (signed began_fields)) (pair certificate (pair (u62 0) (pair (u62 0) (pair digest (pair digest (pair (list 0 16 (signed check_fields)) (list 0 64 entry_fields)))))))))))

pub record IsToldInRange (t : Told) : Type 0 where
  pub last_view : IsU62 0 t.last_view.0
  pub began_place : IsU62 0 t.began_place.0
  pub began : FitsList (IsSignedInRange IsBeganInRange) 0 16 t.began
  pub specs : FitsOptional (FitsList (IsSignedInRange IsSpecInRange) 1 16) t.specs
  pub stable_view : IsU62 0 t.stable_view.0
  pub stable_place : IsU62 0 t.stable_place.0
  pub checks : FitsList (IsSignedInRange IsCheckInRange) 0 16 t.checks
  pub entries : FitsList IsEntryInRange 0 64 t.entries

unfoldable pub change_fields : Spelling Change
change_fields = converted (λ x. record { view = record { 0 = x.0 }; told = x.1 }) (λ s. (s.view.0, s.told)) (pair (u62 1) told_fields)

abbrev pub IsChangeInRange : Change → Type 0
IsChangeInRange s = IsU62 1 s.view.0 × IsToldInRange s.told

unfoldable pub new_fields : Spelling New
new_fields = converted (λ x. record { view = record { 0 = x.0 }; changes = x.1 }) (λ s. (s.view.0, s.changes)) (pair (u62 1) (list 1 16 (signed change_fields)))

abbrev pub IsNewInRange : New → Type 0
IsNewInRange s = IsU62 1 s.view.0 × FitsList (IsSignedInRange IsChangeInRange) 1 16 s.changes
