-- What is decoded of a frame of a change of view can be spelled again, whatever the bytes are, where what is signed in it is by replicas
-- and its reports tell entries of clients that there may be.
use Rattle.std.proofs.Common.{◌≡◌, ℕ, zero, suc, Bool, true, List, [], ◌∷◌, length, map, get_or, Option, Some, None, Ok, arith}
use Rattle.std.specs.Prelude.{All, option_map}
use Rattle.std.specs.List.{list_all}
use Rattle.std.specs.Int.{w32}
use Rattle.std.proofs.lemmas.Bool.{and_parts}
use Rattle.std.proofs.lemmas.List.{length-map}
use Rattle.std.proofs.lemmas.List.Elements.{All-map}
use Rattle.zy_base.specs.declared.counts.Counts.{Counts}
use Rattle.zy_chain.specs.Fields.{entry_fields}
use Rattle.zy_chain.specs.declared.entry.Entry.{Entry}
use Rattle.zy_law_views.proofs.IdleFrames.{TellsOfClients}
use Rattle.zy_law_views.specs.Frames.{AreOfClients, IsSpelled}
use Rattle.zy_parts.specs.Reports.{began_fields, certificate, change_fields, fetch_fields, new_fields, told_fields}
use Rattle.zy_parts.specs.Signing.{signed}
use Rattle.zy_parts.specs.Statements.{IsU62, check_fields, spec_fields}
use Rattle.zy_parts.specs.declared.reports.Change.{Change}
use Rattle.zy_parts.specs.declared.reports.New.{New}
use Rattle.zy_parts.specs.declared.reports.Told.{Told}
use Rattle.zy_parts.specs.declared.signed.Signed.{Signed}
use Rattle.zy_parts.specs.declared.statements.Spec.{Spec}
use Rattle.zy_law_steps.proofs.Decoded.{Gives, IsSignedRead, all_give, began_gives, check_gives, counted_gives, digest_gives, made_gives, optional_gives, pair_gives, read_gives, sized_gives, spec_gives, u62_gives}
use Rattle.zy_law_steps.proofs.DecodedFrames.{fault_gives, framed_gives, or_gives}
use Rattle.zy_table.specs.Roles.{is_primary_of, is_replica}
use Rattle.zy_table.specs.Whole.{are_specs_in_role, is_by_replica, is_change_in_role, is_new_in_role, is_told_in_role, is_view_frame_in_role}
use Rattle.zy_vframes.specs.ViewFrames.{frame_at, frame_in, state, view_certificate}
use Rattle.zy_vframes.specs.declared.frame.ViewFrame.{ViewFrame}
use Rattle.zy_vframes.specs.declared.frame.ViewFrame.TheVariants as frames
use Rattle.zy_law_views.specs.Told.{change_spelled, new_spelled, spec_spelled, told_spelled, with_stmt}
use Rattle.zy_wire.specs.Fields.{FitsList, FitsOptional, bytes16, digest, list, u62}
use Rattle.zy_wire.specs.Spelling.{Spelling, pair, word, word_at}
use Rattle.zy_world_law.proofs.DecodedInRange.{FitsSpelled}
use Rattle.zy_chain.specs.Entries.{IsOfClients}

-- ---- what is read

-- an entry, but for its client's number
abbrev pub IsEntryRead : Entry → Type 0
IsEntryRead e = IsOfClients e → entry_fields.Fits e

entry_gives : Gives entry_fields.at IsEntryRead
unfolding entry_fields
entry_gives =
    made_gives _ (pair (word w32) (pair (u62 0) (bytes16 1100))) _ IsEntryRead
    (pair_gives (word w32) (pair (u62 0) (bytes16 1100)) _ _ (all_give (word_at w32)) (pair_gives (u62 0) (bytes16 1100) _ _ (u62_gives 0) (sized_gives _ 1100)))
    (λ x fits small. (omega arith, fits.1))

abbrev pub IsCertificateRead : Option (List (Signed Spec)) → Type 0
IsCertificateRead specs = FitsOptional (FitsList (IsSignedRead FitsSpelled) 1 16) specs

-- the fields of a report
abbrev pub IsToldRead : Told → Type 0
IsToldRead t =
    IsU62 0 t.last_view.0 × (IsU62 0 t.began_place.0 × ((length t.began_head.0 ≡ 32) × (FitsList (IsSignedRead began_fields.Fits) 0 16 t.began × (IsCertificateRead t.specs
    × (IsU62 0 t.stable_view.0 × (IsU62 0 t.stable_place.0 × ((length t.stable_head.0 ≡ 32) × ((length t.state.0 ≡ 32) × (FitsList (IsSignedRead check_fields.Fits) 0 16 t.checks × FitsList IsEntryRead 0 64 t.entries)))))))))

told_gives : Gives told_fields.at IsToldRead
unfolding told_fields
told_gives =
    let begans = list 0 16 (signed began_fields) in
    let checks = list 0 16 (signed check_fields) in
    let entries = list 0 64 entry_fields in
    let i = pair checks entries in
    let h = pair digest i in
    let g = pair digest h in
    let f = pair (u62 0) g in
    let e = pair (u62 0) f in
    let d = pair certificate e in
    let c = pair begans d in
    let b = pair digest c in
    let a = pair (u62 0) b in
    made_gives _ (pair (u62 0) a) _ IsToldRead
    (pair_gives (u62 0) a _ _ (u62_gives 0)
    (pair_gives (u62 0) b _ _ (u62_gives 0)
    (pair_gives digest c _ _ digest_gives
    (pair_gives begans d _ _ (counted_gives (signed began_fields) (IsSignedRead began_fields.Fits) (read_gives began_fields began_fields.Fits began_gives) 0 16)
    (pair_gives certificate e _ _
    (optional_gives (list 1 16 (signed spec_fields)) (FitsList (IsSignedRead FitsSpelled) 1 16) (counted_gives (signed spec_fields) (IsSignedRead FitsSpelled) (read_gives spec_fields FitsSpelled spec_gives) 1 16))
    (pair_gives (u62 0) f _ _ (u62_gives 0)
    (pair_gives (u62 0) g _ _ (u62_gives 0)
    (pair_gives digest h _ _ digest_gives
    (pair_gives digest i _ _ digest_gives
    (pair_gives checks entries _ _ (counted_gives (signed check_fields) (IsSignedRead check_fields.Fits) (read_gives check_fields check_fields.Fits check_gives) 0 16)
    (counted_gives entry_fields IsEntryRead entry_gives 0 64)))))))))))
    (λ x fits. fits)

abbrev pub IsChangeRead : Change → Type 0
IsChangeRead c = IsU62 1 c.view.0 × IsToldRead c.told

change_gives : Gives change_fields.at IsChangeRead
unfolding change_fields
change_gives = made_gives _ (pair (u62 1) told_fields) _ IsChangeRead (pair_gives (u62 1) told_fields _ _ (u62_gives 1) told_gives) (λ x fits. fits)

abbrev pub IsNewRead : New → Type 0
IsNewRead n = IsU62 1 n.view.0 × FitsList (IsSignedRead IsChangeRead) 1 16 n.changes

new_gives : Gives new_fields.at IsNewRead
unfolding new_fields
new_gives =
    made_gives _ (pair (u62 1) (list 1 16 (signed change_fields))) _ IsNewRead
    (pair_gives (u62 1) (list 1 16 (signed change_fields)) _ _ (u62_gives 1) (counted_gives (signed change_fields) (IsSignedRead IsChangeRead) (read_gives change_fields IsChangeRead change_gives) 1 16))
    (λ x fits. fits)

-- ---- so it fits

module _ {A : Type 0} (fields : Spelling A) (f : A → A) (P : A → Type 0) (each : (x : A) → P x → fields.Fits (f x)) where
  signed_fits : (x : Signed A) → is_by_replica x ≡ true → IsSignedRead P x → (signed fields).Fits (with_stmt f x)
  unfolding signed
  signed_fits x role is = (is.0 role, (each x.stmt is.1.0, is.1.1))

all_roles : {A : Type 0} (p : A → Bool) (xs : List A) → list_all p xs ≡ true → All (λ x. p x ≡ true) xs
all_roles p [] all k d within = absurd (omega arith)
all_roles p (x ∷ xs) all zero d within = (and_parts (p x) (list_all p xs) all).0
all_roles p (x ∷ xs) all (suc k) d within = all_roles p xs (and_parts (p x) (list_all p xs) all).1 k d (omega arith)

module _ {A : Type 0} (fields : Spelling A) (P : A → Type 0) (min max : ℕ) (xs : List (Signed A)) (roles : list_all is_by_replica xs ≡ true) (is : FitsList (IsSignedRead P) min max xs) where
  pub list_fits : ((x : A) → P x → fields.Fits x) → FitsList (signed fields).Fits min max xs
  unfolding signed
  list_fits each =
      record {
        least = is.least;
        most = is.most;
        each = λ k d within.
            let x = is.each k d within in
            (x.0 (all_roles is_by_replica xs roles k d within), (each (get_or xs k d).stmt x.1.0, x.1.1));
      }

  -- with each statement as it is spelled
  pub mapped_fits : (f : A → A) → ((x : A) → P x → fields.Fits (f x)) → FitsList (signed fields).Fits min max (map (with_stmt f) xs)
  mapped_fits f each =
      record {
        least = omega (arith, is.least, length-map xs (with_stmt f));
        most = omega (arith, is.most, length-map xs (with_stmt f));
        each = All-map (signed fields).Fits (with_stmt f) xs (λ k d within. signed_fits fields f P each (get_or xs k d) (all_roles is_by_replica xs roles k d within) (is.each k d within));
      }

certificate_fits : (specs : Option (List (Signed Spec))) → are_specs_in_role specs ≡ true → IsCertificateRead specs → FitsOptional (FitsList (signed spec_fields).Fits 1 16) (option_map (map (with_stmt spec_spelled)) specs)
certificate_fits None roles is = tt
certificate_fits (Some specs) roles is = mapped_fits spec_fields FitsSpelled 1 16 specs roles is spec_spelled (λ spec fits. fits)

told_fits : (t : Told) → is_told_in_role t ≡ true → All IsOfClients t.entries → IsToldRead t → told_fields.Fits (told_spelled t)
unfolding told_fields
told_fits t roles clients (last_view, (began_place, (began_head, (began, (specs, (stable_view, (stable_place, (stable_head, (digest_is, (checks, entries)))))))))) =
    let first = and_parts (list_all is_by_replica t.began) _ roles in
    let rest = and_parts (are_specs_in_role t.specs) (list_all is_by_replica t.checks) first.1 in
    let listed : FitsList entry_fields.Fits 0 64 t.entries = record { least = entries.least; most = entries.most; each = λ k d within. entries.each k d within (clients k d within) } in (
      last_view,
      (
        began_place,
        (
          began_head,
          (
            list_fits began_fields began_fields.Fits 0 16 t.began first.0 began (λ x fits. fits),
            (certificate_fits t.specs rest.0 specs, (stable_view, (stable_place, (stable_head, (digest_is, (list_fits check_fields check_fields.Fits 0 16 t.checks rest.1 checks (λ x fits. fits), listed)))))),
          ),
        ),
      ),
    )

pub change_fits : (c : Signed Change) → is_change_in_role c ≡ true → AreOfClients c → IsChangeRead c.stmt → change_fields.Fits (change_spelled c.stmt)
unfolding change_fields
change_fits c role clients is = (is.0, told_fits c.stmt.told (and_parts (is_replica c.by) (is_told_in_role c.stmt.told) role).1 clients is.1)

pub new_fits : (n : New) → list_all is_change_in_role n.changes ≡ true → All AreOfClients n.changes → IsNewRead n → new_fields.Fits (new_spelled n)
unfolding new_fields signed
new_fits n roles clients is = (
  is.0,
  record {
    least = omega (arith, is.1.least, length-map n.changes (with_stmt change_spelled));
    most = omega (arith, is.1.most, length-map n.changes (with_stmt change_spelled));
    each = All-map (signed change_fields).Fits (with_stmt change_spelled) n.changes (λ k d within.
        let x = is.1.each k d within in
        let c : Signed Change = get_or n.changes k d in
        let role = all_roles is_change_in_role n.changes roles k d within in
        (x.0 (and_parts (is_replica c.by) (is_told_in_role c.stmt.told) role).0, (change_fits c role (clients k d within) x.1.0, x.1.1)));
  },
)

-- ---- frames

-- what is read of a frame
abbrev pub IsFrameRead : ViewFrame → Type 0
IsFrameRead (frames.ViewChange change) = IsChangeRead change.stmt
IsFrameRead (frames.NewView new) = IsNewRead new.stmt
IsFrameRead (frames.ViewConfirm began) = began_fields.Fits began.stmt
IsFrameRead (frames.ViewCert cert) = IsNewRead cert.new.stmt × All (λ began. began_fields.Fits began.stmt) cert.begans
IsFrameRead (frames.Fetch fetch) = Unit {0}
IsFrameRead (frames.State place snapshot) = Unit {0}

cert_gives : Gives view_certificate.at (λ cert. IsNewRead cert.new.stmt × All (λ began. began_fields.Fits began.stmt) cert.begans)
cert_gives =
    made_gives _ (pair (signed new_fields) (list 1 16 (signed began_fields))) (λ x. IsSignedRead IsNewRead x.0 × FitsList (IsSignedRead began_fields.Fits) 1 16 x.1) _
    (pair_gives (signed new_fields) (list 1 16 (signed began_fields)) _ _ (read_gives new_fields IsNewRead new_gives)
    (counted_gives (signed began_fields) (IsSignedRead began_fields.Fits) (read_gives began_fields began_fields.Fits began_gives) 1 16))
    (λ x fits. (fits.0.1.0, λ k d within. (fits.1.each k d within).1.0))

frame_gives : (kind : ℕ) → Gives (frame_at kind) IsFrameRead
unfolding frame_at
frame_gives kind =
    or_gives IsFrameRead _ _ _ (made_gives frames.ViewChange (signed change_fields) _ IsFrameRead (read_gives change_fields IsChangeRead change_gives) (λ c fits. fits.1.0))
    (or_gives IsFrameRead _ _ _ (made_gives frames.NewView (signed new_fields) _ IsFrameRead (read_gives new_fields IsNewRead new_gives) (λ n fits. fits.1.0))
    (or_gives IsFrameRead _ _ _ (made_gives frames.ViewConfirm (signed began_fields) _ IsFrameRead (read_gives began_fields began_fields.Fits began_gives) (λ b fits. fits.1.0))
    (or_gives IsFrameRead _ _ _ (made_gives frames.ViewCert view_certificate _ IsFrameRead cert_gives (λ c fits. fits))
    (or_gives IsFrameRead _ _ _ (made_gives frames.Fetch (signed fetch_fields) (λ x. Unit {0}) IsFrameRead (all_give (signed fetch_fields).at) (λ x any. tt))
    (or_gives IsFrameRead _ _ _ (made_gives (λ x. frames.State (record { 0 = x.0 }) x.1) state (λ x. Unit {0}) IsFrameRead (all_give state.at) (λ x any. tt)) (fault_gives IsFrameRead _))))))

pub decoded_read : (bytes : List ℕ) (frame : ViewFrame) → frame_in bytes ≡ Ok frame → IsFrameRead frame
decoded_read bytes frame is = framed_gives IsFrameRead frame_at frame_gives bytes frame is

new_roles : (counts : Counts) (n : Signed New) → is_new_in_role counts n ≡ true → list_all is_change_in_role n.stmt.changes ≡ true
new_roles counts n role = (and_parts (is_primary_of counts n.stmt.view.0 n.by) (list_all is_change_in_role n.stmt.changes) role).1

pub frame_spelled : (counts : Counts) (frame : ViewFrame) → is_view_frame_in_role counts frame ≡ true → TellsOfClients frame → IsFrameRead frame → IsSpelled frame
frame_spelled counts (frames.ViewChange change) role clients is = change_fits change role clients is
frame_spelled counts (frames.NewView new) role clients is = new_fits new.stmt (new_roles counts new role) clients is
frame_spelled counts (frames.ViewConfirm began) role clients is = is
frame_spelled counts (frames.ViewCert cert) role clients is = (new_fits cert.new.stmt (new_roles counts cert.new (and_parts (is_new_in_role counts cert.new) (list_all is_by_replica cert.begans) role).0) clients is.0, is.1)
frame_spelled counts (frames.Fetch fetch) role clients is = tt
frame_spelled counts (frames.State place snapshot) role clients is = tt
