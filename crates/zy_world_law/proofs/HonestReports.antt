-- A frame of a change of view that isn't forged is honest: what is signed in it was said by its signer, or that lies, and what it brings is
-- kept.
use Rattle.std.proofs.Common.{◌≡◌, ℕ, true, List, [], ◌∷◌, ◌++◌, map, Option, Some, None, refl, sym, subst}
use Rattle.std.specs.Prelude.{All}
use Rattle.std.specs.List.{AllByRecursion, flat_map, list_all}
use Rattle.std.proofs.lemmas.Bool.{and_parts}
use Rattle.std.proofs.lemmas.List.Concat.{flat_map-cons}
use Rattle.zy_base.specs.Machine.{Rules}
use Rattle.zy_base.specs.declared.counts.Counts.{Counts}
use Rattle.zy_base.specs.declared.ids.Digest.{Digest}
use Rattle.zy_base.specs.declared.ids.Party.{Party}
use Rattle.zy_base.specs.declared.ids.Party.TheVariants.{Client, Replica}
use Rattle.zy_law_views.specs.Frames.{AreLinksBrought, IsBroughtKept, IsHonestFrame}
use Rattle.zy_chain.specs.Entries.{digest_of_entry, IsOfClients}
use Rattle.zy_chain.specs.Fields.{entry-in_range, entry_fields}
use Rattle.zy_chain.specs.Heads.{head_after}
use Rattle.zy_chain.specs.declared.entry.Entry.{Entry}
use Rattle.zy_law.specs.Histories.{AreKept}
use Rattle.zy_law_normal.proofs.Backing.{all_from, all_listed}
use Rattle.zy_law_normal.proofs.Goes.{all_of_both, all_of_front, all_of_rest}
use Rattle.zy_law_normal.specs.Tied.{next_head}
use Rattle.zy_parts.specs.Numbers as numbers
use Rattle.zy_parts.specs.Reports.{began_fields}
use Rattle.zy_parts.specs.Signing.{part_of}
use Rattle.zy_parts.specs.Statements.{check_fields, spec_fields}
use Rattle.zy_parts.specs.declared.reports.Change.{Change}
use Rattle.zy_parts.specs.declared.reports.New.{New}
use Rattle.zy_parts.specs.declared.reports.Told.{Told}
use Rattle.zy_parts.specs.declared.signed.Part.{Part}
use Rattle.zy_parts.specs.declared.signed.Signed.{Signed}
use Rattle.zy_parts.specs.declared.statements.Spec.{Spec}
use Rattle.zy_seal.specs.Screening.{answer_to}
use Rattle.zy_seal.specs.declared.directory.SealAnswer.TheVariants as answers
use Rattle.zy_table.specs.Roles.{is_primary_of, is_replica}
use Rattle.zy_table.specs.Whole.{are_specs_in_role, is_by_replica, is_change_in_role, is_new_in_role, is_told_in_role, is_view_frame_in_role}
use Rattle.zy_vframes.specs.Parts.{parts_of, parts_of_certificate, parts_of_change, parts_of_new, parts_of_told}
use Rattle.zy_vframes.specs.declared.frame.ViewFrame.{ViewFrame}
use Rattle.zy_vframes.specs.declared.frame.ViewFrame.TheVariants as frames
use Rattle.zy_law_views.specs.Held.{IsHonestPart}
use Rattle.zy_wire.specs.Spelling.{Spelling}
use Rattle.zy_world_law.specs.Good.{IsKept}
use Rattle.zy_world_law.specs.Seen.{seen}
use Rattle.zy_world_law.specs.Setup.{keys_of}
use Rattle.zy_world_law.specs.Texts.{entry_texts, is_link, report_texts, view_frame_texts}
use Rattle.zy_world_law.specs.World.{World, texts_said}
use Rattle.zy_law_views.proofs.IdleFrames.{TellsOfClients}
use Rattle.zy_world_law.proofs.DecodedReports.{IsFrameRead, IsNewRead, IsToldRead, frame_spelled}
use Rattle.zy_world_law.proofs.NotForged.{IsSaid}
use Rattle.zy_world_law.proofs.OneText.{link_is}
use Rattle.zy_world_law.proofs.Vouched.{part_honest}

-- ---- all that is signed is by replicas

abbrev ByReplica : Part → Type 0
ByReplica part = is_replica part.by ≡ true

module _ {A : Type 0} (number : ℕ) (fields : Spelling A) where
  parts_by : (list : List (Signed A)) → list_all is_by_replica list ≡ true → AllByRecursion ByReplica (map (part_of number fields) list)
  parts_by [] all = tt
  parts_by (x ∷ list) all = let both = and_parts (is_by_replica x) (list_all is_by_replica list) all in (both.0, parts_by list both.1)

certificate_by : (specs : Option (List (Signed Spec))) → are_specs_in_role specs ≡ true → AllByRecursion ByReplica (parts_of_certificate specs)
certificate_by None all = tt
certificate_by (Some specs) all = parts_by numbers.spec spec_fields specs all

told_by : (t : Told) → is_told_in_role t ≡ true → AllByRecursion ByReplica (parts_of_told t)
told_by t role =
    let first = and_parts (list_all is_by_replica t.began) _ role in
    let rest = and_parts (are_specs_in_role t.specs) (list_all is_by_replica t.checks) first.1 in
    all_of_both ByReplica (map (part_of numbers.began began_fields) t.began) _ (parts_by numbers.began began_fields t.began first.0)
    (all_of_both ByReplica (parts_of_certificate t.specs) (map (part_of numbers.check check_fields) t.checks) (certificate_by t.specs rest.0) (parts_by numbers.check check_fields t.checks rest.1))

change_by : (c : Signed Change) → is_change_in_role c ≡ true → AllByRecursion ByReplica (parts_of_change c)
change_by c role = let both = and_parts (is_replica c.by) (is_told_in_role c.stmt.told) role in (both.0, told_by c.stmt.told both.1)

changes_by : (list : List (Signed Change)) → list_all is_change_in_role list ≡ true → AllByRecursion ByReplica (flat_map parts_of_change list)
changes_by [] all = tt
changes_by (c ∷ list) all =
    let both = and_parts (is_change_in_role c) (list_all is_change_in_role list) all in
    subst (AllByRecursion ByReplica) (sym (flat_map-cons parts_of_change c list)) (all_of_both ByReplica (parts_of_change c) (flat_map parts_of_change list) (change_by c both.0) (changes_by list both.1))

primary_by : (counts : Counts) (view : ℕ) (by : Party) → is_primary_of counts view by ≡ true → is_replica by ≡ true
primary_by counts view (Replica id) role = refl
primary_by counts view (Client id) role = role

new_by : (counts : Counts) (n : Signed New) → is_new_in_role counts n ≡ true → AllByRecursion ByReplica (parts_of_new n)
new_by counts n role =
    let both = and_parts (is_primary_of counts n.stmt.view.0 n.by) (list_all is_change_in_role n.stmt.changes) role in
    (primary_by counts n.stmt.view.0 n.by both.0, changes_by n.stmt.changes both.1)

frame_by : (counts : Counts) (frame : ViewFrame) → is_view_frame_in_role counts frame ≡ true → AllByRecursion ByReplica (parts_of frame)
frame_by counts (frames.ViewChange change) role = change_by change role
frame_by counts (frames.NewView new) role = new_by counts new role
frame_by counts (frames.ViewConfirm began) role = (role, tt)
frame_by counts (frames.ViewCert cert) role =
    let both = and_parts (is_new_in_role counts cert.new) (list_all is_by_replica cert.begans) role in
    all_of_both ByReplica (parts_of_new cert.new) (map (part_of numbers.began began_fields) cert.begans) (new_by counts cert.new both.0) (parts_by numbers.began began_fields cert.begans both.1)
frame_by counts (frames.Fetch fetch) role = (role, tt)
frame_by counts (frames.State place snapshot) role = tt

-- ---- what it brings

module _ {S : Type 0} (R : Rules S) (w : World S) where
  links_brought : (head : Digest) (entries : List Entry) → AllByRecursion (λ e. IsOfClients e → entry_fields.Fits e) entries → AllByRecursion IsOfClients entries → AllByRecursion (IsKept w.texts) (entry_texts head entries)
      → AreKept (is_link w.texts) next_head head entries
  links_brought head [] fits clients kept = tt
  links_brought head (e ∷ entries) fits clients kept = (
    link_is w.texts head e (record { runnable = record { client = clients.0; in_range = entry-in_range e (fits.0 clients.0) }; entry = kept.0; link = kept.1.0 }),
    links_brought (head_after head (digest_of_entry e)) entries fits.1 clients.1 kept.1.1,
  )

  report_brought : (c : Signed Change) → IsToldRead c.stmt.told → AllByRecursion (IsKept w.texts) (report_texts c) → AreLinksBrought (seen R w) c
  report_brought c (a, (b, (d, (e, (f, (g, (h, (i, (j, (k, entries)))))))))) kept clients =
      let told = c.stmt.told in
      links_brought told.stable_head told.entries (all_listed (λ (e : Entry). IsOfClients e → entry_fields.Fits e) told.entries entries.each) (all_listed IsOfClients told.entries clients) kept

  reports_brought : (list : List (Signed Change)) → AllByRecursion (λ c. IsToldRead c.stmt.told) list → AllByRecursion (IsKept w.texts) (flat_map report_texts list) → AllByRecursion (AreLinksBrought (seen R w)) list
  reports_brought [] read kept = tt
  reports_brought (c ∷ list) read kept =
      let apart : AllByRecursion (IsKept w.texts) (report_texts c ++ flat_map report_texts list) = subst (AllByRecursion (IsKept w.texts)) (flat_map-cons report_texts c list) kept in
      (report_brought c read.0 (all_of_front (IsKept w.texts) (report_texts c) (flat_map report_texts list) apart), reports_brought list read.1 (all_of_rest (IsKept w.texts) (report_texts c) (flat_map report_texts list) apart))

  new_brought : (n : New) → IsNewRead n → AllByRecursion (IsKept w.texts) (flat_map report_texts n.changes) → All (AreLinksBrought (seen R w)) n.changes
  new_brought n read kept =
      all_from (AreLinksBrought (seen R w)) n.changes
      (reports_brought n.changes (all_listed (λ (c : Signed Change). IsToldRead c.stmt.told) n.changes (λ k d within. (read.1.each k d within).1.0.1)) kept)

  brought : (frame : ViewFrame) → IsFrameRead frame → AllByRecursion (IsKept w.texts) (view_frame_texts frame) → IsBroughtKept (seen R w) w.texts frame
  brought (frames.ViewChange change) read kept = report_brought change read.1 kept
  brought (frames.NewView new) read kept = new_brought new.stmt read kept
  brought (frames.ViewConfirm began) read kept = tt
  brought (frames.ViewCert cert) read kept = new_brought cert.new.stmt read.0 kept
  brought (frames.Fetch fetch) read kept = tt
  brought (frames.State place snapshot) read kept = kept.0

  -- ---- its parts

  abbrev Verifies : Part → Type 0
  Verifies part = answer_to (keys_of w.setup) part ≡ answers.Yes

  abbrev WasSaid : Part → Type 0
  WasSaid part = answer_to (keys_of w.setup) part ≡ answers.Yes → IsSaid (texts_said w part.by) part.text

  parts_honest : (parts : List Part) → AllByRecursion ByReplica parts → AllByRecursion Verifies parts → AllByRecursion WasSaid parts → AllByRecursion (IsHonestPart (seen R w)) parts
  parts_honest [] by signed said = tt
  parts_honest (part ∷ parts) by signed said = (part_honest R w part by.0 signed.0 (said.0 signed.0), parts_honest parts by.1 signed.1 said.1)

  pub frame_honest : (counts : Counts) (frame : ViewFrame) → IsFrameRead frame → TellsOfClients frame → is_view_frame_in_role counts frame ≡ true → AllByRecursion Verifies (parts_of frame) → AllByRecursion WasSaid (parts_of frame)
      → AllByRecursion (IsKept w.texts) (view_frame_texts frame) → IsHonestFrame (seen R w) w.texts frame
  frame_honest counts frame read clients role signed said kept =
      record {
        spelled = frame_spelled counts frame role clients read;
        parts = all_from (IsHonestPart (seen R w)) (parts_of frame) (parts_honest (parts_of frame) (frame_by counts frame role) signed said);
        brought = brought frame read kept;
      }
