-- Of kept links one head has one text.
use Rattle.std.proofs.Common.{◌≡◌, ℕ, ◌^◌, true, List, ◌++◌, length, take, drop, refl, sym, ap, ◌∙◌, arith, ltb-true, leb-true, lt-ltb, le-leb}
use Rattle.std.proofs.Math.Seq.{take-append_seam, drop-append_seam}
use Rattle.std.proofs.lemmas.List.{length-append}
use Rattle.std.proofs.lemmas.Bool.{and_parts}
use Rattle.std.proofs.lemmas.Option.{same_Some}
use Rattle.std.specs.Prelude.{nat_lt, nat_le}
use Rattle.sha2.specs.Sha256.{sha256}
use Rattle.sha2.proofs.Facts256.{length-sha256}
use Rattle.zy_base.specs.declared.ids.Digest.{Digest}
use Rattle.zy_chain.specs.Entries.{bytes_of_entry, digest_of_entry, digest_of_request}
use Rattle.zy_chain.specs.Fields.{entry_fields, entry-exact, entry-is_bytes}
use Rattle.zy_chain.specs.Heads.{head_after}
use Rattle.zy_chain.specs.declared.entry.Entry.{Entry}
use Rattle.zy_exec.specs.Installed.{IsRunnable}
use Rattle.zy_law.specs.Histories.{HaveOneText}
use Rattle.zy_law_normal.specs.Tied.{next_head}
use Rattle.zy_law_views.specs.Texts.{IsLink}
use Rattle.zy_wire.proofs.Parts.{whole_again, ok_is}
use Rattle.zy_wire.specs.Spelling.{whole}
use Rattle.zy_world_law.specs.Good.{IsKept}
use Rattle.zy_world_law.specs.Texts.{digest_of, is_entry, is_kept, is_link, link_text}
use Rattle.zy_world_law.specs.World.{Texts}
use Rattle.zy_world_law.proofs.KeptTexts.{kept_test, test_kept}

runnable_of : (e : Entry) → is_entry e ≡ true → IsRunnable e
runnable_of e is =
    let first = and_parts (nat_lt e.client.0 64) _ is in
    let others = and_parts (nat_lt e.stamp.0 (2 ^ 62)) (nat_le (length e.op) 1100) first.1 in
    record {
      client = ltb-true e.client.0 64 first.0;
      in_range = record { stamp = ltb-true e.stamp.0 (2 ^ 62) others.0; op = leb-true (length e.op) 1100 others.1 };
    }

pub link_of : (texts : Texts) (head : Digest) (e : Entry) → is_link texts head e ≡ true → IsLink texts head e
link_of texts head e is =
    let first = and_parts (is_entry e) _ is in
    let others = and_parts (is_kept texts (bytes_of_entry e)) (is_kept texts (link_text head e)) first.1 in
    record {
      runnable = runnable_of e first.0;
      entry = test_kept texts (bytes_of_entry e) others.0;
      link = test_kept texts (link_text head e) others.1;
    }

pub link_is : (texts : Texts) (head : Digest) (e : Entry) → IsLink texts head e → is_link texts head e ≡ true
link_is texts head e link =
    rw (lt-ltb e.client.0 64 link.runnable.client, lt-ltb e.stamp.0 (2 ^ 62) link.runnable.in_range.stamp, le-leb (length e.op) 1100 link.runnable.in_range.op, kept_test texts (bytes_of_entry e) link.entry, kept_test texts (link_text head e) link.link) refl

-- ---- two entries with the same bytes

fits : (e : Entry) → IsRunnable e → entry_fields.Fits e
unfolding entry_fields
fits e is = (omega (arith, is.client), ((omega arith, is.in_range.stamp), is.in_range.op))

one_entry : (d e : Entry) → IsRunnable d → IsRunnable e → bytes_of_entry d ≡ bytes_of_entry e → d ≡ e
one_entry d e d_is e_is same =
    let spelled : entry_fields.spell d ≡ entry_fields.spell e = entry-is_bytes d ∙ same ∙ sym (entry-is_bytes e) in
    ok_is d e (sym (whole_again entry_fields entry-exact d (fits d d_is)) ∙ ap (λ (b : List ℕ). whole entry_fields b) spelled ∙ whole_again entry_fields entry-exact e (fits e e_is))

-- ---- two kept texts with the same SHA-256 value

pub one_kept_text : (texts : Texts) (a b : List ℕ) → IsKept texts a → IsKept texts b → sha256 a ≡ sha256 b → a ≡ b
one_kept_text texts a b a_is b_is same =
    let digests : digest_of a ≡ digest_of b = ap (λ (l : List ℕ). record { 0 = l }) same in
    same_Some a b (sym a_is ∙ ap texts digests ∙ b_is)

split : (a b c d : List ℕ) → length c ≡ length d → a ++ c ≡ b ++ d → (a ≡ b) × (c ≡ d)
split a b c d long same =
    let whole : length (a ++ c) ≡ length (b ++ d) = ap length same in
    let sizes : length a ≡ length b = omega (arith, length-append a c, length-append b d) in (
      sym (take-append_seam a c) ∙ ap (λ (l : List ℕ). take (length a) l) same ∙ ap (λ (n : ℕ). take n (b ++ d)) sizes ∙ take-append_seam b d,
      sym (drop-append_seam a c) ∙ ap (λ (l : List ℕ). drop (length a) l) same ∙ ap (λ (n : ℕ). drop n (b ++ d)) sizes ∙ drop-append_seam b d,
    )

pub one_text : (texts : Texts) → HaveOneText (is_link texts) next_head
unfolding head_after digest_of_request
one_text texts h k d e first second same =
    let a = link_of texts h d first in
    let b = link_of texts k e second in
    let texts_same : link_text h d ≡ link_text k e = one_kept_text texts (link_text h d) (link_text k e) a.link b.link (ap (λ (x : Digest). x.0) same) in
    let parts = split h.0 k.0 (digest_of_entry d).0 (digest_of_entry e).0 (length-sha256 (bytes_of_entry d) ∙ sym (length-sha256 (bytes_of_entry e))) texts_same in
    (ap (λ (l : List ℕ). record { 0 = l }) parts.0, one_entry d e a.runnable b.runnable (one_kept_text texts (bytes_of_entry d) (bytes_of_entry e) a.entry b.entry parts.1))
