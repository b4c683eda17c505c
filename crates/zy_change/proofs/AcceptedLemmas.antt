-- What is chosen out of a new view's reports stands in one of them, and enough equal confirmations certify it.
use Rattle.std.proofs.Common.{◌≡◌, ◌≢◌, ℕ, zero, suc, ◌+◌, ◌<◌, ◌≤◌, ◌^◌, ◌==◌, ◌&&◌, Bool, true, false, nat_le, if◌then◌else◌, List, [], ◌∷◌, length, map, take, get_or, All, Option, Some, None, Ok, refl, sym, ap, ◌∙◌, subst, arith}
use Rattle.std.specs.List.{AllPairs, cons_option}
use Rattle.std.specs.Prelude.{slice_get, slice_index_or, option_map, IfSome, IfOk, Result, Err}
use Rattle.std.proofs.lemmas.Bool.{and_from, leb-true, le-ltb}
use Rattle.std.proofs.lemmas.List.{get_or-take, length-map, length-take, length-take-le}
use Rattle.std.proofs.lemmas.List.Elements.{All-cons, All-map, All-nil, All-take, All-weaker}
use Rattle.std.proofs.lemmas.List.Kept.{AllPairs-cons}
use Rattle.std.proofs.lemmas.List.Quantifiers.{position-Some}
use Rattle.std.proofs.lemmas.Option.{get_or_from_slice_get, same_Some, slice_get_within, slice_get-get_or}
use Rattle.zy_base.specs.declared.counts.Counts.{Counts}
use Rattle.zy_base.specs.declared.ids.Digest.{Digest}
use Rattle.zy_base.specs.declared.ids.Place.{Place}
use Rattle.zy_base.specs.declared.ids.View.{View}
use Rattle.zy_chain.specs.Stretch.{Mark, Stretch, end_of, head_in}
use Rattle.zy_parts.specs.Reports.{IsBeganInRange, IsChangeInRange}
use Rattle.zy_parts.specs.Signing.{IsSignedInRange}
use Rattle.zy_parts.specs.declared.reports.Began.{Began}
use Rattle.zy_parts.specs.declared.reports.Change.{Change}
use Rattle.zy_parts.specs.declared.signed.Signed.{Signed}
use Rattle.zy_vframes.specs.declared.frame.ViewCert.{ViewCert}
use Rattle.zy_cert.proofs.CertificateLemmas.{certified-found}
use Rattle.zy_cert.specs.Certificates.{certified}
use Rattle.zy_cert.specs.Equal.{same_began, began-equal, digest-equal, place-equal, view-equal}
use Rattle.zy_cert.specs.Points.{point_of_began}
use Rattle.zy_choose.proofs.MarkLemmas.{has_mark-Has}
use Rattle.zy_choose.specs.Answer.{IsAnswer}
use Rattle.zy_choose.specs.Choice.{IsChosen, provider_of}
use Rattle.zy_choose.specs.Marks.{Has, has_mark, link}
use Rattle.zy_choose.specs.Reports.{PlainReport}
use Rattle.zy_choose.specs.Rules.{IsWellFormed}
use Rattle.zy_choose.specs.declared.choice.Choice.TheVariants as choices
use Rattle.zy_evidence.proofs.ProofLemmas.{all_clear}
use Rattle.zy_evidence.specs.Reading.{number_of_party, read, stretch_of}
use Rattle.zy_evidence.specs.Rules.{is_certified_at}
use Rattle.zy_change.specs.declared.kept.Accepted.{Accepted}
use Rattle.zy_change.specs.declared.kept.Chosen.{Chosen}
use Rattle.zy_change.specs.Fit.{IsAccepted, IsCertified, IsFit, IsGiven, IsKeptBegan}
use Rattle.zy_change.specs.Owing.{provider_in}
use Rattle.zy_change.specs.Views.{Views, began_equal, began_for, begans_equal, certificate, certificate_if, certificate_of}
use Rattle.zy_change.proofs.ChoosingLemmas.{answers, within_reports}

-- ---- the choice

has_head : (s : Stretch) (m : Mark) → Has link s m → head_in s m.place ≡ Some m.head
has_head s m has = rw (le-ltb m.place s.base.place has.above, le-ltb (end_of s) m.place has.below) (ap (λ (d : Digest). Some d) has.head)

last_both : (a b : Bool) → (a && b) ≡ true → b ≡ true
last_both true b both = both
last_both false b both = absurd cc

-- the report that is taken has the mark, and there is one
provider_mark : (reports : List PlainReport) (last : ℕ) (mark : Mark) (provider : ℕ) → provider_of link last mark reports ≡ Some provider
    → (r : PlainReport) × (slice_get reports provider ≡ Some r) × Has link r.stretch mark
provider_mark [] last mark provider is = absurd cc
provider_mark (first ∷ rest) last mark provider is =
    let r = get_or (first ∷ rest) provider first in
    let (within, passes, earlier) = position-Some (λ x. (x.last_view == last) && has_mark link x.stretch mark) (first ∷ rest) provider first is in
    (r, slice_get-get_or (first ∷ rest) provider first within, has_mark-Has link r.stretch mark (last_both (r.last_view == last) _ passes))

mapped_there : {A B : Type 0} (f : A → B) (xs : List A) (i : ℕ) (y : B) → slice_get (map f xs) i ≡ Some y → (x : A) × (slice_get xs i ≡ Some x) × (y ≡ f x)
mapped_there f [] i y is = absurd cc
mapped_there f (x ∷ xs) zero y is = (x, refl, sym (same_Some (f x) y is))
mapped_there f (x ∷ xs) (suc i) y is = mapped_there f xs i y is

module _ (counts : Counts) (interval : ℕ) (a : Accepted) (is : IsAccepted counts interval a) where
  abbrev reports : List PlainReport
  reports = map read a.new.stmt.changes

  abbrev mark : Mark
  mark = record { place = a.chosen.place.0; head = a.chosen.head }

  well : All (IsWellFormed interval) reports
  well =
      All-map (IsWellFormed interval) read a.new.stmt.changes
      (All-weaker (IsGiven counts interval a.new.stmt.view) (λ c. IsWellFormed interval (read c)) (λ c given. ((all_clear counts interval c).0 given.keeps_rules).itself) a.new.stmt.changes is.reports)

  answer : IsAnswer counts.agree reports (choices.Chosen a.chosen.provider a.chosen.place a.chosen.head)
  answer =
      let least = is.in_range.0.1.least in
      subst (IsAnswer counts.agree reports) is.chosen
      (answers counts.agree reports (omega (arith, counts.sound.true_agreement)) (omega (arith, length-map a.new.stmt.changes read, least))
      (λ k d within. (well k d within).began) (λ k d within. (well k d within).spec))

  pub accepted_place : a.chosen.place.0 < 2 ^ 62
  accepted_place = within_reports interval counts.agree reports well (choices.Chosen a.chosen.provider a.chosen.place a.chosen.head) answer

  found : (r : PlainReport) × (slice_get reports a.chosen.provider ≡ Some r) × Has link r.stretch mark
  found = let chosen : IsChosen link counts.agree reports a.chosen.provider mark = answer in provider_mark reports chosen.choice.view mark a.chosen.provider chosen.provided

  -- the report that gives the history
  pub accepted_provider : (c : Signed Change) × (provider_in a ≡ Some c) × (head_in (stretch_of c.stmt.told) a.chosen.place.0 ≡ Some a.chosen.head)
  accepted_provider =
      let (r, at, has) = found in
      let (c, there, read_is) = mapped_there read a.new.stmt.changes a.chosen.provider r at in
      (c, there, has_head (stretch_of c.stmt.told) mark (subst (λ (x : PlainReport). Has link x.stretch mark) read_is has))

  -- breaks no rule, and is in range
  pub accepted_given : (c : Signed Change) → provider_in a ≡ Some c → IsGiven counts interval a.new.stmt.view c × IsSignedInRange IsChangeInRange c
  accepted_given c there =
      let within = slice_get_within a.new.stmt.changes a.chosen.provider c there in
      let at = get_or_from_slice_get a.new.stmt.changes a.chosen.provider c c there in (
        subst (IsGiven counts interval a.new.stmt.view) at (is.reports a.chosen.provider c within),
        subst (IsSignedInRange IsChangeInRange) at (is.in_range.0.1.each a.chosen.provider c within),
      )

-- ---- confirmations

abbrev Rises : Signed Began → Signed Began → Type 0
Rises a b = number_of_party a.by < number_of_party b.by

-- one that says this, of a replica with this number or a greater one
record IsOne (own : Began) (low : ℕ) (b : Signed Began) : Type 0 where
  from : low ≤ number_of_party b.by
  stmt : b.stmt ≡ own
  in_range : IsSignedInRange IsBeganInRange b

equal_there : (own : Began) (o : Option (Signed Began)) (b : Signed Began) → began_equal own o ≡ Some b → (o ≡ Some b) × (b.stmt ≡ own)
equal_there own None b is = absurd cc
equal_there own (Some x) b is = by (same_began x.stmt own) refl is
  where
    by : (same : Bool) → same_began x.stmt own ≡ same → (if same then Some x else None) ≡ Some b → (Some x ≡ Some b) × (b.stmt ≡ own)
    by true same here = (here, subst (λ (y : Signed Began). y.stmt ≡ own) (same_Some x b here) ((began-equal x.stmt own).0 same))
    by false same none = absurd cc

abbrev AreFrom : ℕ → List (Option (Signed Began)) → Type 0
AreFrom low slots = (id : ℕ) (b : Signed Began) → slice_index_or slots id None ≡ Some b → IsKeptBegan (low + id) b

module _ (own : Began) where
  behind : (low : ℕ) (slot : Option (Signed Began)) (slots : List (Option (Signed Began))) → AreFrom low (slot ∷ slots) → AreFrom (low + 1) slots
  behind low slot slots from id b is = let e : low + suc id ≡ low + 1 + id = omega arith in subst (λ (n : ℕ). IsKeptBegan n b) e (from (suc id) b is)

  first_too : (low : ℕ) (slot : Option (Signed Began)) (slots : List (Option (Signed Began))) → AreFrom low (slot ∷ slots) → All (IsOne own (low + 1)) (begans_equal own slots)
      → (o : Option (Signed Began)) → began_equal own slot ≡ o → All (IsOne own low) (cons_option o (begans_equal own slots))
  first_too low slot slots from others o is = by o is
    where
      rest : All (IsOne own low) (begans_equal own slots)
      rest =
          All-weaker (IsOne own (low + 1)) (IsOne own low) (λ b one. (let above = one.from in record { from = omega (arith, above); stmt = one.stmt; in_range = one.in_range })) (begans_equal own slots) others

      by : (o : Option (Signed Began)) → began_equal own slot ≡ o → All (IsOne own low) (cons_option o (begans_equal own slots))
      by None is = rest
      by (Some b) is =
          let there = equal_there own slot b is in
          let kept = from 0 b there.0 in
          let at : number_of_party b.by ≡ low + 0 = ap number_of_party kept.by in
          All-cons (IsOne own low) b (begans_equal own slots)
          (record { from = omega (arith, at); stmt = there.1; in_range = kept.in_range }) rest

  -- each of them
  each : (low : ℕ) (slots : List (Option (Signed Began))) → AreFrom low slots → All (IsOne own low) (begans_equal own slots)
  each low [] from = All-nil (IsOne own low)
  each low (slot ∷ slots) from = first_too low slot slots from (each (low + 1) slots (behind low slot slots from)) (began_equal own slot) refl

  then_rising : (low : ℕ) (slot : Option (Signed Began)) (slots : List (Option (Signed Began))) → AreFrom low (slot ∷ slots) → AllPairs Rises (begans_equal own slots)
      → (o : Option (Signed Began)) → began_equal own slot ≡ o → AllPairs Rises (cons_option o (begans_equal own slots))
  then_rising low slot slots from rest None is = rest
  then_rising low slot slots from rest (Some b) is =
      let there = equal_there own slot b is in
      let kept = from 0 b there.0 in
      let at : number_of_party b.by ≡ low + 0 = ap number_of_party kept.by in
      AllPairs-cons Rises b (begans_equal own slots)
      (All-weaker (IsOne own (low + 1)) (Rises b) (λ c one. (let above = one.from in omega (arith, above, at))) (begans_equal own slots) (each (low + 1) slots (behind low slot slots from)))
      rest

  -- by the numbers of their signers
  rising : (low : ℕ) (slots : List (Option (Signed Began))) → AreFrom low slots → AllPairs Rises (begans_equal own slots)
  rising low [] from = λ i j d before small. absurd (let never : ⊥ = omega arith in never)
  rising low (slot ∷ slots) from = then_rising low slot slots from (rising (low + 1) slots (behind low slot slots from)) (began_equal own slot) refl

-- the first of them are of different replicas
taken_different : (n : ℕ) (list : List (Signed Began)) → AllPairs Rises list → AllPairs (λ a b. a.by ≢ b.by) (take n list)
taken_different n list rises i j d before small =
    let fewer : length (take n list) ≤ n = omega (arith, length-take n list) in
    let whole : length (take n list) ≤ length list = omega (arith, length-take n list) in
    let above = rises i j d before (omega arith) in
    rw (get_or-take n list i d (omega arith), get_or-take n list j d (omega arith)) (λ same. (let e = ap number_of_party same in let never : ⊥ = omega (arith, above, e) in never))

certified_itself : (point : View × Place × Digest) → is_certified_at point (Ok point) ≡ true
certified_itself point = and_from _ _ ((view-equal point.0 point.0).1 refl) (and_from _ _ ((place-equal point.1 point.1).1 refl) ((digest-equal point.2 point.2).1 refl))

-- so many of the kept ones
module _ (v : Views) (a : Accepted) (fit : IsFit v) (is : IsAccepted v.counts v.interval a) where
  abbrev own : Began
  own = began_for a.new.stmt.view a.chosen

  abbrev list : List (Signed Began)
  list = begans_equal own v.begans

  abbrev first : List (Signed Began)
  first = take v.counts.cert list

  all_kept : AreFrom 0 v.begans
  all_kept id b here = let e : id ≡ 0 + id = omega arith in subst (λ (n : ℕ). IsKeptBegan n b) e (fit.confirmed id b here)

  all_first : All (IsOne own 0) first
  all_first = All-take (IsOne own 0) v.counts.cert list (each own 0 v.begans all_kept)

  proven : v.counts.cert ≤ length list → certified same_began point_of_began v.counts.cert first ≡ Ok (a.new.stmt.view, a.chosen.place, a.chosen.head)
  proven enough =
      certified-found same_began began-equal point_of_began v.counts.cert first (a.new.stmt.view, a.chosen.place, a.chosen.head) (omega (arith, v.counts.sound.two_certificates))
      (record {
        stmt = own;
        located = refl;
        len = length-take-le v.counts.cert list enough;
        different = taken_different v.counts.cert list (rising own 0 v.begans all_kept);
        equal = All-weaker (IsOne own 0) (λ b. b.stmt ≡ own) (λ b one. one.stmt) first all_first;
      })

  with_enough : v.counts.cert ≤ length list → IsCertified v.counts v.interval (record { new = a.new; begans = first }) a.chosen
  with_enough enough =
      let many = length-take-le v.counts.cert list enough in
      record {
        accepted = record { in_range = is.in_range; reports = is.reports; chosen = is.chosen };
        place = accepted_place v.counts v.interval a is;
        begans = record {
          least = omega (arith, many, v.counts.sound.two_certificates);
          most = omega (arith, many, v.counts.sound.short_certificate);
          each = All-weaker (IsOne own 0) (IsSignedInRange IsBeganInRange) (λ b one. one.in_range) first all_first;
        };
        proven = ap (is_certified_at (a.new.stmt.view, a.chosen.place, a.chosen.head)) (proven enough) ∙ certified_itself (a.new.stmt.view, a.chosen.place, a.chosen.head);
      }

  -- the certificate that they make
  pub certificate_certified : (cert : ViewCert) → certificate_of v a ≡ Some cert → IsCertified v.counts v.interval cert a.chosen
  certificate_certified cert = by (nat_le v.counts.cert (length list)) refl
    where
      by : (b : Bool) → nat_le v.counts.cert (length list) ≡ b → option_map (λ begans. record { new = a.new; begans = begans }) (if b then Some first else None) ≡ Some cert → IsCertified v.counts v.interval cert a.chosen
      by false few none = absurd cc
      by true enough here = subst (λ (x : ViewCert). IsCertified v.counts v.interval x a.chosen) (same_Some (record { new = a.new; begans = first }) cert here) (with_enough (leb-true v.counts.cert (length list) enough))

-- so it is certified what the kept ones certify
pub certified_from : (v : Views) (cert : ViewCert) (chosen : Chosen) → IsFit v → v.accepted ≡ Some (record { new = cert.new; chosen = chosen }) → certificate v ≡ Some cert → IsCertified v.counts v.interval cert chosen
certified_from v cert chosen fit kept is =
    let a : Accepted = record { new = cert.new; chosen = chosen } in
    let accepted : IsAccepted v.counts v.interval a = subst (λ (o : Option Accepted). IfSome o (IsAccepted v.counts v.interval)) kept fit.accepted in
    certificate_certified v a fit accepted cert (ap (certificate_if v) (sym kept) ∙ is)

pub all_certified : {E : Type 0} (v : Views) (result : Result (ViewCert × Chosen) E) → IsFit v → IfOk result (λ r. certificate v ≡ Some r.0) → IfOk result (λ r. v.accepted ≡ Some (record { new = r.0.new; chosen = r.1 }))
    → IfOk result (λ r. IsCertified v.counts v.interval r.0 r.1)
all_certified v (Ok r) fit is kept = certified_from v r.0 r.1 fit kept is
all_certified v (Err e) fit is kept = is
