-- Which replicas two quorums share, and that they are correct.
use Rattle.std.proofs.Common.{◌≡◌, ℕ, ◌+◌, ◌<◌, Bool, true, false, not, ◌&&◌, ◌⊎◌, inl, inr, List, Some, refl, ap, ◌∙◌, subst, arith}
use Rattle.std.specs.Prelude.{All, count_by, slice_get}
use Rattle.std.proofs.lemmas.Bool.{and_parts, not-true}
use Rattle.std.proofs.lemmas.Option.{get_or_from_slice_get, slice_get_within}
use Rattle.zy_choose.specs.Reports.{PlainReport}
use Rattle.zy_law.specs.Counting.{count_below}
use Rattle.zy_law.specs.World.{Statement, World}
use Rattle.zy_law.specs.World.Statement.{Change}
use Rattle.zy_law.specs.Said.{IsCorrect, HasSaid, IsVouched, IsBacked}
use Rattle.zy_law.specs.Reports.{IsProven, IsValidReport, IsValidNew}
use Rattle.zy_law.specs.Lawful.{IsLawful}
use Rattle.zy_law.proofs.CountLemmas.{named, named_found, count_named, count_all, count_everyone, count_shared, counted}

pub All_at : {A : Type 0} (P : A → Type 0) (xs : List A) (k : ℕ) (x : A) → slice_get xs k ≡ Some x → All P xs → P x
All_at P xs k x at all = subst P (get_or_from_slice_get xs k x x at) (all k x (slice_get_within xs k x at))

-- ---- who stands behind a statement

pub vouchers : {w : World} {k : ℕ} {s : Statement} → IsBacked w k s → ℕ → Bool
vouchers b r = named (λ (x : ℕ). x) (λ x. true) b.who r

unfoldable pub everyone : List PlainReport → ℕ → Bool
everyone reports r = named (λ (c : PlainReport). c.by) (λ c. true) reports r

-- a correct replica's report in a valid new view
pub record IsReporter (w : World) (view : ℕ) (reports : List PlainReport) (r : ℕ) : Type 0 where
  pub place : ℕ
  pub report : PlainReport
  pub at : slice_get reports place ≡ Some report
  pub by : report.by ≡ r
  pub said : HasSaid w r (Change view report)
  pub proven : IsProven w view report

passes_too : (test : PlainReport → Bool) (r s : PlainReport) → r ≡ s → test s ≡ true → test r ≡ true
passes_too test r s same passes = ap test same ∙ passes

module _ (w : World) (lawful : IsLawful w) where
  pub vouchers_count : (k : ℕ) (s : Statement) (b : IsBacked w k s) → count_below w.counts.n (vouchers b) ≡ k
  unfolding vouchers
  vouchers_count k s b =
      count_named w.counts.n (λ (x : ℕ). x) (λ x. true) b.who b.different (λ i d within. (b.vouched i d within).within) ∙ count_all b.who ∙ b.many

  said_if_honest : (r : ℕ) (s : Statement) → w.liar r ≡ false → (w.liar r ≡ true) ⊎ HasSaid w r s → HasSaid w r s
  said_if_honest r s honest (inl lies) = absurd cc
  said_if_honest r s honest (inr said) = said

  pub vouchers_said : (k : ℕ) (s : Statement) (b : IsBacked w k s) (r : ℕ) → vouchers b r ≡ true → w.liar r ≡ false → IsCorrect w r × HasSaid w r s
  unfolding vouchers
  vouchers_said k s b r among honest =
      let found = named_found (λ (x : ℕ). x) (λ x. true) b.who r among in
      let vouched : IsVouched w s r = subst (λ (q : ℕ). IsVouched w s q) found.4 (All_at (IsVouched w s) b.who found.0 found.1 found.2 b.vouched) in
      (record { within = vouched.within; honest = honest }, said_if_honest r s honest vouched.said)

  pub both_among : (p q : ℕ → Bool) → w.counts.n + w.counts.f < count_below w.counts.n p + count_below w.counts.n q
      → (r : ℕ) × (p r ≡ true) × (q r ≡ true) × (w.liar r ≡ false) × (r < w.counts.n)
  both_among p q enough =
      let some : 0 < count_below w.counts.n (λ i. (p i && q i) && not (w.liar i)) = omega (arith, lawful.few_liars, count_shared w.counts.n p q w.liar) in
      let one = counted w.counts.n (λ i. (p i && q i) && not (w.liar i)) some in
      let parts = and_parts (p one.0 && q one.0) (not (w.liar one.0)) one.2 in
      let two = and_parts (p one.0) (q one.0) parts.0 in
      (one.0, two.0, two.1, not-true (w.liar one.0) parts.1, one.1)

  -- two quorums share a correct replica
  pub both_said : (k l : ℕ) (s t : Statement) → IsBacked w k s → IsBacked w l t → w.counts.n + w.counts.f < k + l
      → (r : ℕ) × IsCorrect w r × HasSaid w r s × HasSaid w r t
  both_said k l s t a b enough =
      let one = both_among (vouchers a) (vouchers b) (omega (arith, vouchers_count k s a, vouchers_count l t b)) in
      let first = vouchers_said k s a one.0 one.1 one.3 in
      (one.0, first.0, first.1, (vouchers_said l t b one.0 one.2 one.3).1)

  pub someone : (r : ℕ) × IsCorrect w r
  someone =
      let one = both_among (λ i. true) (λ i. true) (omega (arith, count_everyone w.counts.n, w.counts.sound.two_certificates, w.counts.sound.certificate_in_reach)) in
      (one.0, record { within = one.4; honest = one.3 })

  -- among more than f one is correct
  pub one_said : (k : ℕ) (s : Statement) → IsBacked w k s → w.counts.f < k → (r : ℕ) × IsCorrect w r × HasSaid w r s
  one_said k s a enough =
      let one = both_among (vouchers a) (λ i. true) (omega (arith, vouchers_count k s a, count_everyone w.counts.n)) in
      let first = vouchers_said k s a one.0 one.1 one.3 in
      (one.0, first.0, first.1)

  -- ---- who reports

  within_all : (view : ℕ) (reports : List PlainReport) → IsValidNew w view reports → All (λ c. c.by < w.counts.n) reports
  within_all view reports valid i d within = (valid.each i d within).signed.within

  -- so many reports pass a test as replicas report so
  pub reporters_count : (view : ℕ) (reports : List PlainReport) (test : PlainReport → Bool) → IsValidNew w view reports
      → count_below w.counts.n (named (λ (c : PlainReport). c.by) test reports) ≡ count_by test reports
  reporters_count view reports test valid =
      count_named w.counts.n (λ (c : PlainReport). c.by) test reports valid.different (within_all view reports valid)

  pub everyone_count : (view : ℕ) (reports : List PlainReport) → IsValidNew w view reports → count_below w.counts.n (everyone reports) ≡ w.counts.change
  unfolding everyone
  everyone_count view reports valid = reporters_count view reports (λ c. true) valid ∙ count_all reports ∙ valid.many

  pub reporter_of : (view : ℕ) (reports : List PlainReport) → IsValidNew w view reports → (r place : ℕ) (report : PlainReport)
      → slice_get reports place ≡ Some report → report.by ≡ r → w.liar r ≡ false
      → IsCorrect w r × (reporter : IsReporter w view reports r) × (reporter.report ≡ report)
  reporter_of view reports valid r place report at by honest =
      let own : IsValidReport w view report = All_at (IsValidReport w view) reports place report at valid.each in
      let vouched : IsVouched w (Change view report) r = subst (λ (q : ℕ). IsVouched w (Change view report) q) by own.signed in (
        record { within = vouched.within; honest = honest },
        record { place = place; report = report; at = at; by = by; said = said_if_honest r (Change view report) honest vouched.said; proven = own.proven },
        refl,
      )

  -- a quorum and the reports share a correct replica
  pub said_and_reported : (k : ℕ) (s : Statement) (view : ℕ) (reports : List PlainReport) → IsBacked w k s → IsValidNew w view reports
      → w.counts.n + w.counts.f < k + w.counts.change → (r : ℕ) × IsCorrect w r × HasSaid w r s × IsReporter w view reports r
  unfolding everyone
  said_and_reported k s view reports a valid enough =
      let one = both_among (vouchers a) (everyone reports) (omega (arith, vouchers_count k s a, everyone_count view reports valid)) in
      let found = named_found (λ (c : PlainReport). c.by) (λ c. true) reports one.0 one.2 in (
        one.0,
        (vouchers_said k s a one.0 one.1 one.3).0,
        (vouchers_said k s a one.0 one.1 one.3).1,
        (reporter_of view reports valid one.0 found.0 found.1 found.2 found.4 one.3).1,
      )

  -- among more than f reports that pass a test one is a correct replica's
  pub one_reported : (view : ℕ) (reports : List PlainReport) (test : PlainReport → Bool) → IsValidNew w view reports → w.counts.f < count_by test reports
      → (r : ℕ) × IsCorrect w r × (reporter : IsReporter w view reports r) × (test reporter.report ≡ true)
  one_reported view reports test valid enough =
      let one = both_among (named (λ (c : PlainReport). c.by) test reports) (λ i. true) (omega (arith, reporters_count view reports test valid, count_everyone w.counts.n)) in
      let found = named_found (λ (c : PlainReport). c.by) test reports one.0 one.1 in
      let own = reporter_of view reports valid one.0 found.0 found.1 found.2 found.4 one.3 in
      (one.0, own.0, own.1, passes_too test own.1.report found.1 own.2 found.3)
