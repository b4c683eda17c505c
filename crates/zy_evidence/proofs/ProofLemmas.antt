-- What a report proves by the statements of others: tests and facts.
use Rattle.std.proofs.Common.{◌≡◌, ℕ, ◌<◌, Bool, List, Option, Some, None, Result, Ok, Err, refl, sym, ap, ◌∙◌, subst, arith}
use Rattle.std.specs.Bool.{Decides}
use Rattle.std.proofs.lemmas.Bool.Decides.{Decides-and, Decides-eqb, Decides-like, Decides-ltb}
use Rattle.std.proofs.lemmas.Option.{same_Some}
use Rattle.zy_base.specs.declared.cause.Cause.{Cause}
use Rattle.zy_base.specs.declared.counts.Counts.{Counts}
use Rattle.zy_base.specs.declared.ids.Digest.{Digest}
use Rattle.zy_base.specs.declared.ids.Place.{Place}
use Rattle.zy_base.specs.declared.ids.View.{View}
use Rattle.zy_chain.specs.Heads.{empty_head}
use Rattle.zy_parts.specs.declared.signed.Signed.{Signed}
use Rattle.zy_parts.specs.declared.statements.Spec.{Spec}
use Rattle.zy_parts.specs.declared.reports.Told.{Told}
use Rattle.zy_parts.specs.declared.reports.Change.{Change}
use Rattle.zy_cert.specs.Certificates.{IsCertificate, certified}
use Rattle.zy_cert.specs.Equal.{view-equal, place-equal, digest-equal, same_began, began-equal, same_check, check-equal, same_spec, spec-equal}
use Rattle.zy_cert.specs.Points.{point_of_began, point_of_check, point_of_spec}
use Rattle.zy_cert.proofs.CertificateLemmas.{certified-taken, certified-found}
use Rattle.zy_choose.specs.declared.report.ReportRule.{ReportRule}
use Rattle.zy_evidence.specs.Reading.{number_of_party}
use Rattle.zy_evidence.specs.Rules.{is_certified_at, is_of_view, is_first_begin, is_began_proven, is_spec_proven, is_first_stable, is_stable_proven, rule_or, rule_of}
use Rattle.zy_evidence.specs.WellFormed.{IsFirstBegin, IsBeganProven, IsSpecProven, IsFirstStable, IsStableProven, IsWellFormedChange}
use Rattle.zy_evidence.specs.declared.rule.Rule.{Rule}
use Rattle.zy_evidence.specs.declared.rule.Rule.TheVariants as rules
use Rattle.zy_evidence.proofs.TestLemmas.{all_of, none_of, where_zero, Clear, all_kept, and_first}
use Rattle.zy_evidence.proofs.ItselfLemmas.{itself_clear}

abbrev Point : Type 0
Point = View × Place × Digest

-- ---- points

point_parts : (a b : Point) → a.0 ≡ b.0 → a.1 ≡ b.1 → a.2 ≡ b.2 → a ≡ b
point_parts a b view place head = λ i. (view i, place i, head i)

at_point : (point : Point) (found : Result Point Cause) → Decides (is_certified_at point found) (found ≡ Ok point)
at_point point (Err cause) = (λ is. absurd cc, λ is. absurd cc)
at_point point (Ok found) =
    Decides-like _
    (λ h. ap Ok (point_parts found point h.0 h.1.0 h.1.1))
    (λ is. let same : found ≡ point = cc in (ap (λ (p : Point). p.0) same, (ap (λ (p : Point). p.1) same, ap (λ (p : Point). p.2) same)))
    (Decides-and _ _ (view-equal found.0 point.0) (Decides-and _ _ (place-equal found.1 point.1) (digest-equal found.2 point.2)))

-- a certificate for a point is found by the test
module _ {S : Type 0} (same : S → S → Bool) (equal : (x y : S) → Decides (same x y) (x ≡ y)) (at : S → Point) (count : ℕ) (some : 0 < count) (list : List (Signed S)) where
  certificate_at : (point : Point) → Decides (is_certified_at point (certified same at count list)) (IsCertificate at count list point)
  certificate_at point =
      Decides-like _ (certified-taken same equal at count list point) (certified-found same equal at count list point some) (at_point point (certified same at count list))

  certificate_in : (view : View) → Decides (is_of_view view (certified same at count list)) ((place : Place) × (head : Digest) × IsCertificate at count list (view, place, head))
  certificate_in view = by (certified same at count list) refl
    where
      by : (found : Result Point Cause) → certified same at count list ≡ found → Decides (is_of_view view found) ((place : Place) × (head : Digest) × IsCertificate at count list (view, place, head))
      by (Err cause) is = (λ told. absurd cc, λ has. absurd (let wrong = sym is ∙ certified-found same equal at count list (view, has.0, has.1) some has.2 in cc))
      by (Ok point) is =
          Decides-like _
          (λ own. (point.1, point.2, certified-taken same equal at count list (view, point.1, point.2) (is ∙ ap Ok (point_parts point (view, point.1, point.2) own refl refl))))
          (λ has. let one : Ok point ≡ Ok (view, has.0, has.1) = sym is ∙ certified-found same equal at count list (view, has.0, has.1) some has.2 in let same : point ≡ (view, has.0, has.1) = cc in ap (λ (p : Point). p.0) same)
          (view-equal point.0 view)

-- ---- each rule

module _ (counts : Counts) (t : Told) where
  some_cert : 0 < counts.cert
  some_cert = omega (arith, counts.sound.two_certificates)

  some_local : 0 < counts.local
  some_local = omega (arith, counts.sound.local_and_change, counts.sound.change_in_reach)

  first_begin : Decides (is_first_begin t) (IsFirstBegin t)
  first_begin =
      Decides-like _ (λ h. record { place = h.0; head = h.1.0; unconfirmed = h.1.1 }) (λ r. (r.place, (r.head, r.unconfirmed)))
      (Decides-and _ _ (Decides-eqb t.began_place.0 0) (Decides-and _ _ (digest-equal t.began_head empty_head) (none_of t.began)))

  began_proven : Decides (is_began_proven counts t) (IsBeganProven counts t)
  began_proven =
      Decides-like _ (λ h. record { first = h.0; later = h.1 }) (λ r. (r.first, r.later))
      (where_zero t.last_view.0 _ _ first_begin (certificate_at same_began began-equal point_of_began counts.cert some_cert t.began (t.last_view, t.began_place, t.began_head)))

  first_stable : Decides (is_first_stable t) (IsFirstStable t)
  first_stable =
      Decides-like _ (λ h. record { view = h.0; head = h.1.0; unproven = h.1.1 }) (λ r. (r.view, (r.head, r.unproven)))
      (Decides-and _ _ (Decides-eqb t.stable_view.0 0) (Decides-and _ _ (digest-equal t.stable_head empty_head) (none_of t.checks)))

  stable_proven : Decides (is_stable_proven counts t) (IsStableProven counts t)
  stable_proven =
      Decides-like _
      (λ h. record { first = h.0; later = λ other. (let both = h.1 other in record { certificate = both.0; state = both.1 }) })
      (λ r. (r.first, λ other. (let checkpoint = r.later other in (checkpoint.certificate, checkpoint.state))))
      (where_zero t.stable_place.0 _ _ first_stable
      (Decides-and _ _
      (certificate_at same_check check-equal point_of_check counts.local some_local t.checks (t.stable_view, t.stable_place, t.stable_head))
      (all_of (λ c. _) (λ c. c.stmt.state ≡ t.state) (λ c. digest-equal c.stmt.state t.state) t.checks)))

  spec_proven : (view : View) (o : Option (List (Signed Spec))) → Decides (is_spec_proven counts view o) ((specs : List (Signed Spec)) → o ≡ Some specs → IsSpecProven counts view specs)
  spec_proven view None = (λ is specs told. absurd cc, λ is. refl)
  spec_proven view (Some list) =
      Decides-like _
      (λ h specs told. subst (IsSpecProven counts view) (same_Some list specs told) (record { place = h.0; head = h.1; certificate = h.2 }))
      (λ all. let own = all list refl in (own.place, own.head, own.certificate))
      (certificate_in same_spec spec-equal point_of_spec counts.cert some_cert list view)

-- ---- all rules

or_clear : {P Q : Type 0} → (a : Option Rule) (b : Option ReportRule) → Clear a P → Clear b Q → Clear (rule_or a b) (P × Q)
or_clear (Some rule) b first second = (λ is. absurd cc, λ both. absurd (let wrong = first.1 both.0 in cc))
or_clear None (Some rule) first second = (λ is. absurd cc, λ both. absurd (let wrong = second.1 both.1 in cc))
or_clear None None first second = (λ is. (first.0 refl, second.0 refl), λ both. refl)

pub all_clear : (counts : Counts) (interval : ℕ) (c : Signed Change) → Clear (rule_of counts interval c.stmt) (IsWellFormedChange counts interval c)
all_clear counts interval c =
    let t : Told = c.stmt.told in
    let proofs =
    and_first _ rules.LastView _ (Decides-ltb t.last_view.0 c.stmt.view.0)
    (and_first _ rules.Began _ (began_proven counts t)
    (and_first _ rules.Spec _ (spec_proven counts t t.last_view t.specs)
    (and_first _ rules.Stable _ (stable_proven counts t) all_kept))) in
    let all = or_clear _ _ proofs (itself_clear interval (number_of_party c.by) t) in (
      λ is. (let h = all.0 is in record { last = h.0.0; began = h.0.1.0; spec = h.0.1.1.0; stable = h.0.1.1.1.0; itself = h.1 }),
      λ w. all.1 ((w.last, (w.began, (w.spec, (w.stable, tt)))), w.itself),
    )
