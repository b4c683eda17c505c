-- A report with the greatest last view has what is chosen.
use Rattle.std.proofs.Common.{◌≡◌, ℕ, zero, suc, ◌-◌, ◌<◌, ◌≤◌, ◌==◌, ◌&&◌, ◌⊎◌, inl, inr, true, List, length, take, fold, All, Any, Contains, get_or, Option, Some, None, IfSome, option_to_list, ap, sym, subst, arith}
use Rattle.std.proofs.lemmas.Bool.{and_from, eq-eqb}
use Rattle.zy_base.specs.declared.ids.Digest.{Digest}
use Rattle.zy_chain.specs.declared.entry.Entry.{Entry}
use Rattle.zy_chain.specs.Stretch.{Mark, Stretch}
use Rattle.zy_choose.specs.Choice.{IsAnchor, IsPicked, last_in, provider_of}
use Rattle.zy_choose.specs.Choice.IsPicked.{agreed, anchored}
use Rattle.zy_choose.specs.Marks.{Has, has_mark, link}
use Rattle.zy_choose.specs.Reports.{PlainReport, proven}
use Rattle.zy_choose.specs.Rules.{Fits}
use Rattle.zy_choose.proofs.ChoiceLemmas.{agreed_has, of_filtered, position_there}
use Rattle.zy_choose.proofs.MarkLemmas.{Has-has_mark}

in_option : (told : Option Mark) (k : ℕ) (m : Mark) → k < length (option_to_list told) → get_or (option_to_list told) k m ≡ m → told ≡ Some m
in_option None k m within is = absurd (omega arith)
in_option (Some x) zero m within is = ap (λ (y : Mark). Some y) is
in_option (Some x) (suc k) m within is = absurd (omega arith)

-- a proven mark is the stable one, the one with which the view began, or that of the certificate
pub proven_cases : (r : PlainReport) (m : Mark) → Contains (proven r) m → (m ≡ r.stretch.base) ⊎ ((m ≡ r.began) ⊎ (r.spec ≡ Some m))
proven_cases r m (zero, within, is) = inl (sym is)
proven_cases r m (suc zero, within, is) = inr (inl (sym is))
proven_cases r m (suc (suc k), within, is) = inr (inr (in_option r.spec k m (omega arith) is))

-- a stretch has its base
Has-base : (next : Digest → Entry → Digest) (s : Stretch) → Has next s s.base
Has-base next s =
    let none : s.base.place - s.base.place ≡ 0 = omega arith in
    record {
      above = omega arith;
      below = omega arith;
      head = ap (λ (n : ℕ). fold next s.base.head (take n s.entries)) none;
    }

-- a report has each mark that it proves and that isn't below its base
proven_has : (r : PlainReport) (m : Mark) → Contains (proven r) m → r.stretch.base.place ≤ m.place → Fits r.stretch r.began → IfSome r.spec (Fits r.stretch) → Has link r.stretch m
proven_has r m proves above began spec =
    elim (proven_cases r m proves) [
      | inl stable ↦ subst (λ (x : Mark). Has link r.stretch x) (sym stable) (Has-base link r.stretch)
      | inr (inl is) ↦ subst (λ (x : Mark). Has link r.stretch x) (sym is) (began.shared (subst (λ (x : Mark). r.stretch.base.place ≤ x.place) is above))
      | inr (inr is) ↦ (let fits = subst (λ (told : Option Mark). IfSome told (Fits r.stretch)) is spec in fits.shared above)
    ]

-- so the provider is there
pub provided : (agree view : ℕ) (reports : List PlainReport) (anchor m : Mark) → 0 < agree
    → IsAnchor (last_in view reports) anchor → IsPicked link agree (last_in view reports) anchor m
    → All (λ r. Fits r.stretch r.began) reports → All (λ r. IfSome r.spec (Fits r.stretch)) reports
    → provider_of link view m reports ≡ None → ⊥
provided agree view reports anchor m some is_anchor picked began spec none =
    position_there (λ r. (r.last_view == view) && has_mark link r.stretch m) reports (passes picked) none
  where
    passes : IsPicked link agree (last_in view reports) anchor m → Any (λ r. ((r.last_view == view) && has_mark link r.stretch m) ≡ true) reports
    passes (agreed is furthest) =
        let (k, r, within, here, told) = agreed_has link agree view reports anchor m some is in
        (k, r, within, here, and_from (r.last_view == view) (has_mark link r.stretch m) (eq-eqb r.last_view view told.0) (Has-has_mark link r.stretch m told.2))
    passes (anchored nothing same) =
        let (i, x, inside, at, proves) = is_anchor.proved in
        let furthest = subst (λ (r : PlainReport). All (λ other. other.place ≤ anchor.place) (proven r)) at (is_anchor.furthest i x inside) in
        let (k, r, within, here, told) =
        of_filtered (λ r. Contains (proven r) anchor × (r.stretch.base.place ≤ anchor.place)) (λ (r : PlainReport). r.last_view == view) reports
        (i, x, inside, at, (proves, furthest 0 anchor (omega arith))) in
        let has = proven_has r anchor told.1.0 told.1.1
        (subst (λ (r : PlainReport). Fits r.stretch r.began) here (began k r within))
        (subst (λ (r : PlainReport). IfSome r.spec (Fits r.stretch)) here (spec k r within)) in
        (k, r, within, here, and_from (r.last_view == view) (has_mark link r.stretch m) told.0 (Has-has_mark link r.stretch m (subst (λ (x : Mark). Has link r.stretch x) (sym same) has)))
