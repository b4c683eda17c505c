-- The greatest place at which two stretches have one head.
use Rattle.std.proofs.Common.{◌≡◌, ℕ, zero, suc, ◌-◌, ◌≤◌, nat_lt, Bool, true, false, cond, take, Option, Some, None, refl, sym, ap, ◌∙◌, subst, arith}
use Rattle.std.proofs.lemmas.Bool.{le-ltb, ltb-false, ltb-true}
use Rattle.std.proofs.lemmas.Option.{same_Some}
use Rattle.zy_base.specs.declared.ids.Digest.{Digest}
use Rattle.zy_cert.specs.Equal.{digest-equal, same_digest}
use Rattle.zy_chain.specs.Heads.{head_from}
use Rattle.zy_chain.specs.Stretch.{Stretch, end_of, head_in}
use Rattle.zy_table.specs.Adopting.{common_up_to, same_head}
use Rattle.zy_law_views.specs.Adopted.{HaveBoth}

pub same_itself : (d : Digest) → same_digest d d ≡ true
same_itself d = (digest-equal d d).1 refl

-- the head at the base
pub head_at_base : (s : Stretch) → head_in s s.base.place ≡ Some s.base.head
head_at_base s =
    let none : s.base.place - s.base.place ≡ 0 = omega arith in
    rw (le-ltb s.base.place s.base.place (omega arith), le-ltb (end_of s) s.base.place (omega arith))
    (ap (λ (n : ℕ). Some (head_from s.base.head (take n s.entries))) none)

both_of : (a b : Option Digest) → same_head a b ≡ true → (d : Digest) × (a ≡ Some d) × (b ≡ Some d)
both_of None b is = absurd cc
both_of (Some a) None is = absurd cc
both_of (Some a) (Some b) is = (a, refl, ap (λ (d : Digest). Some d) (sym ((digest-equal a b).0 is)))

same_of : (a b : Option Digest) (d : Digest) → a ≡ Some d → b ≡ Some d → same_head a b ≡ true
same_of None b d first second = absurd cc
same_of (Some a) None d first second = absurd cc
same_of (Some a) (Some b) d first second = (digest-equal a b).1 (same_Some a d first ∙ sym (same_Some b d second))

below_step : (p : ℕ) (told own : Stretch) (b : Bool) → common_up_to p told own ≤ p → cond b (suc p) (common_up_to p told own) ≤ suc p
below_step p told own true low = omega arith
below_step p told own false low = omega arith

pub common_below : (p : ℕ) (told own : Stretch) → common_up_to p told own ≤ p
common_below zero told own = omega arith
common_below (suc p) told own = below_step p told own (same_head (head_in told (suc p)) (head_in own (suc p))) (common_below p told own)

-- where they share a place, they share the greatest one
shared_step : (p place : ℕ) (told own : Stretch) (head : Digest) (b : Bool) → same_head (head_in told (suc p)) (head_in own (suc p)) ≡ b → place ≤ suc p → HaveBoth told own place head
    → (place ≤ p → (d : Digest) × HaveBoth told own (common_up_to p told own) d) → (d : Digest) × HaveBoth told own (cond b (suc p) (common_up_to p told own)) d
shared_step p place told own head true same low both rest = let d = both_of (head_in told (suc p)) (head_in own (suc p)) same in (d.0, record { first = d.1; second = d.2 })
shared_step p place told own head false same low both rest = by (nat_lt place (suc p)) refl
  where
    at : place ≡ suc p → ⊥
    at here =
        let passes = same_of (head_in told (suc p)) (head_in own (suc p)) head (ap (head_in told) (sym here) ∙ both.first) (ap (head_in own) (sym here) ∙ both.second) in
        absurd cc

    by : (less : Bool) → nat_lt place (suc p) ≡ less → (d : Digest) × HaveBoth told own (common_up_to p told own) d
    by true less = let below = ltb-true _ _ less in rest (omega arith)
    by false more = let above = ltb-false _ _ more in absurd (at (omega arith))

pub common_shared : (p place : ℕ) (told own : Stretch) (head : Digest) → place ≤ p → HaveBoth told own place head → (d : Digest) × HaveBoth told own (common_up_to p told own) d
common_shared zero place told own head low both = let none : place ≡ 0 = omega arith in (head, subst (λ (n : ℕ). HaveBoth told own n head) none both)
common_shared (suc p) place told own head low both =
    shared_step p place told own head (same_head (head_in told (suc p)) (head_in own (suc p))) refl low both (λ less. common_shared p place told own head less both)
