-- The laws of values of several kinds, one kind at a time.
use Rattle.std.proofs.Common.{◌≡◌, ℕ, Bool, true, false, cond, eqb, List, ◌++◌, Result, Ok, Err, refl, sym, ap, subst, ◌∙◌}
use Rattle.std.proofs.lemmas.Bool.{eqb-true}
use Rattle.zy_base.specs.declared.frame_fault.FrameFault.{FrameFault}
use Rattle.zy_wire.specs.Spelling.{Spelling, IsBytes, IsExact, made}
use Rattle.zy_wire.proofs.Parts.{bind_ok, bind_at, ok_is}

module _ {A : Type 0} (kind : A → ℕ) (spell : A → List ℕ) (Fits : A → Type 0) where
  -- what a reader of this kind takes
  abbrev pub Takes : ℕ → (List ℕ → Result (A × List ℕ) FrameFault) → Type 0
  Takes k read = (bytes : List ℕ) (x : A) (rest : List ℕ) → IsBytes bytes → read bytes ≡ Ok (x, rest) → (kind x ≡ k) × (bytes ≡ spell x ++ rest) × Fits x

  -- a kind that isn't known
  pub Takes-none : (k : ℕ) (fault : FrameFault) → Takes k (λ bytes. Err fault)
  Takes-none k fault bytes x rest fits e = absurd cc

  module _ {B : Type 0} (make : B → A) (S : Spelling B) (exact : IsExact S) (k : ℕ) (is_kind : (y : B) → kind (make y) ≡ k) (is_spelled : (y : B) → spell (make y) ≡ S.spell y) (is_fit : (y : B) → S.Fits y → Fits (make y)) where
    made_takes : Takes k (made make S)
    made_takes bytes x rest fits e =
        let a = bind_ok (S.at bytes) (λ y. Ok (make y.0, y.1)) (x, rest) e in
        let t = exact.takes bytes a.0.0 a.0.1 fits a.1 in
        let parts : bytes ≡ spell (make a.0.0) ++ a.0.1 = t.0 ∙ ap (λ (r : List ℕ). r ++ a.0.1) (sym (is_spelled a.0.0)) in
        subst (λ (p : A × List ℕ). (kind p.0 ≡ k) × (bytes ≡ spell p.0 ++ p.1) × Fits p.0) (ok_is _ _ a.2) (is_kind a.0.0, parts, is_fit a.0.0 t.1)

    takes_by : (b : Bool) (other : List ℕ → Result (A × List ℕ) FrameFault) (n : ℕ) → eqb n k ≡ b → Takes n other → Takes n (λ bytes. cond b (made make S bytes) (other bytes))
    takes_by true other n same rest bytes x after fits e = let t = made_takes bytes x after fits e in (t.0 ∙ sym (eqb-true n k same), t.1, t.2)
    takes_by false other n same rest bytes x after fits e = rest bytes x after fits e

    -- one kind before the others
    pub Takes-or : (n : ℕ) (other : List ℕ → Result (A × List ℕ) FrameFault) → Takes n other → Takes n (λ bytes. cond (eqb n k) (made make S bytes) (other bytes))
    Takes-or n other rest = takes_by (eqb n k) other n refl rest

-- what was spelled of one kind is read again
pub made_again : {A B : Type 0} (make : B → A) (S : Spelling B) (exact : IsExact S) (y : B) (rest : List ℕ) → S.Fits y → made make S (S.spell y ++ rest) ≡ Ok (make y, rest)
made_again make S exact y rest fits = bind_at (S.at (S.spell y ++ rest)) (λ x. Ok (make x.0, x.1)) _ (exact.again y rest fits)
