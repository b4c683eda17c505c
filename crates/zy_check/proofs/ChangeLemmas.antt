-- A board of which one round was changed is the board with the round of that place changed.
use Rattle.std.proofs.Common.{◌≡◌, ℕ, ◌*◌, Result, Ok, Err, OnOk, OnErr, subst, sym, ◌∙◌}
use Rattle.std.proofs.lemmas.Bool.{cond-true, cond-false, eq-eqb, ne_eqb}
use Rattle.zy_check.specs.Board.{Board, Round, height, with_round, IsBoard}

module _ (b' b : Board) (same : b' ≡ b) (place above : ℕ) (above-is : above ≡ height b place) (change : Round → Round) where
  above' : above ≡ height b' place
  above' = subst (λ (x : Board). above ≡ height x place) (sym same) above-is

  at_same : (c : Board) → c ≡ with_round b' place change → c ≡ with_round b place change
  at_same c e = subst (λ (x : Board). c ≡ with_round x place change) same e

  -- ---- one interval above the stable place

  near-here : above ≡ b'.interval → with_round b' place change ≡ record b' { near = change b'.near }
  near-here here = cond-true _ _ _ (eq-eqb _ _ (sym above' ∙ here))

  pub near-changed : (near : Round) → above ≡ b'.interval → near ≡ change b'.near → record b' { near = near } ≡ with_round b place change
  near-changed near here e = at_same (record b' { near = near }) (rw e (sym (near-here here)))

  pub near-kept : {T E : Type 0} (r : Result T E) (near : Round) → above ≡ b'.interval → OnOk r (near ≡ change b'.near) → OnOk r (record b' { near = near } ≡ with_round b place change)
  near-kept (Ok x) near here e = near-changed near here e
  near-kept (Err x) near here e = tt

  pub near-closed : {T E : Type 0} (r : Result T E) (near : Round) → above ≡ b'.interval → OnOk r (near ≡ change b'.near) → OnErr r (near ≡ b'.near) → IsBoard b' → IsBoard (with_round b place change) → IsBoard (record b' { near = near })
  near-closed (Ok x) near here ok err is is' = subst IsBoard (sym (near-changed near here ok)) is'
  near-closed (Err x) near here ok err is is' = subst (λ n. IsBoard (record b' { near = n })) (sym err) is

  -- ---- two intervals above it

  far-here : (above ≡ b'.interval → ⊥) → above ≡ 2 * b'.interval → with_round b' place change ≡ record b' { far = change b'.far }
  far-here not_near here = cond-false _ _ _ (ne_eqb _ _ (λ e. not_near (above' ∙ e))) ∙ cond-true _ _ _ (eq-eqb _ _ (sym above' ∙ here))

  pub far-changed : (far : Round) → (above ≡ b'.interval → ⊥) → above ≡ 2 * b'.interval → far ≡ change b'.far → record b' { far = far } ≡ with_round b place change
  far-changed far not_near here e = at_same (record b' { far = far }) (rw e (sym (far-here not_near here)))

  pub far-kept : {T E : Type 0} (r : Result T E) (far : Round) → (above ≡ b'.interval → ⊥) → above ≡ 2 * b'.interval → OnOk r (far ≡ change b'.far) → OnOk r (record b' { far = far } ≡ with_round b place change)
  far-kept (Ok x) far not_near here e = far-changed far not_near here e
  far-kept (Err x) far not_near here e = tt

  pub far-closed : {T E : Type 0} (r : Result T E) (far : Round) → (above ≡ b'.interval → ⊥) → above ≡ 2 * b'.interval → OnOk r (far ≡ change b'.far) → OnErr r (far ≡ b'.far) → IsBoard b' → IsBoard (with_round b place change) → IsBoard (record b' { far = far })
  far-closed (Ok x) far not_near here ok err is is' = subst IsBoard (sym (far-changed far not_near here ok)) is'
  far-closed (Err x) far not_near here ok err is is' = subst (λ f. IsBoard (record b' { far = f })) (sym err) is

  -- ---- anywhere else

  pub none-changed : (above ≡ b'.interval → ⊥) → (above ≡ 2 * b'.interval → ⊥) → b ≡ with_round b place change
  none-changed not_near not_far =
      sym same ∙ at_same b' (sym (cond-false _ _ _ (ne_eqb _ _ (λ e. not_near (above' ∙ e))) ∙ cond-false _ _ _ (ne_eqb _ _ (λ e. not_far (above' ∙ e)))))
