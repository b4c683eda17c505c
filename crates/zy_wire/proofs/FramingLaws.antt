-- What is decoded was spelled so and is in range, and what was spelled is decoded again.
use Rattle.std.proofs.Common.{◌≡◌, ℕ, ◌≤◌, Bool, true, false, cond, List, [], ◌∷◌, ◌++◌, length, drop, Result, Ok, Err, IfOk, refl, sym, ap, subst, ◌∙◌}
use Rattle.std.proofs.lemmas.Bool.{ltb-false}
use Rattle.std.proofs.lemmas.List.{append-nil}
use Rattle.zy_base.specs.declared.frame_fault.FrameFault.{FrameFault}
use Rattle.zy_base.specs.declared.frame_fault.FrameFault.TheVariants.{TooLong}
use Rattle.zy_wire.specs.declared.get_fault.GetFault.{GetFault}
use Rattle.zy_wire.specs.Spelling.{◌>>=◌, IsBytes, ended}
use Rattle.zy_wire.specs.Getting.{Decodes}
use Rattle.zy_wire.specs.Kind.{frame_version, frame_limit, kind_in, kind_of_parts}
use Rattle.zy_wire.specs.Framing.{frame_bytes, framed_in, IsFraming}
use Rattle.zy_wire.proofs.Parts.{bind_ok, bind_at, ok_is, IsBytes-after, ended_ok}
use Rattle.zy_wire.proofs.KindLaws.{kind_takes, kind_again}

not_long : (b : Bool) (r : Result ℕ FrameFault) (k : ℕ) → cond b (Err TooLong) r ≡ Ok k → b ≡ false
not_long true r k e = absurd cc
not_long false r k e = refl

module _ {A : Type 0} (kind : A → ℕ) (fields : A → List ℕ) (Fits InRange : A → Type 0) (at : ℕ → List ℕ → Result (A × List ℕ) FrameFault) (laws : IsFraming kind fields Fits InRange at) where
  decoded_takes : (bytes : List ℕ) (x : A) → IsBytes bytes → framed_in at bytes ≡ Ok x → Fits x × (bytes ≡ frame_bytes kind fields x) × (length bytes ≤ frame_limit)
  unfolding framed_in
  decoded_takes bytes x fits e =
      let a = bind_ok (kind_in bytes) (λ k. at k (drop 2 bytes) >>= λ read. ended read.0 read.1) x e in
      let b = bind_ok (at a.0 (drop 2 bytes)) (λ read. ended read.0 read.1) x a.2 in
      let c = ended_ok b.0.0 b.0.1 x b.2 in
      let front = kind_takes bytes a.0 a.1 in
      let t = laws.choice.takes a.0 (drop 2 bytes) b.0.0 b.0.1 (IsBytes-after bytes (frame_version ∷ a.0 ∷ []) (drop 2 bytes) fits front) b.1 in
      let all : drop 2 bytes ≡ fields b.0.0 = t.1 ∙ ap (λ (r : List ℕ). fields b.0.0 ++ r) c.1 ∙ append-nil (fields b.0.0) in
      let parts : bytes ≡ frame_bytes kind fields b.0.0 = front ∙ ap (λ (k : ℕ). frame_version ∷ k ∷ drop 2 bytes) (sym t.0) ∙ ap (λ (r : List ℕ). frame_version ∷ kind b.0.0 ∷ r) all in
      let short : length bytes ≤ frame_limit = ltb-false _ _ (not_long _ (kind_of_parts bytes) a.0 a.1) in
      subst (λ (y : A). Fits y × (bytes ≡ frame_bytes kind fields y) × (length bytes ≤ frame_limit)) c.0 (t.2, parts, short)

  decoded_again : (x : A) → Fits x → length (frame_bytes kind fields x) ≤ frame_limit → framed_in at (frame_bytes kind fields x) ≡ Ok x
  unfolding framed_in
  decoded_again x fits short =
      let one = kind_again (kind x) (fields x) (laws.least x) (laws.most x) short in
      let two : at (kind x) (fields x) ≡ Ok (x, []) = subst (λ (r : List ℕ). at (kind x) r ≡ Ok (x, [])) (append-nil (fields x)) (laws.choice.again x [] fits) in
      bind_at (kind_in (frame_bytes kind fields x)) (λ k. at k (fields x) >>= λ read. ended read.0 read.1) (kind x) one ∙ bind_at (at (kind x) (fields x)) (λ read. ended read.0 read.1) _ two

  -- no spelling begins another
  pub one_frame : (x y : A) (behind after : List ℕ) → Fits x → Fits y → frame_bytes kind fields x ++ behind ≡ frame_bytes kind fields y ++ after → (x ≡ y) × (behind ≡ after)
  one_frame x y behind after x_fits y_fits e =
      let kinds : kind x ≡ kind y = cc in
      let same_fields : fields x ++ behind ≡ fields y ++ after = cc in
      let same = ok_is _ _ (sym (laws.choice.again x behind x_fits) ∙ ap (at (kind x)) same_fields ∙ ap (λ (k : ℕ). at k (fields y ++ after)) kinds ∙ laws.choice.again y after y_fits) in
      (ap (λ (p : A × List ℕ). p.0) same, ap (λ (p : A × List ℕ). p.1) same)

  -- ---- what decoding answers

  pub answer_takes : (r : Result A GetFault) (bytes : List ℕ) → IsBytes bytes → Decodes r (framed_in at bytes) → IfOk r (λ x. Fits x × (bytes ≡ frame_bytes kind fields x) × (length bytes ≤ frame_limit))
  answer_takes (Ok x) bytes fits e = decoded_takes bytes x fits e
  answer_takes (Err e) bytes fits h = tt

  pub answer_in_range : (r : Result A GetFault) (bytes : List ℕ) → IsBytes bytes → Decodes r (framed_in at bytes) → IfOk r InRange
  answer_in_range (Ok x) bytes fits e = laws.ranges x (decoded_takes bytes x fits e).0
  answer_in_range (Err e) bytes fits h = tt

  pub answer_again : (r : Result A GetFault) (bytes : List ℕ) → Decodes r (framed_in at bytes) → (x : A) → Fits x → bytes ≡ frame_bytes kind fields x → length bytes ≤ frame_limit → Decodes r (Ok x)
  answer_again r bytes read x fits e short =
      let short' : length (frame_bytes kind fields x) ≤ frame_limit = subst (λ (b : List ℕ). length b ≤ frame_limit) e short in
      subst (λ (d : Result A FrameFault). Decodes r d) (ap (framed_in at) e ∙ decoded_again x fits short') read
