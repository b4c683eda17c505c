-- The laws of the parts that all fields are made of: what is read was spelled so, and what was spelled is read again.
use Rattle.std.proofs.Common.{◌≡◌, ℕ, zero, suc, ◌+◌, ◌*◌, ◌^◌, ◌<◌, ◌≤◌, Bool, true, false, cond, ltb, List, [], ◌∷◌, ◌++◌, length, take, drop, Option, Some, None, Result, Ok, Err, refl, sym, ap, subst, ◌∙◌, append_assoc, arith, inl, inr}
use Rattle.std.specs.Int.{Width, w8, w16, w32, w64, byte_len, from_be_bytes, to_be_bytes}
use Rattle.std.specs.List.{flat_map, AllByRecursion}
use Rattle.std.proofs.lemmas.Bool.Decides.{nat_tests}
use Rattle.std.proofs.lemmas.Bool.{cases_lt, ltb-false, le-ltb}
use Rattle.std.proofs.lemmas.List.{take_at, drop_at, take-append-drop, length-append, length-take, get_or-take, get_or_past, get_or-append-add, append-nil}
use Rattle.std.proofs.lemmas.List.Concat.{flat_map-cons}
use Rattle.std.proofs.lemmas.Nat.{be_bytes_2, be_bytes_4, be_bytes_8, from_be_bytes-to_be_bytes_2, from_be_bytes-to_be_bytes_4, from_be_bytes-to_be_bytes_8}
use Rattle.zy_base.specs.declared.frame_fault.FrameFault.{FrameFault}
use Rattle.zy_base.specs.declared.frame_fault.FrameFault.TheVariants.{Short}
use Rattle.zy_wire.specs.Spelling.{◌>>=◌, Spelling, IsBytes, IsExact, ended, whole, bytes_of, word_at, word, exactly_at, exactly, pair, converted, or_range, refined, within, number_at, number, counted, repeated_at, repeated}

-- ---- bytes

pub IsBytes-right : (a b : List ℕ) → IsBytes (a ++ b) → IsBytes b
IsBytes-right a b h i = subst (λ (n : ℕ). n < 256) (get_or-append-add a b i 0) (h (length a + i))

pub IsBytes-after : (bytes a b : List ℕ) → IsBytes bytes → bytes ≡ a ++ b → IsBytes b
IsBytes-after bytes a b h e = IsBytes-right a b (subst (λ (x : List ℕ). IsBytes x) e h)

IsBytes-take : (n : ℕ) (bytes : List ℕ) → IsBytes bytes → IsBytes (take n bytes)
IsBytes-take n bytes h i =
    elim (cases_lt i n) [
      | inl lt ↦ rw (get_or-take n bytes i 0 lt) (h i)
      | inr le ↦ rw (get_or_past (take n bytes) i 0 (omega (arith, length-take n bytes))) (omega arith)
    ]

-- ---- steps

-- the value of a step that did not fail
pub bind_ok : {A B : Type 0} (r : Result A FrameFault) (f : A → Result B FrameFault) (y : B) → (r >>= f) ≡ Ok y → (x : A) × (r ≡ Ok x) × (f x ≡ Ok y)
bind_ok (Ok x) f y e = (x, refl, e)
bind_ok (Err d) f y e = absurd cc

-- a test that did not fail
pub guard_ok : {A : Type 0} (b : Bool) (d : FrameFault) (x y : A) → cond b (Err d) (Ok x) ≡ Ok y → (b ≡ false) × (x ≡ y)
guard_ok true d x y e = absurd cc
guard_ok false d x y e = (refl, cc)

abbrev done : {A : Type 0} → A → Result A FrameFault
done x = Ok x

pub ok_is : {A : Type 0} (x y : A) → done x ≡ done y → x ≡ y
ok_is x y e = cc

-- a step that did not fail goes on with its value
pub bind_at : {A B : Type 0} (r : Result A FrameFault) (f : A → Result B FrameFault) (x : A) → r ≡ Ok x → (r >>= f) ≡ f x
bind_at (Ok y) f x e = ap f (ok_is y x e)
bind_at (Err d) f x e = absurd cc

-- ---- numbers

-- what a width's bytes keep
pub record IsWide (w : Width) : Type 0 where
  pub len : (n : ℕ) → length (to_be_bytes w n) ≡ byte_len w
  pub back : (bytes : List ℕ) → length bytes ≡ byte_len w → IsBytes bytes → to_be_bytes w (from_be_bytes w bytes) ≡ bytes
  pub same : (n : ℕ) → n < 2 ^ (8 * byte_len w) → from_be_bytes w (to_be_bytes w n) ≡ n
  pub below : (bytes : List ℕ) → IsBytes bytes → from_be_bytes w bytes < 2 ^ (8 * byte_len w)

one_byte : (bytes : List ℕ) → length bytes ≡ 1 → IsBytes bytes → to_be_bytes w8 (from_be_bytes w8 bytes) ≡ bytes
one_byte [] e h = absurd (omega arith)
one_byte (b ∷ []) e h = ap (λ (n : ℕ). n ∷ []) (omega (arith, h 0))
one_byte (b ∷ c ∷ bytes) e h = absurd (omega arith)

pub wide8 : IsWide w8
wide8 = record {
  len = λ n. refl;
  back = one_byte;
  same = λ n lt. omega arith;
  below = λ bytes fits. omega (arith, fits 0);
}

pub wide16 : IsWide w16
wide16 = record {
  len = λ n. refl;
  back = λ bytes len fits. be_bytes_2 bytes _ len fits refl;
  same = λ n lt. from_be_bytes-to_be_bytes_2 n lt;
  below = λ bytes fits. omega (arith, fits 0, fits 1);
}

pub wide32 : IsWide w32
wide32 = record {
  len = λ n. refl;
  back = λ bytes len fits. be_bytes_4 bytes _ len fits refl;
  same = λ n lt. from_be_bytes-to_be_bytes_4 n lt;
  below = λ bytes fits. omega (arith, fits 0, fits 1, fits 2, fits 3);
}

pub wide64 : IsWide w64
wide64 = record {
  len = λ n. refl;
  back = λ bytes len fits. be_bytes_8 bytes _ len fits refl;
  same = λ n lt. from_be_bytes-to_be_bytes_8 n lt;
  below = λ bytes fits. omega (arith, fits 0, fits 1, fits 2, fits 3, fits 4, fits 5, fits 6, fits 7);
}

pub exactly-exact : (n : ℕ) → IsExact (exactly n)
unfolding exactly_at
exactly-exact n = record {
  takes = λ bytes x rest fits e.
      let g = guard_ok (ltb (length bytes) n) Short (take n bytes, drop n bytes) (x, rest) e in
      let long : n ≤ length bytes = ltb-false _ _ g.0 in
      let len : length (take n bytes) ≡ n = omega (arith, length-take n bytes) in
      subst (λ (p : List ℕ × List ℕ). (bytes ≡ p.0 ++ p.1) × (length p.0 ≡ n)) g.1 (sym (take-append-drop n bytes), len);
  again = λ x rest len.
      let long : ltb (length (x ++ rest)) n ≡ false = le-ltb _ _ (omega (arith, length-append x rest)) in
      rw (long, take_at x rest n len, drop_at x rest n len) refl;
}

pub word-exact : (w : Width) → IsWide w → IsExact (word w)
unfolding word_at bytes_of
word-exact w wide = record {
  takes = λ bytes n rest fits e.
      let g = guard_ok (ltb (length bytes) (byte_len w)) Short (from_be_bytes w (take (byte_len w) bytes), drop (byte_len w) bytes) (n, rest) e in
      let long : byte_len w ≤ length bytes = ltb-false _ _ g.0 in
      let front : to_be_bytes w (from_be_bytes w (take (byte_len w) bytes)) ≡ take (byte_len w) bytes = wide.back (take (byte_len w) bytes) (omega (arith, length-take (byte_len w) bytes)) (IsBytes-take (byte_len w) bytes fits) in
      let parts : bytes ≡ to_be_bytes w (from_be_bytes w (take (byte_len w) bytes)) ++ drop (byte_len w) bytes = sym (ap (λ (x : List ℕ). x ++ drop (byte_len w) bytes) front ∙ take-append-drop (byte_len w) bytes) in
      subst (λ (p : ℕ × List ℕ). (bytes ≡ to_be_bytes w p.0 ++ p.1) × (p.0 < 2 ^ (8 * byte_len w))) g.1 (parts, wide.below (take (byte_len w) bytes) (IsBytes-take (byte_len w) bytes fits));
  again = λ n rest lt.
      let len = wide.len n in
      let long : ltb (length (to_be_bytes w n ++ rest)) (byte_len w) ≡ false = le-ltb _ _ (omega (arith, length-append (to_be_bytes w n) rest)) in
      rw (long, take_at (to_be_bytes w n) rest (byte_len w) len, drop_at (to_be_bytes w n) rest (byte_len w) len, wide.same n lt) refl;
}

-- ---- fields made of fields

module _ {A B : Type 0} (S : Spelling A) (T : Spelling B) (s : IsExact S) (t : IsExact T) where
  pair_takes : (bytes : List ℕ) (x : A × B) (rest : List ℕ) → IsBytes bytes → (pair S T).at bytes ≡ Ok (x, rest) → (bytes ≡ (pair S T).spell x ++ rest) × (pair S T).Fits x
  pair_takes bytes x rest fits e =
      let a = bind_ok (S.at bytes) (λ v. T.at v.1 >>= λ y. Ok ((v.0, y.0), y.1)) (x, rest) e in
      let b = bind_ok (T.at a.0.1) (λ y. Ok ((a.0.0, y.0), y.1)) (x, rest) a.2 in
      let first = s.takes bytes a.0.0 a.0.1 fits a.1 in
      let second = t.takes a.0.1 b.0.0 b.0.1 (IsBytes-after bytes (S.spell a.0.0) a.0.1 fits first.0) b.1 in
      let parts : bytes ≡ (S.spell a.0.0 ++ T.spell b.0.0) ++ b.0.1 = first.0 ∙ ap (λ (r : List ℕ). S.spell a.0.0 ++ r) second.0 ∙ sym (append_assoc (S.spell a.0.0) (T.spell b.0.0) b.0.1) in
      subst (λ (p : (A × B) × List ℕ). (bytes ≡ (pair S T).spell p.0 ++ p.1) × (pair S T).Fits p.0) (ok_is _ _ b.2) (parts, (first.1, second.1))

  pair_again : (x : A × B) (rest : List ℕ) → (pair S T).Fits x → (pair S T).at ((pair S T).spell x ++ rest) ≡ Ok (x, rest)
  pair_again x rest fits =
      let regrouped : (S.spell x.0 ++ T.spell x.1) ++ rest ≡ S.spell x.0 ++ (T.spell x.1 ++ rest) = append_assoc (S.spell x.0) (T.spell x.1) rest in
      let one = s.again x.0 (T.spell x.1 ++ rest) fits.0 in
      let two = t.again x.1 rest fits.1 in
      ap (pair S T).at regrouped ∙ bind_at (S.at (S.spell x.0 ++ (T.spell x.1 ++ rest))) (λ v. T.at v.1 >>= λ y. Ok ((v.0, y.0), y.1)) _ one ∙ bind_at (T.at (T.spell x.1 ++ rest)) (λ y. Ok ((x.0, y.0), y.1)) _ two

  pub pair-exact : IsExact (pair S T)
  pair-exact = record { takes = pair_takes; again = pair_again }

module _ {A B : Type 0} (make : A → Option B) (fields : B → A) (Fits : B → Type 0) (S : Spelling A) (s : IsExact S) (valid : (y : B) → Fits y → S.Fits (fields y) × (make (fields y) ≡ Some y)) (only : (x : A) (y : B) → S.Fits x → make x ≡ Some y → (fields y ≡ x) × Fits y) where
  or_range_ok : (o : Option B) (bytes rest : List ℕ) (y : B) → or_range o bytes ≡ Ok (y, rest) → (o ≡ Some y) × (bytes ≡ rest)
  or_range_ok None bytes rest y e = absurd cc
  or_range_ok (Some z) bytes rest y e =
      let same : (z, bytes) ≡ (y, rest) = ok_is (z, bytes) (y, rest) e in
      (ap (λ (p : B × List ℕ). Some p.0) same, ap (λ (p : B × List ℕ). p.1) same)

  refined_takes : (bytes : List ℕ) (y : B) (rest : List ℕ) → IsBytes bytes → (refined make fields Fits S).at bytes ≡ Ok (y, rest) → (bytes ≡ S.spell (fields y) ++ rest) × Fits y
  refined_takes bytes y rest fits e =
      let a = bind_ok (S.at bytes) (λ x. or_range (make x.0) x.1) (y, rest) e in
      let b = or_range_ok (make a.0.0) a.0.1 rest y a.2 in
      let first = s.takes bytes a.0.0 a.0.1 fits a.1 in
      let made = only a.0.0 y first.1 b.0 in
      (first.0 ∙ rw (made.0, b.1) refl, made.1)

  refined_again : (y : B) (rest : List ℕ) → Fits y → (refined make fields Fits S).at (S.spell (fields y) ++ rest) ≡ Ok (y, rest)
  refined_again y rest fits =
      let v = valid y fits in
      bind_at (S.at (S.spell (fields y) ++ rest)) (λ x. or_range (make x.0) x.1) _ (s.again (fields y) rest v.0) ∙ rw v.1 refl

  pub refined-exact : IsExact (refined make fields Fits S)
  refined-exact = record { takes = refined_takes; again = refined_again }

module _ {A B : Type 0} (make : A → B) (fields : B → A) (S : Spelling A) (s : IsExact S) (there : (y : B) → make (fields y) ≡ y) (back : (x : A) → fields (make x) ≡ x) where
  converted_takes : (bytes : List ℕ) (y : B) (rest : List ℕ) → IsBytes bytes → (converted make fields S).at bytes ≡ Ok (y, rest) → (bytes ≡ S.spell (fields y) ++ rest) × S.Fits (fields y)
  converted_takes bytes y rest fits e =
      let a = bind_ok (S.at bytes) (λ x. Ok (make x.0, x.1)) (y, rest) e in
      let first = s.takes bytes a.0.0 a.0.1 fits a.1 in
      let same = back a.0.0 in
      subst (λ (p : B × List ℕ). (bytes ≡ S.spell (fields p.0) ++ p.1) × S.Fits (fields p.0)) (ok_is _ _ a.2) (subst (λ (x : A). (bytes ≡ S.spell x ++ a.0.1) × S.Fits x) (sym same) first)

  converted_again : (y : B) (rest : List ℕ) → S.Fits (fields y) → (converted make fields S).at (S.spell (fields y) ++ rest) ≡ Ok (y, rest)
  converted_again y rest fits = bind_at (S.at (S.spell (fields y) ++ rest)) (λ x. Ok (make x.0, x.1)) _ (s.again (fields y) rest fits) ∙ rw (there y) refl

  pub converted-exact : IsExact (converted make fields S)
  converted-exact = record { takes = converted_takes; again = converted_again }

-- ---- a count and what has it

module _ (low high : ℕ) where
  within_only : (n m : ℕ) → within low high n ≡ Some m → (m ≡ n) × (low ≤ m) × (m < high)
  within_only n m e = grind (arith, nat_tests)

  within_valid : (n : ℕ) → low ≤ n → n < high → within low high n ≡ Some n
  within_valid n l h = grind (arith, nat_tests)

pub number-exact : (w : Width) (low high : ℕ) → IsWide w → high ≤ 2 ^ (8 * byte_len w) → IsExact (number w low high)
unfolding number_at
number-exact w low high wide small =
    refined-exact (within low high) (λ n. n) (λ n. (low ≤ n) × (n < high)) (word w) (word-exact w wide)
    (λ n fits. (omega (arith, small, fits.0, fits.1), within_valid low high n fits.0 fits.1))
    (λ n m fits e. let h = within_only low high n m e in (h.0, (h.1, h.2)))

module _ {A : Type 0} (w : Width) (low high : ℕ) (items : ℕ → Spelling A) (count : A → ℕ) (wide : IsWide w) (small : high ≤ 2 ^ (8 * byte_len w)) (exact : (n : ℕ) → IsExact (items n)) (counts : (n : ℕ) (x : A) → (items n).Fits x → count x ≡ n) where
  counted_takes : (bytes : List ℕ) (x : A) (rest : List ℕ) → IsBytes bytes → (counted w low high items count).at bytes ≡ Ok (x, rest) → (bytes ≡ (counted w low high items count).spell x ++ rest) × (counted w low high items count).Fits x
  counted_takes bytes x rest fits e =
      let a = bind_ok (number_at w low high bytes) (λ n. (items n.0).at n.1) (x, rest) e in
      let n = a.0.0 in
      let first = (number-exact w low high wide small).takes bytes n a.0.1 fits a.1 in
      let second = (exact n).takes a.0.1 x rest (IsBytes-after bytes (bytes_of w n) a.0.1 fits first.0) a.2 in
      let same : n ≡ count x = sym (counts n x second.1) in
      let parts : bytes ≡ (bytes_of w n ++ (items n).spell x) ++ rest = first.0 ∙ ap (λ (r : List ℕ). bytes_of w n ++ r) second.0 ∙ sym (append_assoc (bytes_of w n) ((items n).spell x) rest) in
      subst (λ (k : ℕ). (bytes ≡ (bytes_of w k ++ (items k).spell x) ++ rest) × ((low ≤ k) × (k < high) × (items k).Fits x)) same (parts, (first.1.0, first.1.1, second.1))

  counted_again : (x : A) (rest : List ℕ) → (counted w low high items count).Fits x → (counted w low high items count).at ((counted w low high items count).spell x ++ rest) ≡ Ok (x, rest)
  counted_again x rest fits =
      let n = count x in
      let front = bytes_of w n in
      let regrouped : (front ++ (items n).spell x) ++ rest ≡ front ++ ((items n).spell x ++ rest) = append_assoc front ((items n).spell x) rest in
      let one = (number-exact w low high wide small).again n ((items n).spell x ++ rest) (fits.0, fits.1) in
      ap (counted w low high items count).at regrouped ∙ bind_at (number_at w low high (front ++ ((items n).spell x ++ rest))) (λ k. (items k.0).at k.1) _ one ∙ (exact n).again x rest fits.2

  pub counted-exact : IsExact (counted w low high items count)
  counted-exact = record { takes = counted_takes; again = counted_again }

-- ---- so many of one kind

module _ {A : Type 0} (S : Spelling A) (s : IsExact S) where
  repeated_takes : (n : ℕ) (bytes : List ℕ) (xs : List A) (rest : List ℕ) → IsBytes bytes → repeated_at S n bytes ≡ Ok (xs, rest) → (bytes ≡ flat_map S.spell xs ++ rest) × ((length xs ≡ n) × AllByRecursion S.Fits xs)
  repeated_takes zero bytes xs rest fits e =
      subst (λ (p : List A × List ℕ). (bytes ≡ flat_map S.spell p.0 ++ p.1) × ((length p.0 ≡ 0) × AllByRecursion S.Fits p.0)) (ok_is ([], bytes) (xs, rest) e) (refl, (refl, tt))
  repeated_takes (suc n) bytes xs rest fits e =
      let a = bind_ok (S.at bytes) (λ first. repeated_at S n first.1 >>= λ others. Ok (first.0 ∷ others.0, others.1)) (xs, rest) e in
      let b = bind_ok (repeated_at S n a.0.1) (λ others. Ok (a.0.0 ∷ others.0, others.1)) (xs, rest) a.2 in
      let first = s.takes bytes a.0.0 a.0.1 fits a.1 in
      let second = repeated_takes n a.0.1 b.0.0 b.0.1 (IsBytes-after bytes (S.spell a.0.0) a.0.1 fits first.0) b.1 in
      let parts : bytes ≡ (S.spell a.0.0 ++ flat_map S.spell b.0.0) ++ b.0.1 = first.0 ∙ ap (λ (r : List ℕ). S.spell a.0.0 ++ r) second.0 ∙ sym (append_assoc (S.spell a.0.0) (flat_map S.spell b.0.0) b.0.1) in
      subst (λ (p : List A × List ℕ). (bytes ≡ flat_map S.spell p.0 ++ p.1) × ((length p.0 ≡ suc n) × AllByRecursion S.Fits p.0)) (ok_is _ _ b.2) (rw flat_map-cons parts, (ap suc second.1.0, (first.1, second.1.1)))

  repeated_again : (xs : List A) (rest : List ℕ) → AllByRecursion S.Fits xs → repeated_at S (length xs) (flat_map S.spell xs ++ rest) ≡ Ok (xs, rest)
  repeated_again [] rest fits = refl
  repeated_again (x ∷ xs) rest fits =
      let regrouped : flat_map S.spell (x ∷ xs) ++ rest ≡ S.spell x ++ (flat_map S.spell xs ++ rest) = ap (λ (r : List ℕ). r ++ rest) (flat_map-cons S.spell x xs) ∙ append_assoc (S.spell x) (flat_map S.spell xs) rest in
      let one = s.again x (flat_map S.spell xs ++ rest) fits.0 in
      let two = repeated_again xs rest fits.1 in
      ap (repeated_at S (suc (length xs))) regrouped ∙ bind_at (S.at (S.spell x ++ (flat_map S.spell xs ++ rest))) (λ first. repeated_at S (length xs) first.1 >>= λ others. Ok (first.0 ∷ others.0, others.1)) _ one ∙ bind_at (repeated_at S (length xs) (flat_map S.spell xs ++ rest)) (λ others. Ok (x ∷ others.0, others.1)) _ two

  pub repeated-exact : (n : ℕ) → IsExact (repeated S n)
  repeated-exact n = record {
    takes = repeated_takes n;
    again = λ xs rest fits. subst (λ (k : ℕ). repeated_at S k (flat_map S.spell xs ++ rest) ≡ Ok (xs, rest)) fits.0 (repeated_again xs rest fits.1);
  }

-- ---- all of the bytes

pub ended_ok : {A : Type 0} (x : A) (rest : List ℕ) (y : A) → ended x rest ≡ Ok y → (x ≡ y) × (rest ≡ [])
ended_ok x [] y e = (ok_is x y e, refl)
ended_ok x (b ∷ rest) y e = absurd cc

module _ {A : Type 0} (S : Spelling A) (s : IsExact S) where
  pub whole_takes : (bytes : List ℕ) (x : A) → IsBytes bytes → whole S bytes ≡ Ok x → (bytes ≡ S.spell x) × S.Fits x
  whole_takes bytes x fits e =
      let a = bind_ok (S.at bytes) (λ p. ended p.0 p.1) x e in
      let b = ended_ok a.0.0 a.0.1 x a.2 in
      let first = s.takes bytes a.0.0 a.0.1 fits a.1 in
      let none : bytes ≡ S.spell a.0.0 = first.0 ∙ ap (λ (r : List ℕ). S.spell a.0.0 ++ r) b.1 ∙ append-nil (S.spell a.0.0) in
      subst (λ (y : A). (bytes ≡ S.spell y) × S.Fits y) b.0 (none, first.1)

  pub whole_again : (x : A) → S.Fits x → whole S (S.spell x) ≡ Ok x
  whole_again x fits =
      let one : S.at (S.spell x) ≡ Ok (x, []) = subst (λ (r : List ℕ). S.at r ≡ Ok (x, [])) (append-nil (S.spell x)) (s.again x [] fits) in
      bind_at (S.at (S.spell x)) (λ p. ended p.0 p.1) _ one

  -- no spelling begins another
  pub one_spelling : (x y : A) (a b : List ℕ) → S.Fits x → S.Fits y → S.spell x ++ a ≡ S.spell y ++ b → (x ≡ y) × (a ≡ b)
  one_spelling x y a b x_fits y_fits e =
      let same : (x, a) ≡ (y, b) = ok_is _ _ (sym (s.again x a x_fits) ∙ ap S.at e ∙ s.again y b y_fits) in
      (ap (λ (p : A × List ℕ). p.0) same, ap (λ (p : A × List ℕ). p.1) same)
