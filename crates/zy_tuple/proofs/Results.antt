-- What follows from a step that did not fail, and from a test.
use Rattle.std.proofs.Common.{◌≡◌, ℕ, Bool, true, false, cond, Option, Some, None, Result, Ok, Err, refl, inl, inr, ◌⊎◌}
use Rattle.std.specs.Prelude.{◌&&◌}
use Rattle.zy_tuple.specs.Reading.{◌>>=◌}

pub both : (a b : Bool) → (a && b) ≡ true → (a ≡ true) × (b ≡ true)
both true b e = (refl, e)
both false b e = absurd cc

pub and_true : (a b : Bool) → a ≡ true → b ≡ true → (a && b) ≡ true
and_true true b e f = f
and_true false b e f = absurd cc

pub chosen : {A : Type 0} (b : Bool) (x y z : A) → cond b x y ≡ z → ((b ≡ true) × (x ≡ z)) ⊎ ((b ≡ false) × (y ≡ z))
chosen true x y z e = inl (refl, e)
chosen false x y z e = inr (refl, e)

pub some_chosen : {A : Type 0} (b : Bool) (x : Option A) (y : A) → cond b x None ≡ Some y → (b ≡ true) × (x ≡ Some y)
some_chosen true x y e = (refl, e)
some_chosen false x y e = absurd cc

pub ok_chosen : {A : Type 0} (b : Bool) (rule : ℕ) (x : Result A ℕ) (y : A) → cond b x (Err rule) ≡ Ok y → (b ≡ true) × (x ≡ Ok y)
ok_chosen true rule x y e = (refl, e)
ok_chosen false rule x y e = absurd cc

pub ok_passed : {A : Type 0} (b : Bool) (rule : ℕ) (x : Result A ℕ) (y : A) → cond b (Err rule) x ≡ Ok y → (b ≡ false) × (x ≡ Ok y)
ok_passed true rule x y e = absurd cc
ok_passed false rule x y e = (refl, e)

-- the value of a step that did not fail
pub bind_ok : {A B : Type 0} (r : Result A ℕ) (f : A → Result B ℕ) (y : B) → (r >>= f) ≡ Ok y → (x : A) × (r ≡ Ok x) × (f x ≡ Ok y)
bind_ok (Ok x) f y e = (x, refl, e)
bind_ok (Err rule) f y e = absurd cc

abbrev done : {A : Type 0} → A → Result A ℕ
done x = Ok x

pub ok_is : {A : Type 0} (x y : A) → done x ≡ done y → x ≡ y
ok_is x y e = cc

pub some_is : {A : Type 0} (x y : A) → Some x ≡ Some y → x ≡ y
some_is x y e = cc
