-- The furthest of the marks in a list, while one head or two stand at their place.
use Rattle.std.specs.Prelude.{◌≡◌, ◌≢◌, ℕ, ◌≤◌, List, [], ◌∷◌, ◌++◌, All, replicate}
use Rattle.zy_base.specs.declared.ids.Digest.{Digest}
use Rattle.zy_chain.specs.Stretch.{Mark}
use Rattle.zy_choose.specs.Choice.{heads_in}
use Rattle.zy_choose.specs.declared.furthest.Furthest.{Furthest}
use Rattle.zy_choose.specs.declared.furthest.Furthest.TheVariants.{Nothing, One, Two}

-- one head, as often as it comes
pub record IsOne (place : ℕ) (head : Digest) (marks : List Mark) : Type 0 where
  pub furthest : All (λ m. m.place ≤ place) marks
  pub again : ℕ
  pub heads : heads_in place marks ≡ head ∷ replicate again head

-- the first two heads
pub record IsTwo (place : ℕ) (first second : Digest) (marks : List Mark) : Type 0 where
  pub furthest : All (λ m. m.place ≤ place) marks
  pub again : ℕ
  pub later : List Digest
  pub heads : heads_in place marks ≡ first ∷ replicate again first ++ second ∷ later
  pub different : first ≢ second

abbrev pub IsFurthest : Furthest → List Mark → Type 0
IsFurthest Nothing marks = marks ≡ []
IsFurthest (One place head) marks = IsOne place.0 head marks
IsFurthest (Two place first second) marks = IsTwo place.0 first second marks
