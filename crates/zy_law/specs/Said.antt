-- What correct replicas said and where they stood, and what is backed by how many.
use Rattle.std.specs.Prelude.{◌≡◌, ◌≢◌, ◌⊎◌, ℕ, ◌<◌, true, false, List, length, All, slice_get, Some}
use Rattle.std.specs.List.{AllPairs}
use Rattle.zy_chain.specs.Stretch.{Mark}
use Rattle.zy_law.specs.Histories.{Passes}
use Rattle.zy_law.specs.World.{Statement, Spoken, Stand, World}

pub record IsCorrect (w : World) (r : ℕ) : Type 0 where
  pub within : r < w.counts.n
  pub honest : w.liar r ≡ false

-- what a replica said, by the statement's number, from 0 on
abbrev pub Says : World → ℕ → ℕ → Spoken → Type 0
Says w r number x = slice_get (w.said r) number ≡ Some x

-- where a replica stood, by the stand's number, from 0 on
abbrev pub Stood : World → ℕ → ℕ → Stand → Type 0
Stood w r number b = slice_get (w.past r) number ≡ Some b

-- one stand of a correct replica
pub record Moment (w : World) : Type 0 where
  pub by : ℕ
  pub correct : IsCorrect w by
  pub number : ℕ
  pub stand : Stand
  pub stood : Stood w by number stand

-- its history passes the mark
abbrev pub At : {w : World} → Moment w → Mark → Type 0
At {w} t m = Passes w.next t.stand.history m

abbrev pub HasSaid : World → ℕ → Statement → Type 0
HasSaid w r s = (number : ℕ) × (x : Spoken) × Says w r number x × (x.what ≡ s)

-- a replica whose statement may be shown: it said so, or it lies
pub record IsVouched (w : World) (s : Statement) (r : ℕ) : Type 0 where
  pub within : r < w.counts.n
  pub said : (w.liar r ≡ true) ⊎ HasSaid w r s

-- so many different replicas stand behind a statement, equal in all its fields
pub record IsBacked (w : World) (count : ℕ) (s : Statement) : Type 0 where
  pub who : List ℕ
  pub many : length who ≡ count
  pub different : AllPairs (λ a b. a ≢ b) who
  pub vouched : All (IsVouched w s) who
