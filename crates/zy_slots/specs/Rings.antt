-- Rings: lists of places whose members name their neighbours. The ring's own link names the last and the first one.
use Rattle.std.specs.Prelude.{◌≡◌, ℕ, List, [], ◌∷◌, ◌++◌, Option, Some, None}
use Rattle.zy_slots.specs.declared.link.Link.{Link}

abbrev pub first_of : List ℕ → Option ℕ
first_of [] = None
first_of (place ∷ places) = Some place

-- the last place, or the one given where there is none
abbrev pub last_from : Option ℕ → List ℕ → Option ℕ
last_from before [] = before
last_from before (place ∷ places) = last_from (Some place) places

abbrev pub last_of : List ℕ → Option ℕ
last_of places = last_from None places

-- the neighbours of what stands between these
abbrev pub between : List ℕ → List ℕ → Link
between earlier later = record { prev = last_of earlier; next = first_of later }

-- each place has its neighbours as its link; the ring's own link, at None, has the last and the first place
pub record IsRing (at : Option ℕ → Link) (places : List ℕ) : Type 0 where
  pub ends : at None ≡ between places places
  pub links : (earlier : List ℕ) (place : ℕ) (later : List ℕ) → places ≡ earlier ++ place ∷ later → at (Some place) ≡ between earlier later
