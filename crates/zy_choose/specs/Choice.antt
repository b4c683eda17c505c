-- The choice of the history with which a new view begins, out of the reports on the views before it (after Zelma,
-- 2018). It compares whole histories, under what one entry more makes of a head.
use Rattle.std.specs.Prelude.{Option, ◌≡◌, ◌≢◌, ℕ, ◌<◌, ◌≤◌, ◌==◌, ◌&&◌, List, ◌∷◌, ◌++◌, All, Any, Contains, filter, map, count_by, position, replicate, Some}
use Rattle.std.specs.List.{flat_map}
use Rattle.zy_base.specs.declared.ids.Digest.{Digest}
use Rattle.zy_chain.specs.declared.entry.Entry.{Entry}
use Rattle.zy_chain.specs.Stretch.{Mark}
use Rattle.zy_choose.specs.Marks.{has_mark}
use Rattle.zy_choose.specs.Reports.{PlainReport, proven}

-- the greatest last view
pub record IsGreatestView (reports : List PlainReport) (view : ℕ) : Type 0 where
  pub told : Any (λ r. r.last_view ≡ view) reports
  pub greatest : All (λ r. r.last_view ≤ view) reports

-- the reports that have this last view
abbrev pub last_in : ℕ → List PlainReport → List PlainReport
last_in view reports = filter (λ r. r.last_view == view) reports

-- the furthest mark that some report proves
pub record IsAnchor (reports : List PlainReport) (m : Mark) : Type 0 where
  pub proved : Any (λ r. Contains (proven r) m) reports
  pub furthest : All (λ r. All (λ other. other.place ≤ m.place) (proven r)) reports

-- none proves another head there
abbrev pub IsOnlyAnchor : List PlainReport → Mark → Type 0
IsOnlyAnchor reports m = All (λ r. All (λ other. other.place ≡ m.place → other ≡ m) (proven r)) reports

-- the history up to a mark past the anchor, with the anchor in it, stands in so many reports
pub record IsAgreed (next : Digest → Entry → Digest) (agree : ℕ) (reports : List PlainReport) (anchor m : Mark) : Type 0 where
  pub past : anchor.place < m.place
  pub enough : agree ≤ count_by (λ r. has_mark next r.stretch anchor && has_mark next r.stretch m) reports

-- the furthest mark that is agreed on, and the anchor where there is none
pub data IsPicked (next : Digest → Entry → Digest) (agree : ℕ) (reports : List PlainReport) (anchor m : Mark) : Type 0 where
  agreed : IsAgreed next agree reports anchor m → ((other : Mark) → IsAgreed next agree reports anchor other → other.place ≤ m.place)
      → IsPicked next agree reports anchor m
  anchored : ((other : Mark) → IsAgreed next agree reports anchor other → ⊥) → m ≡ anchor → IsPicked next agree reports anchor m

-- The choice: of the reports with the greatest last view, what is picked past the anchor of these.
pub record IsChoice (next : Digest → Entry → Digest) (agree : ℕ) (reports : List PlainReport) (m : Mark) : Type 0 where
  pub view : ℕ
  pub anchor : Mark
  pub greatest : IsGreatestView reports view
  pub anchored : IsAnchor (last_in view reports) anchor
  pub picked : IsPicked next agree (last_in view reports) anchor m

-- The provider: the first report with the greatest last view that has the choice.
abbrev pub provider_of : (Digest → Entry → Digest) → ℕ → Mark → List PlainReport → Option ℕ
provider_of next view m reports = position (λ r. (r.last_view == view) && has_mark next r.stretch m) reports

-- a choice whose anchor has one head, with its provider by its place in the list
pub record IsChosen (next : Digest → Entry → Digest) (agree : ℕ) (reports : List PlainReport) (provider : ℕ) (m : Mark) : Type 0 where
  pub choice : IsChoice next agree reports m
  pub only : IsOnlyAnchor (last_in choice.view reports) choice.anchor
  pub provided : provider_of next choice.view m reports ≡ Some provider

-- the heads at a place, in the order of the marks
abbrev pub heads_in : ℕ → List Mark → List Digest
heads_in place marks = map (λ (m : Mark). m.head) (filter (λ m. m.place == place) marks)

-- Two heads stand at the anchor's place: the first that are different.
pub record IsClash (reports : List PlainReport) (first second : Digest) : Type 0 where
  pub view : ℕ
  pub anchor : Mark
  pub greatest : IsGreatestView reports view
  pub anchored : IsAnchor (last_in view reports) anchor
  -- how often the first comes again before the second
  pub again : ℕ
  pub later : List Digest
  pub heads : heads_in anchor.place (flat_map proven (last_in view reports)) ≡ first ∷ replicate again first ++ second ∷ later
  pub different : first ≢ second
