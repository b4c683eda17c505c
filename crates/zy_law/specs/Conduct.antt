-- Conduct to the letter: what a correct replica keeps, also where safety takes less from it.
use Rattle.std.specs.Prelude.{◌≡◌, ℕ, ◌+◌, ◌%◌, ◌<◌, ◌≤◌, List}
use Rattle.zy_base.specs.declared.ids.Digest.{Digest}
use Rattle.zy_chain.specs.Stretch.{Mark}
use Rattle.zy_choose.specs.Reports.{PlainReport}
use Rattle.zy_law.specs.Formed.{IsFormed, IsFormedNew, IsFormedStart}
use Rattle.zy_law.specs.Lawful.{IsLawful, IsVote}
use Rattle.zy_law.specs.Said.{IsCorrect, Says, Stood}
use Rattle.zy_law.specs.World.{Answer, Spoken, Stand, World}
use Rattle.zy_law.specs.World.Statement.{Order, Spec, Began, Change, New}

-- ---- the mode

-- Active in a view as it makes its statement of this number: its last stand has the view, and so far it has left for none
-- above. A replica that has is leaving, until it stands in a greater view.
pub record IsActive (w : World) (r number when view : ℕ) : Type 0 where
  pub stand : Stand
  pub stood : Stood w r when stand
  pub view_is : stand.view ≡ view
  pub unleft : (earlier : ℕ) (y : Spoken) (left : ℕ) (report : PlainReport) → earlier < number → Says w r earlier y → y.what ≡ Change left report → left ≤ view

-- Responses, local commits and checkpoints are said only while active in their view.
pub record SaidWhileActive (w : World) : Type 0 where
  pub responses : (r number : ℕ) (x : Spoken) (view : ℕ) (m : Mark) (a : Answer) → IsCorrect w r → Says w r number x → x.what ≡ Spec view m a
      → IsActive w r number x.when view
  pub votes : (r number : ℕ) (x : Spoken) (view : ℕ) (m : Mark) → IsCorrect w r → Says w r number x → IsVote view m x.what
      → IsActive w r number x.when view

-- While a replica is leaving its history stays: it grows within a view only where all that was said by then has left for none
-- above.
abbrev pub HistoryStaysWhileLeaving : World → Type 0
HistoryStaysWhileLeaving w =
    (r number at : ℕ) (x : Spoken) (a b : Stand) (left : ℕ) (report : PlainReport) → IsCorrect w r → Stood w r at a → Stood w r (at + 1) b → a.view ≡ b.view
    → Says w r number x → x.when ≤ at → x.what ≡ Change left report → left ≤ a.view

-- ---- once

-- One statement of each kind: a second one is never made, not even in the same words.
pub record SaidOnce (w : World) : Type 0 where
  -- one leave for a view, whatever it reports
  pub leaves : (r number other : ℕ) (x y : Spoken) (view : ℕ) (report second : PlainReport) → IsCorrect w r → Says w r number x → Says w r other y
      → x.what ≡ Change view report → y.what ≡ Change view second → number ≡ other
  -- one confirmation for a view
  pub confirmations : (r number other : ℕ) (x y : Spoken) (view : ℕ) (m k : Mark) → IsCorrect w r → Says w r number x → Says w r other y
      → x.what ≡ Began view m → y.what ≡ Began view k → number ≡ other
  -- one new view for a view
  pub news : (r number other : ℕ) (x y : Spoken) (view : ℕ) (reports second : List PlainReport) → IsCorrect w r → Says w r number x → Says w r other y
      → x.what ≡ New view reports → y.what ≡ New view second → number ≡ other
  -- one order for a place of a view
  pub orders : (r number other : ℕ) (x y : Spoken) (view : ℕ) (m k : Mark) (request second : Digest) → IsCorrect w r → Says w r number x → Says w r other y
      → x.what ≡ Order view m request → y.what ≡ Order view k second → m.place ≡ k.place → number ≡ other

-- ---- well formed

-- The report of a leave breaks no rule, and what is confirmed is the choice of a valid new view whose reports break none.
pub record AreReportsFormed (w : World) : Type 0 where
  pub reports : (r number : ℕ) (x : Spoken) (view : ℕ) (report : PlainReport) → IsCorrect w r → Says w r number x → x.what ≡ Change view report
      → IsFormed w view report
  pub confirmed : (r number : ℕ) (x : Spoken) (view : ℕ) (m : Mark) → IsCorrect w r → Says w r number x → x.what ≡ Began view m
      → IsFormedStart w view m

-- It is given by its primary, and is valid.
pub record IsGiven (w : World) (r view : ℕ) (reports : List PlainReport) : Type 0 where
  pub primary : view % w.counts.n ≡ r
  pub formed : IsFormedNew w view reports

-- So is each new view.
abbrev pub NewsAreGiven : World → Type 0
NewsAreGiven w =
    (r number : ℕ) (x : Spoken) (view : ℕ) (reports : List PlainReport) → IsCorrect w r → Says w r number x → x.what ≡ New view reports → IsGiven w r view reports

-- ---- the whole

pub record IsConduct (w : World) : Type 0 where
  -- the nine rules, as safety takes them
  pub lawful : IsLawful w
  -- and what they say besides
  pub active : SaidWhileActive w
  pub stays : HistoryStaysWhileLeaving w
  pub once : SaidOnce w
  pub formed : AreReportsFormed w
  pub given : NewsAreGiven w
