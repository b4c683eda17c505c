-- What a replica tells of its past as it leaves a view.
use Rattle.std.specs.Prelude.{ℕ, List, ◌∷◌, Option, option_to_list}
use Rattle.zy_base.specs.declared.ids.Digest.{Digest}
use Rattle.zy_chain.specs.Stretch.{Mark, Stretch}

pub record PlainReport : Type 0 where
  -- the number of the replica
  pub by : ℕ
  -- the last view in which it was active
  pub last_view : ℕ
  -- the mark with which that view began
  pub began : Mark
  -- the mark of its longest certificate of speculative responses in that view
  pub spec : Option Mark
  -- the view of its stable proof
  pub stable_view : ℕ
  -- the digest of the snapshot at the stable mark
  pub state : Digest
  -- the stable mark, and the entries above it
  pub stretch : Stretch

-- the marks that a report proves, in the order in which they are told
abbrev pub proven : PlainReport → List Mark
proven r = r.stretch.base ∷ r.began ∷ option_to_list r.spec
