-- When the history up to a mark is fixed: what a client may count as complete, and what may become stable.
use Rattle.std.specs.Prelude.{ℕ}
use Rattle.zy_base.specs.declared.ids.Digest.{Digest}
use Rattle.zy_chain.specs.Stretch.{Mark}
use Rattle.zy_law.specs.World.{Answer, World}
use Rattle.zy_law.specs.World.Statement.{Spec, Local, Check}
use Rattle.zy_law.specs.Said.{IsBacked}

-- a commit certificate, whatever it answers
abbrev pub IsCertified : World → ℕ → Mark → Type 0
IsCertified w view m = (a : Answer) × IsBacked w w.counts.cert (Spec view m a)

pub data IsFixed (w : World) (view : ℕ) (m : Mark) : Type 0 where
  -- by matching speculative responses alone
  fast : (a : Answer) → IsBacked w w.counts.fast (Spec view m a) → IsFixed w view m
  -- by local commits of a commit certificate
  slow : IsCertified w view m → IsBacked w w.counts.local (Local view m) → IsFixed w view m
  -- by a stable proof
  stable : (state : Digest) → IsBacked w w.counts.local (Check view m state) → IsFixed w view m
